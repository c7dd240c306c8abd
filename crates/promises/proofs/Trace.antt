-- Order leaves no trace, of the calls: two pools built by calls from keys of at most 255 bytes that hold the same pairs
-- are written and searched alike; and two accepted changes of different keys may change places. Assumes nothing.
use mathlib.Core.Path.{◌≡◌, refl, sym, ap, ◌∙◌}
use mathlib.Core.List.{List}
use mathlib.Core.Option.{Option, some, bind}
use Prim.Native.Nat.{ℕ}
use lib.ListN.{length}
use Rattle.tree.specs.Key.{Key}
use Rattle.tree.specs.Tree.{Tree, empty, pairs_t}
use Rattle.tree.specs.Insert.{insert_t}
use Rattle.tree.specs.Remove.{remove_t, clear_t}
use Rattle.tree.specs.Split.{halves, split_t}
use Rattle.tree.specs.Told.{Answer, bare_told, inserted_told, got_told, written_told}
use Rattle.tree.specs.Calls.{get_call, longest_call, shared_call}
use Rattle.tree.specs.declared.Got.{Got}
use Rattle.tree.specs.declared.Prefixed.{Prefixed}
use Rattle.tree.specs.declared.Sharing.{Sharing}
use Rattle.tree.specs.declared.Written.{Written}
use Rattle.tree.proofs.OneAnswer.{written_one, got_one, prefixed_one, sharing_one}
use Rattle.pool.specs.Lent.{Lent, tree_in}
use Rattle.pool.proofs.Outcomes.{make_leaves, clear_leaves}
use Rattle.search.specs.Post.{GetAllows, LongestAllows, SharedAllows}
use Rattle.writer.specs.Post.{WriteAllows}
use Rattle.order.specs.Built.{Built, fresh, inserted, erased, cleared, detached, remaining}
use Rattle.order.proofs.Trace.{no_trace_pairs, swap_inserts, swap_removes, swap_insert_remove}
use Rattle.promises.specs.Pools as pools
use Rattle.promises.specs.Pools.{Accepted, PoolBuilt, pairs_for, pairs_in}
use Rattle.promises.specs.Changes.{Change, insert, remove, key_of, InsertedBy, RemovedBy, ChangedBy}
use Rattle.promises.proofs.Calls.{insert-leaves, remove-leaves, split_leaves}
use Rattle.promises.proofs.Writes.{WroteSame, wrote_same}

-- One pool holds one tree.
one_tree : {o : Option Tree} {t u : Tree} → o ≡ some t → o ≡ some u → t ≡ u
one_tree e f = cc

-- A pool so built holds a tree so built.
pub record HoldsBuilt (l : Lent) : Type 0 where
  pub tree : Tree
  pub held : tree_in l ≡ some tree
  pub built : Built tree

holds_built : {l : Lent} (t u : Tree) → tree_in l ≡ some t → t ≡ u → Built u → HoldsBuilt l
holds_built t u e same b = record { tree = u; held = e ∙ ap (λ (x : Tree). some x) same; built = b }

pub pool_built : {l : Lent} → PoolBuilt l → HoldsBuilt l
pool_built (pools.fresh was {is} r d e) = record { tree = empty; held = make_leaves (bare_told r) was is d e; built = fresh }
pool_built (pools.inserted {was} {is} key number r short d e h) =
    let i = pool_built h in
    let x = insert-leaves key number (inserted_told r) was is d e in
    let same : insert_t x.tree key number ≡ insert_t i.tree key number = ap (λ (t : Tree). insert_t t key number) (one_tree x.held i.held) in
    holds_built _ _ x.left same (inserted key number short i.built)
pool_built (pools.removed {was} {is} key r d e h) =
    let i = pool_built h in
    let x = remove-leaves key (got_told r) was is d e in
    let taken : remove_t i.tree key ≡ some x.rest = rw (one_tree i.held x.held) x.removed in
    holds_built _ _ x.left refl (erased key taken i.built)
pool_built (pools.cleared {was} {is} r d e h) =
    let i = pool_built h in
    let x = clear_leaves (bare_told r) was is d e in
    holds_built _ _ x.left (ap clear_t (one_tree x.held i.held)) (cleared i.built)
pool_built (pools.remaining {was} {is} was₂ is₂ prefix r d e h) =
    let i = pool_built h in
    let x = split_leaves prefix (bare_told r) was was₂ is is₂ d e in
    let parted : split_t i.tree prefix ≡ halves x.detached x.rest = rw (one_tree i.held x.held) x.parted in
    holds_built _ _ x.left refl (remaining prefix parted i.built)
pool_built (pools.detached {was} {is₂} was₂ is prefix r d e h) =
    let i = pool_built h in
    let x = split_leaves prefix (bare_told r) was was₂ is is₂ d e in
    let parted : split_t i.tree prefix ≡ halves x.detached x.rest = rw (one_tree i.held x.held) x.parted in
    holds_built _ _ x.left₂ refl (detached prefix parted i.built)

-- Two that hold the same pairs hold the same tree,
same_pairs : (t u : Tree) → pairs_for (some t) ≡ pairs_for (some u) → pairs_t t ≡ pairs_t u
unfolding pairs_for
same_pairs t u e = cc

pub no_trace_pool : {l m : Lent} → PoolBuilt l → PoolBuilt m → pairs_in l ≡ pairs_in m → tree_in l ≡ tree_in m
no_trace_pool {l} {m} p q e =
    let x = pool_built p in
    let y = pool_built q in
    let f : pairs_for (some x.tree) ≡ pairs_for (some y.tree) = ap pairs_for (sym x.held) ∙ e ∙ ap pairs_for y.held in
    x.held ∙ ap (λ (t : Tree). some t) (no_trace_pairs x.built y.built (same_pairs x.tree y.tree f)) ∙ sym y.held

-- so each written with room gives the same bytes and numbers at the fronts of its outputs, and tells the same lengths.
module _ {l m : Lent} (p : PoolBuilt l) (q : PoolBuilt m) (e : pairs_in l ≡ pairs_in m) where
  pub no_trace_written : {tree numbers tree' numbers' tree₂ numbers₂ tree₂' numbers₂' : List ℕ} (r s : Answer Written)
      → WriteAllows r l tree numbers tree' numbers' → WriteAllows s m tree₂ numbers₂ tree₂' numbers₂' → Accepted (written_told r) → Accepted (written_told s)
      → WroteSame r s tree numbers tree' numbers' tree₂ numbers₂ tree₂' numbers₂'
  no_trace_written r s a b f g = wrote_same l m (no_trace_pool p q e) r s a b f g

  -- Into outputs of equal lengths the same is told, with any number.
  pub no_trace_told : {tree numbers tree' numbers' tree₂ numbers₂ tree₂' numbers₂' : List ℕ} (r s : Answer Written)
      → WriteAllows r l tree numbers tree' numbers' → WriteAllows s m tree₂ numbers₂ tree₂' numbers₂' → length tree ≡ length tree₂ → length numbers ≡ length numbers₂
      → r ≡ s
  no_trace_told r s a b f g = written_one r s (cc (a.said, b.said, no_trace_pool p q e))

  -- Each search answers alike, down to how many nodes it looked at.
  module _ (key : Key) where
    pub no_trace_get : (r s : Answer Got) → GetAllows key r l → GetAllows key s m → r ≡ s
    no_trace_get r s a b = got_one r s (a ∙ ap (λ (o : Option Tree). get_call o key) (no_trace_pool p q e) ∙ sym b)

    pub no_trace_longest : (r s : Answer Prefixed) → LongestAllows key r l → LongestAllows key s m → r ≡ s
    no_trace_longest r s a b = prefixed_one r s (a ∙ ap (λ (o : Option Tree). longest_call o key) (no_trace_pool p q e) ∙ sym b)

    pub no_trace_shared : (r s : Answer Sharing) → SharedAllows key r l → SharedAllows key s m → r ≡ s
    no_trace_shared r s a b = sharing_one r s (a ∙ ap (λ (o : Option Tree). shared_call o key) (no_trace_pool p q e) ∙ sym b)

-- Two changes of different keys, accepted in either order, leave the same tree.
module _ {l : Lent} (p : PoolBuilt l) where
  abbrev start : HoldsBuilt l
  start = pool_built p

  -- an insert and a remove, from either side
  swap_mixed : (k : Key) (v : ℕ) (q : Key) (a b c d : Lent) → ¬ (k ≡ q) → InsertedBy k v l a → RemovedBy q a b → RemovedBy q l c → InsertedBy k v c d → tree_in b ≡ tree_in d
  unfolding bind
  swap_mixed k v q a b c d ne f g h i =
      let f' = insert-leaves k v (inserted_told f.answer) l a f.allowed f.accepted in
      let g' = remove-leaves q (got_told g.answer) a b g.allowed g.accepted in
      let h' = remove-leaves q (got_told h.answer) l c h.allowed h.accepted in
      let i' = insert-leaves k v (inserted_told i.answer) c d i.allowed i.accepted in
      let one = swap_insert_remove start.built k v q f.short ne in
      cc (f'.held, f'.left, g'.held, g'.removed, g'.left, h'.held, h'.removed, h'.left, i'.held, i'.left, start.held, one)

  pub swap_trees : (x y : Change) (a b c d : Lent) → ¬ (key_of x ≡ key_of y) → ChangedBy x l a → ChangedBy y a b → ChangedBy y l c → ChangedBy x c d → tree_in b ≡ tree_in d
  unfolding bind
  swap_trees (insert k v) (insert q w) a b c d ne f g h i =
      let f' = insert-leaves k v (inserted_told f.answer) l a f.allowed f.accepted in
      let g' = insert-leaves q w (inserted_told g.answer) a b g.allowed g.accepted in
      let h' = insert-leaves q w (inserted_told h.answer) l c h.allowed h.accepted in
      let i' = insert-leaves k v (inserted_told i.answer) c d i.allowed i.accepted in
      let one = swap_inserts start.built k q v w f.short g.short ne in
      cc (f'.held, f'.left, g'.held, g'.left, h'.held, h'.left, i'.held, i'.left, start.held, one)
  swap_trees (insert k v) (remove q) a b c d ne f g h i = swap_mixed k v q a b c d ne f g h i
  swap_trees (remove k) (insert q w) a b c d ne f g h i = sym (swap_mixed q w k c d a b (λ e. ne (sym e)) h i f g)
  swap_trees (remove k) (remove q) a b c d ne f g h i =
      let f' = remove-leaves k (got_told f.answer) l a f.allowed f.accepted in
      let g' = remove-leaves q (got_told g.answer) a b g.allowed g.accepted in
      let h' = remove-leaves q (got_told h.answer) l c h.allowed h.accepted in
      let i' = remove-leaves k (got_told i.answer) c d i.allowed i.accepted in
      let one = swap_removes start.built k q ne in
      cc (f'.held, f'.removed, f'.left, g'.held, g'.removed, g'.left, h'.held, h'.removed, h'.left, i'.held, i'.removed, i'.left, start.held, one)

  -- So the two are written alike.
  pub swap_calls : (x y : Change) (a b c d : Lent) → ¬ (key_of x ≡ key_of y) → ChangedBy x l a → ChangedBy y a b → ChangedBy y l c → ChangedBy x c d
      → {tree numbers tree' numbers' tree₂ numbers₂ tree₂' numbers₂' : List ℕ} (r s : Answer Written)
      → WriteAllows r b tree numbers tree' numbers' → WriteAllows s d tree₂ numbers₂ tree₂' numbers₂' → Accepted (written_told r) → Accepted (written_told s)
      → WroteSame r s tree numbers tree' numbers' tree₂ numbers₂ tree₂' numbers₂'
  swap_calls x y a b c d ne f g h i r s j k = wrote_same b d (swap_trees x y a b c d ne f g h i) r s j k
