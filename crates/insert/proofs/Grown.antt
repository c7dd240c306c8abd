-- What is placed and settled is the tree with the key inserted. Assumes nothing.
use mathlib.Core.Path.{◌≡◌, refl, sym, ap, ◌∙◌, subst}
use mathlib.Core.Bool.{true, false}
use mathlib.Core.List.{List, [], ◌∷◌, ◌++◌}
use mathlib.Core.Option.{some}
use Prim.Native.Nat.{ℕ, suc, ◌+◌, ◌≤◌, ◌<◌}
use native.Mathlib.Omega.{arith}
use lib.Dec.{leb}
use lib.ListN.{length, length-append}
use borrow.Author.Tests.{le-leb, lt-leb}
use Rattle.tree.specs.Key.{Key, Bytes, key_max}
use Rattle.tree.specs.Tree.{Tree, nodes_t}
use Rattle.tree.specs.Image.{numbers_w}
use Rattle.tree.specs.Search.{get_t, looked_t}
use Rattle.tree.specs.Insert.{insert_t}
use Rattle.tree.specs.Told.{Told, done, refusal}
use Rattle.tree.specs.Calls.{insert_call}
use Rattle.tree.proofs.InsertWf.{insert-wf}
use Rattle.slots.specs.Layout.{slots_in}
use Rattle.slots.specs.Records.{run}
use Rattle.pool.specs.Pool.{pool_tree}
use Rattle.pool.specs.Rule.{PoolRule}
use Rattle.pool.specs.Post.{Meets}
use Rattle.slots.specs.Bare.{Bare, bare_at, bares_from, bares_t}
use Rattle.splice.specs.Splice.{Linked, Settled}
use Rattle.pool.proofs.Decode.{slots_of_lem, lengths_stay}
use Rattle.slots.proofs.Runs.{run_join, run_length, run_ext, append_parts}
use Rattle.pool.proofs.Stands.{Holds}
use Rattle.pool.proofs.Answers.{no-rule}
use Rattle.pool.proofs.Ruled.{rule-tree}
use Rattle.splice.proofs.Bares.{bares_f-length, holds-bares, whole-tree}
use Rattle.search.proofs.Answers.{fits_not, fits_well}
use Rattle.insert.specs.Splices.{Replaced, total, Placed}

bares_t-length : (t : Tree) → length (bares_t t) ≡ nodes_t t
unfolding bares_t nodes_t
bares_t-length t = ap suc (bares_f-length 0 t.kids)

-- Three lists one behind another are a run in three parts.
module _ {A : Type 0} (at : ℕ → A) (xs ys zs : List A) where
  pub record Three : Type 0 where
    pub first : run at 0 (length xs) ≡ xs
    pub second : run at (length xs) (length ys) ≡ ys
    pub third : run at (length xs + length ys) (length zs) ≡ zs

  in_three : run at 0 (length xs + (length ys + length zs)) ≡ run at 0 (length xs) ++ (run at (length xs) (length ys) ++ run at (length xs + length ys) (length zs))
  in_three =
      let z : 0 + length xs ≡ length xs = omega arith in
      run_join at 0 (length xs) (length ys + length zs)
      ∙ ap (λ (i : ℕ). run at 0 (length xs) ++ run at i (length ys + length zs)) z
      ∙ ap (λ (l : List A). run at 0 (length xs) ++ l) (run_join at (length xs) (length ys) (length zs))

  three_whole : Three → run at 0 (length xs + (length ys + length zs)) ≡ xs ++ (ys ++ zs)
  three_whole t = in_three ∙ cc (t.first, t.second, t.third)

  three_parts : run at 0 (length xs + (length ys + length zs)) ≡ xs ++ (ys ++ zs) → Three
  three_parts e =
      let p = append_parts (run at 0 (length xs)) (run at (length xs) (length ys) ++ run at (length xs + length ys) (length zs)) xs (ys ++ zs) (run_length at 0 (length xs)) (sym in_three ∙ e) in
      let q = append_parts (run at (length xs) (length ys)) (run at (length xs + length ys) (length zs)) ys zs (run_length at (length xs) (length ys)) p.1 in
      record { first = p.0; second = q.0; third = q.1 }

-- The records of u are those of t, with xs from the at-th on where `was` of them stood.
pub record Splits (t u : Tree) (at was : ℕ) (xs : List Bare) : Type 0 where
  pub front : List Bare
  pub gone : List Bare
  pub back : List Bare
  pub at-is : length front ≡ at
  pub was-is : length gone ≡ was
  pub old : bares_t t ≡ front ++ (gone ++ back)
  pub new : bares_t u ≡ front ++ (xs ++ back)

count_three : (t : Tree) (xs ys zs : List Bare) → bares_t t ≡ xs ++ (ys ++ zs) → nodes_t t ≡ length xs + (length ys + length zs)
count_three t xs ys zs e = omega (arith, bares_t-length t, ap length e, length-append xs (ys ++ zs), length-append ys zs)

module _ {ws bs : List ℕ} {t u : Tree} {at was : ℕ} {xs : List Bare} (h : Holds ws bs t) (s : Splits t u at was xs) where
  nodes_old : nodes_t t ≡ at + (was + length s.back)
  nodes_old = omega (arith, count_three t s.front s.gone s.back s.old, s.at-is, s.was-is)

  nodes_new : nodes_t u ≡ at + (length xs + length s.back)
  nodes_new = omega (arith, count_three u s.front xs s.back s.new, s.at-is)

  total-is : total ws was xs ≡ nodes_t u
  total-is = omega (arith, h.nodes, nodes_old, nodes_new)

  replaced-bares : (us cs : List ℕ) → Replaced ws bs us cs at was xs → bares_from us cs 0 (nodes_t u) ≡ bares_t u
  replaced-bares us cs r =
      let no = count_three t s.front s.gone s.back s.old in
      let nu = count_three u s.front xs s.back s.new in
      let la = s.at-is in
      let lw = s.was-is in
      let hn = h.nodes in
      let p = three_parts (bare_at ws bs) s.front s.gone s.back (sym (ap (bares_from ws bs 0) no) ∙ holds-bares ws bs t h ∙ s.old) in
      let f : bares_from us cs 0 (length s.front) ≡ s.front =
      run_ext (bare_at us cs) (bare_at ws bs) 0 0 (length s.front) (λ i l. r.front (0 + i) (omega arith)) ∙ p.first in
      let m : bares_from us cs (length s.front) (length xs) ≡ xs = rw la r.slots in
      let b : bares_from us cs (length s.front + length xs) (length s.back) ≡ s.back =
      run_ext (bare_at us cs) (bare_at ws bs) (length s.front + length xs) (length s.front + length s.gone) (length s.back) (λ i l. rw (la, lw) (r.back i (omega arith))) ∙ p.third in
      ap (bares_from us cs 0) nu ∙ three_whole (bare_at us cs) s.front xs s.back (record { first = f; second = m; third = b }) ∙ sym s.new

module _ {ws bs : List ℕ} {t : Tree} (is : pool_tree ws bs ≡ some t) (h : Holds ws bs t) (key : Key) (v : ℕ) (bytes : Bytes key) (short : length key ≤ key_max) where
  -- there is room for so many
  room-is : h.slots ≡ slots_in bs
  room-is = omega (arith, h.lengths.labels)

  grown_tree : {at was : ℕ} {xs : List Bare} (us vs cs : List ℕ) → Splits t (insert_t t key v) at was xs → Replaced ws bs us cs at was xs → Settled us vs (total ws was xs)
      → total ws was xs ≤ slots_in bs → pool_tree vs cs ≡ some (insert_t t key v)
  grown_tree {at} {was} {xs} us vs cs s r d n =
      let u = insert_t t key v in
      let e = total-is h s in
      let same : bares_from vs cs 0 (nodes_t u) ≡ bares_from us cs 0 (nodes_t u) = run_ext (bare_at vs cs) (bare_at us cs) 0 0 (nodes_t u) (λ i l. d.bares cs (0 + i)) in
      whole-tree vs cs u h.slots
      (record {
        lengths = lengths_stay ws bs vs cs h.slots (d.len ∙ r.len_w) r.len_b h.lengths;
        nodes = d.nodes ∙ e;
        room = omega (arith, room-is);
        bares = same ∙ replaced-bares h s us cs r;
        links = subst (λ (m : ℕ). Linked vs 0 m) e d.spans;
        wf = insert-wf t key v h.wf bytes short;
      })

  module _ {at was : ℕ} {xs : List Bare} (s : Splits t (insert_t t key v) at was xs) where
    pub placed_meets : (vs cs : List ℕ) (told : Told) → told ≡ done (numbers_w (get_t t key) (looked_t t key ∷ []))
        → Placed ws bs vs cs at was xs → Meets (insert_call (pool_tree ws bs) (slots_in bs) key v) told ws bs vs cs
    unfolding insert_call
    placed_meets vs cs told e x =
        let r = x.replaced in
        let d = x.settled in
        let z : leb (nodes_t (insert_t t key v)) (slots_in bs) ≡ true =
        le-leb (nodes_t (insert_t t key v)) (slots_in bs) (omega (arith, total-is h s, x.fits)) in
        let l = lengths_stay ws bs vs cs h.slots (d.len ∙ r.len_w) r.len_b h.lengths in
        let slots = slots_of_lem vs cs h.slots l ∙ sym (slots_of_lem ws bs h.slots h.lengths) in
        rw (is, fits_well key short, insert_call, z)
        (record { said = e; tree = grown_tree x.spliced vs cs s r d x.fits; slots = slots })

    pub full_meets : slots_in bs < total ws was xs
        → Meets (insert_call (pool_tree ws bs) (slots_in bs) key v) (refusal 4) ws bs ws bs
    unfolding insert_call
    full_meets n =
        let z : leb (nodes_t (insert_t t key v)) (slots_in bs) ≡ false =
        lt-leb (nodes_t (insert_t t key v)) (slots_in bs) (omega (arith, total-is h s)) in
        rw (is, fits_well key short, insert_call, z) (record { said = refl; words = refl; labels = refl })

-- Refusals 1 and 2
module _ (ws bs key : List ℕ) (v : ℕ) where
  pub insert-refused : (PoolRule ws bs → ⊥) → Meets (insert_call (pool_tree ws bs) (slots_in bs) key v) (refusal 1) ws bs ws bs
  unfolding insert_call
  insert-refused h = rw (no-rule ws bs h) (record { said = refl; words = refl; labels = refl })

  pub insert_long : PoolRule ws bs → ¬ (length key ≤ key_max) → Meets (insert_call (pool_tree ws bs) (slots_in bs) key v) (refusal 2) ws bs ws bs
  unfolding insert_call
  insert_long r h = rw ((rule-tree ws bs r).1, fits_not key h, insert_call) (record { said = refl; words = refl; labels = refl })
