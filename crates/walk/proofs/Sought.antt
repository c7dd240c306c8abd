-- The loop that looks for the next key: what is still ahead of it gives what the whole tree gives. Assumes nothing.
use mathlib.Core.Path.{◌≡◌, refl, sym, ap, ◌∙◌}
use mathlib.Core.Bool.{true, false}
use mathlib.Core.List.{List, [], ◌∷◌, ◌++◌}
use mathlib.Core.Option.{Option, none, some}
use Prim.Native.Nat.{ℕ, zero, suc, ◌+◌, ◌-◌, ◌≤◌, ◌<◌}
use native.Mathlib.Numerals.{add-one}
use native.Mathlib.Omega.{arith}
use lib.ListN.{length, take}
use lib.Seq.{length-sets}
use Rattle.std.specs.Prelude.{Some, None}
use Rattle.tree.specs.Key.{Key, Bytes, key_max, strip}
use Rattle.tree.specs.Map.{Pair, Pairs, past, next}
use Rattle.tree.specs.Tree.{Forest, nil, node, Tree, Wf, room}
use Rattle.tree.specs.Walk.{step_t}
use Rattle.tree.proofs.Parts.{starts, not, stripped}
use Rattle.label.proofs.Moves.{by_lt, by_eq}
use Rattle.slots.specs.Layout.{nodes_of, start_of, has_of, number_of, num_of, num_at, label_of}
use Rattle.slots.specs.Records.{run}
use Rattle.slots.specs.Bare.{Bare, bare_at, bares_from, bares_f, bares_t}
use Rattle.pool.specs.Pool.{pool_tree}
use Rattle.pool.specs.Rule.{PoolRule}
use Rattle.slots.proofs.Runs.{run_cons}
use Rattle.pool.proofs.Stands.{Holds}
use Rattle.pool.proofs.Held.{tree-holds}
use Rattle.pool.proofs.Ruled.{rule-tree}
use Rattle.splice.proofs.Bares.{holds-bares}
use Rattle.tree.specs.declared.RuleNo.{RuleNo}
use Rattle.walk.specs.Due.{due, laid, LayRoom, Laid, Sought}
use Rattle.walk.proofs.Due.{due-none, due-some}
use Rattle.walk.proofs.Listed.{held, pairs_of, read_tree}

-- The first pair is given, or passed.
module _ (x : Pair) (m : Pairs) (p : Key) (l : Option Key) where
  pub next-off : strip p x.0 ≡ none → next (x ∷ m) p l ≡ next m p l
  unfolding next
  next-off e = rw (e, next)

  pub next-on : (r : Key) → strip p x.0 ≡ some r → past l x.0 ≡ true → next (x ∷ m) p l ≡ some x
  unfolding next
  next-on r e i = rw (e, i, next)

  pub next_old : (r : Key) → strip p x.0 ≡ some r → past l x.0 ≡ false → next (x ∷ m) p l ≡ next m p l
  unfolding next
  next_old r e i = rw (e, i, next)

  pub next-passed : due p l x.0 ≡ false → next (x ∷ m) p l ≡ next m p l
  next-passed d =
      elim (stripped p x.0) [
        | starts r i e ↦ next_old r e (sym (due-some p l x.0 r e) ∙ d)
        | not e ↦ next-off e
      ]

  pub next-given : due p l x.0 ≡ true → next (x ∷ m) p l ≡ some x
  next-given d =
      elim (stripped p x.0) [
        | starts r i e ↦ next-on r e (sym (due-some p l x.0 r e) ∙ d)
        | not e ↦ cc (due-none p l x.0 e)
      ]

-- Every record's label is short, and its key fits.
record Short (x : Bare) : Type 0 where
  short : x.len ≤ 255
  deep : x.start + x.len ≤ key_max

abbrev All : List Bare → Type 0
All [] = Unit {0}
All (x ∷ xs) = Short x × All xs

all_append : (xs ys : List Bare) → All xs → All ys → All (xs ++ ys)
all_append [] ys g h = h
all_append (x ∷ xs) ys g h = (g.0, all_append xs ys g.1 h)

all_short : (f : Forest) (s : ℕ) → Wf s f → All (bares_f s f)
unfolding bares_f room
all_short nil s h = tt
all_short (node b l w kids rest) s h =
    (record { short = omega (arith, h.short); deep = h.deep }, all_append (bares_f (s + suc (length l)) kids) (bares_f s rest) (all_short kids (s + suc (length l)) h.wkids) (all_short rest s h.wrest))

run_short : (at : ℕ → Bare) (i m j : ℕ) → All (run at i m) → i ≤ j → j < i + m → Short (at j)
unfolding run
run_short at i zero j h a b = absurd (omega arith)
run_short at i (suc m) j h a b = by_eq j i (λ e. rw e h.0) (λ ne. run_short at (suc i) m j h.1 (by_lt i j (λ g. omega arith) (λ g. absurd (ne (omega arith)))) (omega arith))

-- A pool whose first n slots are in use
pub record Known (ws bs : List ℕ) (n : ℕ) : Type 0 where
  pub rule : PoolRule ws bs
  pub bytes : Bytes bs
  pub nodes : n ≡ nodes_of ws

module _ {ws bs : List ℕ} {n : ℕ} (k : Known ws bs n) where
  -- its records are those of its tree
  listed : (t : Tree) → Holds ws bs t → bares_from ws bs 0 n ≡ bares_t t
  listed t h = ap (λ (m : ℕ). bares_from ws bs 0 m) (k.nodes ∙ h.nodes) ∙ holds-bares ws bs t h

  slot-short : (i : ℕ) → i < n → Short (bare_at ws bs i)
  unfolding bares_t
  slot-short i h =
      let t = rule-tree ws bs k.rule in
      let u = tree-holds ws bs k.bytes t.0 t.1 in
      let a : All (bares_t t.0) = (record { short = omega arith; deep = omega arith }, all_short t.0.kids 0 u.wf) in
      run_short (bare_at ws bs) 0 n i (rw (listed t.0 u) a) (omega arith) (omega arith)

-- What is ahead of slot i, read with the path that the slots before it have left, gives what the whole gives.
pub record Ahead (ws bs : List ℕ) (p : Key) (l : Option Key) (n : ℕ) (path₀ path : List ℕ) (i : ℕ) : Type 0 where
  pub known : Known ws bs n
  pub most : i ≤ n
  pub full : length path₀ ≡ key_max
  pub len : length path ≡ key_max
  pub same : next (pairs_of path₀ (bares_from ws bs 0 n)) p l ≡ next (pairs_of path (bares_from ws bs i (n - i))) p l

pub ahead-start : {ws bs : List ℕ} (p : Key) (l : Option Key) {n : ℕ} (path : List ℕ) → PoolRule ws bs → Bytes bs → n ≡ nodes_of ws → length path ≡ key_max → Ahead ws bs p l n path path 0
ahead-start {ws} {bs} p l {n} path rule by en e =
    let z : n ≡ n - 0 = omega arith in
    record {
      known = record { rule = rule; bytes = by; nodes = en };
      most = omega arith;
      full = e;
      len = e;
      same = ap (λ (k : ℕ). next (pairs_of path (bares_from ws bs 0 k)) p l) z;
    }

some-num : (h v : ℕ) → 0 < h → num_of h v ≡ some v
unfolding num_of
some-num zero v g = absurd (omega arith)
some-num (suc h) v g = refl

module _ {ws bs : List ℕ} {p : Key} {l : Option Key} {n : ℕ} {path₀ path : List ℕ} {i : ℕ} (a : Ahead ws bs p l n path₀ path i) where
  -- The slot's label can be laid.
  pub slot-room : i < n → LayRoom ws bs path i
  unfolding bare_at
  slot-room h =
      let s = slot-short a.known i h in
      let r = a.known.rule in
      record {
        words = omega (arith, r.lengths.words, r.room, a.known.nodes);
        labels = omega (arith, r.lengths.labels, r.room, a.known.nodes);
        short = s.short;
        deep = omega (arith, s.deep, a.len);
      }

  -- What the loop has come to is what the tree gives.
  whole : (t : Tree) → pool_tree ws bs ≡ some t → step_t t p l ≡ next (pairs_of path₀ (bares_from ws bs 0 n)) p l
  unfolding step_t
  whole t e =
      let h = tree-holds ws bs a.known.bytes t e in
      rw (listed a.known t h, read_tree t path₀ h.wf a.full)

  pub sought_none : n ≤ i → Sought ws bs p l None path
  unfolding run pairs_of next
  sought_none h =
      let z : n - i ≡ 0 = omega arith in
      record { found = λ t e. whole t e ∙ a.same ∙ rw z; inside = omega arith }

  -- With the label of the slot laid
  module _ (h : i < n) {path' : List ℕ} {end : ℕ} (e : Laid ws bs path i path' end) where
    abbrev behind : Pairs
    behind = pairs_of path' (bares_from ws bs (i + 1) (n - (i + 1)))

    here : next (pairs_of path₀ (bares_from ws bs 0 n)) p l ≡ next (held (num_at ws i) (take end path') behind) p l
    unfolding pairs_of bare_at laid
    here =
        let c : n - i ≡ suc (n - (i + 1)) = omega arith in
        a.same ∙ rw (c, run_cons (bare_at ws bs) i (n - (i + 1)), e.bytes, e.end, add-one i)

    pub laid-length : length path' ≡ key_max
    unfolding laid
    laid-length = ap length e.bytes ∙ length-sets path (start_of ws i) (label_of ws bs i) ∙ a.len

    pub laid-inside : end ≤ length path'
    laid-inside = omega (arith, laid-length, e.end, (slot-room h).deep, a.len)

    on : next (held (num_at ws i) (take end path') behind) p l ≡ next behind p l → Ahead ws bs p l n path₀ path' (i + 1)
    on q = record { known = a.known; most = omega arith; full = a.full; len = laid-length; same = here ∙ q }

    -- A slot without a number, or whose key is not due, is passed.
    pub ahead-plain : has_of ws i ≡ 0 → Ahead ws bs p l n path₀ path' (i + 1)
    unfolding held num_of
    ahead-plain z = on (rw z)

    pub ahead-passed : 0 < has_of ws i → false ≡ due p l (take end path') → Ahead ws bs p l n path₀ path' (i + 1)
    unfolding held
    ahead-passed g d = on (rw (some-num (has_of ws i) (number_of ws i) g) (next-passed (take end path', number_of ws i) behind p l (sym d)))

    -- The first key that is due is the one.
    first : 0 < has_of ws i → due p l (take end path') ≡ true → next (held (num_at ws i) (take end path') behind) p l ≡ some (take end path', number_of ws i)
    unfolding held
    first g d = rw (some-num (has_of ws i) (number_of ws i) g) (next-given (take end path', number_of ws i) behind p l d)

    pub sought_key : 0 < has_of ws i → true ≡ due p l (take end path') → (v : RuleNo) → v.0 ≡ number_of ws i → Sought ws bs p l (Some (record { length = end; number = v })) path'
    sought_key g d v q =
        let pair : ◌≡◌ {A = Pair} (take end path', number_of ws i) (take end path', v.0) = rw q in
        record { found = λ t u. whole t u ∙ here ∙ first g (sym d) ∙ ap some pair; inside = laid-inside }
