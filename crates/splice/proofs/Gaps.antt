-- Gaps closed in one sweep. Assumes nothing.
use mathlib.Core.Path.{◌≡◌, refl, sym, ap, ◌∙◌, subst}
use mathlib.Core.List.{List, [], ◌∷◌, ◌++◌, append-nil}
use Prim.Native.Nat.{ℕ, zero, suc, ◌+◌, ◌*◌, ◌-◌, ◌≤◌, ◌<◌}
use native.Mathlib.Omega.{arith}
use mathlib.Core.Logic.{⊎_elim}
use lib.ListN.{length, take, drop}
use lib.Seq.{take-take}
use Rattle.tree.specs.Tree.{Forest, nil, node}
use Rattle.label.specs.Runs.{MovedDown}
use Rattle.label.proofs.Moves.{by_lt}
use Rattle.slots.specs.Layout.{SameHead, slot_words, label_room, words_for, bytes_for, WordsIn, RoomIn, field_at, span_field, len_of}
use Rattle.slots.specs.Records.{run}
use Rattle.slots.specs.Bare.{Bare, bare_at, bares_from, node_bare, bares_f, Filled}
use Rattle.splice.specs.Splice.{LabelIn, keep_if, solid, Swept, gone, kept, Closed}
use Rattle.slots.proofs.Runs.{run_join, run_ext}
use Rattle.slots.proofs.Slots.{bare_eq, bare_by, block_eq, at_place}

keep_append : (m : ℕ) (x : Bare) (xs ys : List Bare) → keep_if m x (xs ++ ys) ≡ keep_if m x xs ++ ys
keep_append zero x xs ys = refl
keep_append (suc m) x xs ys = refl

keep_kept : (m : ℕ) (x : Bare) (xs : List Bare) → (m ≡ 0 → ⊥) → keep_if m x xs ≡ x ∷ xs
keep_kept zero x xs ne = absurd (ne refl)
keep_kept (suc m) x xs ne = refl

pub solid-append : (xs ys : List Bare) → solid (xs ++ ys) ≡ solid xs ++ solid ys
unfolding solid
solid-append [] ys = refl
solid-append (x ∷ xs) ys = ap (keep_if x.len x) (solid-append xs ys) ∙ keep_append x.len x (solid xs) (solid ys)

pub solid-gap : (x : Bare) → x.len ≡ 0 → solid (x ∷ []) ≡ []
unfolding solid
solid-gap x e = ap (λ (m : ℕ). keep_if m x []) e

pub solid-kept : (x : Bare) → (x.len ≡ 0 → ⊥) → solid (x ∷ []) ≡ x ∷ []
unfolding solid
solid-kept x ne = keep_kept x.len x [] ne

-- The nodes of a forest have labels: none of them goes.
pub solid-forest : (s : ℕ) (f : Forest) → solid (bares_f s f) ≡ bares_f s f
unfolding bares_f
solid-forest s nil = unfold solid in refl
solid-forest s (node b l w kids rest) =
    let d = s + suc (length l) in
    let k = solid-forest d kids in
    let r = solid-forest s rest in
    let x = node_bare s b l w in
    solid-append (x ∷ []) (bares_f d kids ++ bares_f s rest) ∙ cc (solid-kept x (λ e. omega arith), solid-append (bares_f d kids) (bares_f s rest))

-- Rooms that agree in as many bytes as have the label agree in the label.
label_by : (len m : ℕ) (cs bs : List ℕ) → LabelIn len m → take m cs ≡ take m bs → take len (take 255 cs) ≡ take len (take 255 bs)
label_by len m cs bs c e =
    ⊎_elim
    (λ (h : len ≤ m).
    let f : take len (take m cs) ≡ take len (take m bs) = ap (take len) e in
    rw (take-take len 255 cs (omega (arith, c.most)), take-take len 255 bs (omega (arith, c.most)), ← take-take len m cs h, ← take-take len m bs h) f)
    (λ (h : m ≡ 255). ap (take len) (rw h at e))
    c.enough

-- A slot moved down
pub slot-lowered : (ws bs vs cs : List ℕ) (i to k n : ℕ) → to < i → k ≡ i - to → WordsIn ws i → RoomIn bs i → LabelIn (len_of ws i) n
    → MovedDown ws vs (words_for i) (words_for (i + 1)) (slot_words * k) → MovedDown bs cs (bytes_for i) (bytes_for i + n) (bytes_for k) → Filled ws bs vs cs to (bare_at ws bs i)
slot-lowered ws bs vs cs i to k n h e rw' rb v s t =
    let lb = t.len in
    record {
      len_w = s.len;
      len_b = t.len;
      head = λ j l. s.low j (omega arith);
      slot =
          bare_by vs cs ws bs to i
          (λ o l _. s.mid (field_at to o) (omega arith) (omega arith) ∙ at_place ws (omega arith))
          (label_by (len_of ws i) n (drop (bytes_for to) cs) (drop (bytes_for i) bs) v
          (block_eq cs bs (bytes_for to) (bytes_for i) n (omega (arith, v.most)) (omega (arith, v.most)) (λ j l. t.mid (bytes_for to + j) (omega arith) (omega arith) ∙ at_place bs (omega arith))));
      others = λ x ne r.
          by_lt x to
          (λ l.
          bare_eq vs cs ws bs x x
          (λ o m _. s.low (field_at x o) (omega arith))
          (block_eq cs bs (bytes_for x) (bytes_for x) label_room (omega arith) r (λ j m. t.low (bytes_for x + j) (omega arith))))
          (λ l.
          let g : to < x = by_lt to x (λ m. m) (λ m. absurd (ne (omega arith))) in
          bare_eq vs cs ws bs x x
          (λ o m _. s.high (field_at x o) (omega arith))
          (block_eq cs bs (bytes_for x) (bytes_for x) label_room (omega arith) r (λ j m. t.high (bytes_for x + j) (omega (arith, v.most)))));
      spans = λ x ne.
          by_lt x to (λ l. s.low (field_at x span_field) (omega arith))
          (λ l. let g : to < x = by_lt to x (λ m. m) (λ m. absurd (ne (omega arith))) in s.high (field_at x span_field) (omega arith));
    }

-- The sweep has come to slot i, and j slots are kept.
pub record Sweeping (ws bs vs cs : List ℕ) (i j : ℕ) : Type 0 where
  pub len_w : length vs ≡ length ws
  pub len_b : length cs ≡ length bs
  pub head : SameHead ws vs
  pub least : 1 ≤ j
  pub most : j ≤ i
  pub root : bare_at vs cs 0 ≡ bare_at ws bs 0
  pub ahead : (x : ℕ) → i ≤ x → RoomIn bs x → bare_at vs cs x ≡ bare_at ws bs x
  pub slots : bares_from vs cs 1 (j - 1) ≡ solid (bares_from ws bs 1 (i - 1))

pub sweep_none : (ws bs : List ℕ) → Sweeping ws bs ws bs 1 1
sweep_none ws bs =
    record {
      len_w = refl;
      len_b = refl;
      head = λ x h. refl;
      least = omega arith;
      most = omega arith;
      root = refl;
      ahead = λ x h r. refl;
      slots = unfold run solid in refl;
    }

-- one record more at the end of a run
run_more : (ws bs : List ℕ) (i : ℕ) → 1 ≤ i → bares_from ws bs 1 (i + 1 - 1) ≡ bares_from ws bs 1 (i - 1) ++ bare_at ws bs i ∷ []
run_more ws bs i h =
    let e : i + 1 - 1 ≡ i - 1 + 1 = omega arith in
    let a : 1 + (i - 1) ≡ i = omega arith in
    ap (λ (m : ℕ). bares_from ws bs 1 m) e ∙ run_join (bare_at ws bs) 1 (i - 1) 1 ∙ ap (λ (x : ℕ). bares_from ws bs 1 (i - 1) ++ bares_from ws bs x 1) a ∙ ap (λ (z : List Bare). bares_from ws bs 1 (i - 1) ++ z) (unfold run in refl)

bare_len : (ws bs : List ℕ) (i : ℕ) → (bare_at ws bs i).len ≡ len_of ws i
unfolding bare_at
bare_len ws bs i = refl

module _ (ws bs vs cs : List ℕ) (i j : ℕ) (s : Sweeping ws bs vs cs i j) (r : RoomIn bs i) where
  same : bare_at vs cs i ≡ bare_at ws bs i
  same = s.ahead i (omega arith) r

  same_len : len_of vs i ≡ (bare_at ws bs i).len
  same_len = sym (bare_len vs cs i) ∙ ap (λ (x : Bare). x.len) same

  grown : bares_from ws bs 1 (i + 1 - 1) ≡ bares_from ws bs 1 (i - 1) ++ bare_at ws bs i ∷ []
  grown = run_more ws bs i (omega (arith, s.least, s.most))

  -- a slot without a label is passed
  sweep_gap : len_of vs i ≡ 0 → Sweeping ws bs vs cs (i + 1) j
  sweep_gap e =
      let x = bare_at ws bs i in
      record {
        len_w = s.len_w;
        len_b = s.len_b;
        head = s.head;
        least = s.least;
        most = omega (arith, s.most);
        root = s.root;
        ahead = λ y h q. s.ahead y (omega arith) q;
        slots =
            s.slots
            ∙ sym (append-nil (solid (bares_from ws bs 1 (i - 1))))
            ∙ cc (ap solid grown, solid-append (bares_from ws bs 1 (i - 1)) (x ∷ []), solid-gap x (sym same_len ∙ e));
      }

  -- any other stands in the next place
  sweep_kept : (us ds : List ℕ) → (len_of vs i ≡ 0 → ⊥) → Filled vs cs us ds j (bare_at vs cs i) → Sweeping ws bs us ds (i + 1) (j + 1)
  sweep_kept us ds ne f =
      let x = bare_at ws bs i in
      let lo = s.least in
      let hi = s.most in
      let lc = s.len_b in
      let front : bares_from us ds 1 (j - 1) ≡ bares_from vs cs 1 (j - 1) =
      run_ext (bare_at us ds) (bare_at vs cs) 1 1 (j - 1) (λ y h. f.others (1 + y) (λ q. omega arith) (omega arith)) in
      record {
        len_w = f.len_w ∙ s.len_w;
        len_b = f.len_b ∙ s.len_b;
        head = λ y h. f.head y h ∙ s.head y h;
        least = omega arith;
        most = omega arith;
        root = f.others 0 (λ q. omega arith) (omega arith) ∙ s.root;
        ahead = λ y h q. f.others y (λ z. omega arith) (omega arith) ∙ s.ahead y (omega arith) q;
        slots =
            run_more us ds j lo
            ∙ cc (front, s.slots, f.slot, same, ap solid grown, solid-append (bares_from ws bs 1 (i - 1)) (x ∷ []), solid-kept x (λ q. ne (same_len ∙ q)));
      }

  -- a turn of the sweep
  pub sweep_on : (us ds : List ℕ) (k : ℕ) → Swept vs cs us ds i j k → Sweeping ws bs us ds (i + 1) k
  sweep_on us ds k (gone e q u d) =
      rw (q, u, d) (sweep_gap e)
  sweep_on us ds k (kept ne q f) = rw q (sweep_kept us ds ne f)

pub sweep_done : {ws bs vs cs : List ℕ} {i j n : ℕ} → i ≡ n → Sweeping ws bs vs cs i j → Closed ws bs vs cs n j
sweep_done {ws} {bs} {vs} {cs} {i} {j} {n} e s =
    let c : Closed ws bs vs cs i j = record { len_w = s.len_w; len_b = s.len_b; head = s.head; least = s.least; most = s.most; root = s.root; slots = s.slots } in
    subst (λ (x : ℕ). Closed ws bs vs cs x j) e c

-- a slot that stays where it is
pub stays : (ws bs : List ℕ) (i j : ℕ) → j ≡ i → Filled ws bs ws bs j (bare_at ws bs i)
stays ws bs i j e = record { len_w = refl; len_b = refl; head = λ x h. refl; slot = ap (bare_at ws bs) e; others = λ x ne r. refl; spans = λ x ne. refl }
