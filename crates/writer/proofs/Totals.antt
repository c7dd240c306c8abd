-- What the loops over the slots of a pool count and write. Assumes nothing.
use mathlib.Core.Path.{◌≡◌, refl, sym, ap, ◌∙◌}
use mathlib.Core.List.{List, [], ◌∷◌, ◌++◌, append_assoc, append-nil}
use mathlib.Core.Option.{none, some}
use Prim.Native.Nat.{ℕ, zero, suc, ◌+◌, ◌-◌, ◌≤◌, ◌<◌}
use native.Mathlib.Numerals.{add-one}
use native.Mathlib.Nat.{add-zero}
use native.Mathlib.Omega.{arith}
use lib.ListN.{length, set, length-append}
use lib.Seq.{sets}
use Rattle.tree.specs.Map.{Num}
use Rattle.tree.specs.Tree.{Forest, nil, node, Tree, nodes_f, keys_w, keys_f, keys_t}
use Rattle.tree.specs.Image.{image_f, image_t, numbers_w, numbers_f, numbers_t}
use Rattle.slots.specs.Layout.{nodes_of, len_of, has_of, number_of, num_of, num_at}
use Rattle.slots.specs.Records.{node_rec, root_rec}
use Rattle.pool.specs.Fields.{has_sum}
use Rattle.pool.proofs.Stands.{Stands, Holds, nodes_are}
use Rattle.pool.proofs.Held.{slot-is_rec}
use Rattle.pool.proofs.Sums.{sum_keys}
use Rattle.writer.specs.Parts.{record_sum, numbers_in}
use Rattle.writer.specs.Runs.{Put}
use Rattle.writer.proofs.Lists.{put-none, put-more, put_as}
use Rattle.writer.proofs.Flags.{image-node}

pub sum_more : (ws : List ℕ) (n : ℕ) → record_sum ws (n + 1) ≡ record_sum ws n + (4 + len_of ws n)
sum_more ws n = rw add-one (unfold record_sum in refl)

pub numbers_more : (ws : List ℕ) (n : ℕ) → numbers_in ws (n + 1) ≡ numbers_in ws n ++ numbers_w (num_at ws n) []
numbers_more ws n = rw add-one (unfold numbers_in in refl)

-- The bytes of a forest that stands from slot c on
sum_stands : (ws bs : List ℕ) (s : ℕ) (f : Forest) (c level : ℕ) → Stands ws bs s f c → record_sum ws (c + nodes_f f) ≡ record_sum ws c + length (image_f level f)
unfolding nodes_f
sum_stands ws bs s nil c level h = ap (record_sum ws) (add-zero c) ∙ sym (add-zero (record_sum ws c)) ∙ unfold image_f in refl
sum_stands ws bs s (node b l w kids rest) c level h =
    let i = slot-is_rec ws bs c (node_rec s b l w (nodes_f kids)) h.0 in
    let k = sum_stands ws bs (s + suc (length l)) kids (c + 1) (level + 1) h.1 in
    let r = sum_stands ws bs s rest (c + suc (nodes_f kids)) level h.2 in
    let x : record_sum ws (c + suc (nodes_f kids + nodes_f rest)) ≡ record_sum ws (c + suc (nodes_f kids) + nodes_f rest) = ap (record_sum ws) (omega arith) in
    let y : record_sum ws (c + suc (nodes_f kids)) ≡ record_sum ws (c + 1 + nodes_f kids) = ap (record_sum ws) (omega arith) in
    x
    ∙ omega (arith, sum_more ws c, i.len, simp length-append at (ap length (image-node level b l w kids rest)))

-- How long the image is
pub image_sum : (ws bs : List ℕ) (t : Tree) → Holds ws bs t → record_sum ws (nodes_of ws) ≡ length (image_t t)
unfolding image_t
image_sum ws bs t h =
    let i = slot-is_rec ws bs 0 (root_rec t.num (nodes_f t.kids)) h.root in
    let k = sum_stands ws bs 0 t.kids 1 1 h.kids in
    let n : nodes_of ws ≡ 1 + nodes_f t.kids = omega (arith, h.nodes, nodes_are t) in
    let z : record_sum ws 0 ≡ 0 = unfold record_sum in refl in
    ap (record_sum ws) n ∙ omega (arith, sum_more ws 0, i.len)

-- a node's own number before others
own-number : (w : Num) (ns : List ℕ) → numbers_w w [] ++ ns ≡ numbers_w w ns
unfolding numbers_w
own-number none ns = refl
own-number (some v) ns = refl

number_group : (ns : List ℕ) (w : Num) (kids rest : List ℕ) → ns ++ numbers_w w [] ++ kids ++ rest ≡ ns ++ numbers_w w (kids ++ rest)
number_group ns w kids rest =
    append_assoc (ns ++ numbers_w w []) kids rest ∙ append_assoc ns (numbers_w w []) (kids ++ rest) ∙ ap (λ (z : List ℕ). ns ++ z) (own-number w (kids ++ rest))

-- The numbers of a forest that stands from slot c on
numbers_stands : (ws bs : List ℕ) (s : ℕ) (f : Forest) (c : ℕ) → Stands ws bs s f c → numbers_in ws (c + nodes_f f) ≡ numbers_in ws c ++ numbers_f f
unfolding nodes_f numbers_f
numbers_stands ws bs s nil c h = ap (numbers_in ws) (add-zero c) ∙ sym (append-nil (numbers_in ws c))
numbers_stands ws bs s (node b l w kids rest) c h =
    let i = slot-is_rec ws bs c (node_rec s b l w (nodes_f kids)) h.0 in
    let k = numbers_stands ws bs (s + suc (length l)) kids (c + 1) h.1 in
    let r = numbers_stands ws bs s rest (c + suc (nodes_f kids)) h.2 in
    let x : numbers_in ws (c + suc (nodes_f kids + nodes_f rest)) ≡ numbers_in ws (c + suc (nodes_f kids) + nodes_f rest) = ap (numbers_in ws) (omega arith) in
    let y : numbers_in ws (c + suc (nodes_f kids)) ≡ numbers_in ws (c + 1 + nodes_f kids) = ap (numbers_in ws) (omega arith) in
    x ∙ r ∙ rw (y, k, numbers_more ws c, i.num) (number_group (numbers_in ws c) w (numbers_f kids) (numbers_f rest))

-- The numbers in the slots are the tree's.
pub numbers_are : (ws bs : List ℕ) (t : Tree) → Holds ws bs t → numbers_in ws (nodes_of ws) ≡ numbers_t t
unfolding numbers_t
numbers_are ws bs t h =
    let i = slot-is_rec ws bs 0 (root_rec t.num (nodes_f t.kids)) h.root in
    let n : nodes_of ws ≡ 1 + nodes_f t.kids = omega (arith, h.nodes, nodes_are t) in
    let o : numbers_in ws 1 ≡ numbers_w (num_at ws 0) [] = unfold numbers_in in refl in
    ap (numbers_in ws) n ∙ numbers_stands ws bs 0 t.kids 1 h.kids ∙ rw (o, i.num, own-number)

-- As many as there are keys
number_counts : (w : Num) (ns : List ℕ) → length (numbers_w w ns) ≡ keys_w w + length ns
unfolding numbers_w keys_w
number_counts none ns = omega arith
number_counts (some v) ns = omega arith

forest_counts : (f : Forest) → keys_f f ≡ length (numbers_f f)
unfolding keys_f numbers_f
forest_counts nil = refl
forest_counts (node b l w kids rest) =
    let k = forest_counts kids in
    let r = forest_counts rest in
    omega (arith, number_counts w (numbers_f kids ++ numbers_f rest), length-append (numbers_f kids) (numbers_f rest))

pub number_sum : (ws bs : List ℕ) (t : Tree) → Holds ws bs t → has_sum ws (nodes_of ws) ≡ length (numbers_t t)
unfolding keys_t numbers_t
number_sum ws bs t h = sum_keys ws bs t h ∙ omega (arith, number_counts t.num (numbers_f t.kids), forest_counts t.kids)

-- One slot's number
pub number-none : (ws out : List ℕ) (c i : ℕ) → has_of ws c ≡ 0 → Put (numbers_w (num_at ws c) []) out i out i
number-none ws out c i e =
    let n : numbers_w (num_at ws c) [] ≡ [] = ap (λ (h : ℕ). numbers_w (num_of h (number_of ws c)) []) e ∙ unfold num_of numbers_w in refl in
    put_as (sym n) (put-none out i)

number_one : (ws : List ℕ) (c : ℕ) → (has_of ws c ≡ 0 → ⊥) → numbers_w (num_at ws c) [] ≡ number_of ws c ∷ []
number_one ws c ne = go (has_of ws c) ne
  where
    go : (h : ℕ) → (h ≡ 0 → ⊥) → numbers_w (num_of h (number_of ws c)) [] ≡ number_of ws c ∷ []
    go zero n = absurd (n refl)
    go (suc h) n = unfold num_of numbers_w in refl

-- room for the number of one slot among those of all
numbers-within : (ws : List ℕ) (i k : ℕ) → length (numbers_in ws i) ≤ length (numbers_in ws (i + k))
numbers-within ws i zero = omega (arith, ap (λ (m : ℕ). length (numbers_in ws m)) (add-zero i))
numbers-within ws i (suc k) =
    let h = numbers-within ws i k in
    let e : i + suc k ≡ i + k + 1 = omega arith in
    omega (arith, ap (λ (m : ℕ). length (numbers_in ws m)) e, simp length-append at (ap length (numbers_more ws (i + k))))

pub number_fits : (ws : List ℕ) (i n : ℕ) → i < n → length (numbers_in ws i) + length (numbers_w (num_at ws i) []) ≤ length (numbers_in ws n)
number_fits ws i n h =
    let k = n - (i + 1) in
    let e : i + 1 + k ≡ n = omega arith in
    omega (arith, ap (λ (m : ℕ). length (numbers_in ws m)) e, numbers-within ws (i + 1) k, simp length-append at (ap length (numbers_more ws i)))

pub number-room : (ws out : List ℕ) (c i : ℕ) → (has_of ws c ≡ 0 → ⊥) → i + length (numbers_w (num_at ws c) []) ≤ length out → i < length out
number-room ws out c i ne h = omega (arith, ap length (number_one ws c ne))

pub number_put : (ws out : List ℕ) (c i v : ℕ) → (has_of ws c ≡ 0 → ⊥) → v ≡ number_of ws c → Put (numbers_w (num_at ws c) []) out i (set out i v) (i + 1)
number_put ws out c i v ne e = rw (number_one ws c ne) (record { bytes = ap (set out i) e; behind = refl })

-- A turn of the loop that writes the numbers
pub numbers-none : (ws out : List ℕ) → Put (numbers_in ws 0) out 0 out 0
numbers-none ws out = unfold numbers_in in put-none out 0

pub numbers_step : (ws : List ℕ) (i : ℕ) {out₀ out out₁ : List ℕ} {place next : ℕ} → Put (numbers_in ws i) out₀ 0 out place → Put (numbers_w (num_at ws i) []) out place out₁ next
    → Put (numbers_in ws (i + 1)) out₀ 0 out₁ next
numbers_step ws i p q = put_as (sym (numbers_more ws i)) (put-more p q)

pub numbers-done : (ws : List ℕ) (i n : ℕ) {out₀ out : List ℕ} {place : ℕ} → i ≡ n → Put (numbers_in ws i) out₀ 0 out place → out ≡ sets out₀ 0 (numbers_in ws n)
numbers-done ws i n {out₀} e p = p.bytes ∙ ap (λ (k : ℕ). sets out₀ 0 (numbers_in ws k)) e
