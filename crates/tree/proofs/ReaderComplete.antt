-- What stands in the image, its bytes as they are, is what the reader gives. Assumes nothing.
use mathlib.Core.Path.{◌≡◌, refl, sym, ◌∙◌, ap}
use mathlib.Core.List.{List, [], ◌∷◌, ◌++◌, append-nil}
use mathlib.Core.Option.{none, some}
use Prim.Native.Nat.{ℕ, ◌+◌, ◌*◌, ◌≤◌, zero, suc, ◌-◌}
use native.Mathlib.Nat.{add-zero}
use native.Mathlib.Omega.{arith}
use lib.ListN.{length, get_or, drop, length-append, length-drop}
use lib.Seq.{drop-drop, drop-append_seam, take-append_seam}
use Rattle.tree.specs.Key.{key_max, Key}
use Rattle.tree.specs.Map.{Num}
use Rattle.tree.specs.Tree.{Forest, nil, node, keys_w, Tree, Wf, WellFormed, room, nodes_f}
use Rattle.tree.specs.Image.{flags_f, flags, image_f, numbers_w, numbers_f, image_t, numbers_t}
use Rattle.tree.specs.Reader.{below, has_number, has_sibling, number_of, numbers_past, label_rest, Read, gave, over_kids, read_node, over_rest, read_kids}
use Rattle.tree.proofs.ReaderRules.{FineAt, fine_judged}
use Rattle.tree.proofs.ReaderParts.{has, byte_at, image-node, image-length, numbers-node, headed}
use Rattle.tree.proofs.ReaderParts.{Says, flags_say, number_forth, past_forth}
use Rattle.tree.proofs.ReaderSteps.{maybe, node-is, kids-is}
use Rattle.tree.proofs.ReaderStands.{as_is, Stands, NodeStands, below_one, least_above, least_0, bits_used}

numbers-length : (w : Num) (ns : List ℕ) → length (numbers_w w ns) ≡ keys_w w + length ns
unfolding numbers_w keys_w
numbers-length none ns = omega arith
numbers-length (some v) ns = omega arith

-- The record of a node and its children stand at `at`, and then bs; and the record keeps the rules.
record Due (s : Key) (level least path at : ℕ) (t : Tree) (rest : Forest) (label bs : Key) : Type 0 where
  image : drop at s ≡ headed (flags t.num t.kids rest) (length label) level (label ++ (image_f (level + 1) t.kids ++ bs))
  only : has rest ≤ below level
  labelled : below level ≤ length label
  bare : length label ≤ 255 * below level
  above : least ≤ get_or s (at + 4) 0
  short : path + length label ≤ key_max
  used : below level ≤ keys_w t.num + has t.kids
  wf : Wf (path + length label) t.kids

module _ {s : Key} {level least path at : ℕ} {t : Tree} {rest : Forest} {label bs : Key} (d : Due s level least path at t rest label bs) where
  due_says : Says (get_or s at 0) (keys_w t.num) (has t.kids) (has rest)
  due_says =
      let e : get_or s at 0 ≡ flags t.num t.kids rest = rw add-zero at (byte_at s at 0 d.image) in
      rw e (flags_say t.num t.kids rest)

  due-length : get_or s (at + 1) 0 ≡ length label
  due-length = byte_at s at 1 d.image

  due_fine : (ns : List ℕ) → FineAt s (numbers_w t.num ns) level least path at
  due_fine ns =
      let long = simp (length-drop, length-append) at (ap length d.image) in
      let high = byte_at s at 2 d.image in
      let low = byte_at s at 3 d.image in
      let stock = numbers-length t.num ns in
      let m = due-length in
      let y = due_says in
      omega arith

  -- where the children begin, and where they end
  abbrev first : ℕ
  first = at + 4 + get_or s (at + 1) 0

  abbrev end : ℕ
  end = first + length (image_f (level + 1) t.kids)

  due-kids : drop first s ≡ image_f (level + 1) t.kids ++ bs
  due-kids = rw (due-length, ← drop-drop (length label) (at + 4) s, ← drop-drop 4 at s, d.image) (drop-append_seam label _)

  due-rest : drop end s ≡ bs
  due-rest = rw (← drop-drop (length (image_f (level + 1) t.kids)) first s, due-kids) (drop-append_seam (image_f (level + 1) t.kids) bs)

  due_stands : (left : List ℕ)
      → NodeStands as_is s (numbers_w t.num (numbers_f t.kids ++ left)) level least path at t end left
  due_stands left =
      record {
        fine = due_fine _;
        number = sym due_says.number;
        stock = numbers_f t.kids ++ left;
        numbers = refl;
        kids = record {
          here = sym due_says.child;
          end = refl;
          image = rw due-rest due-kids;
          numbers = refl;
          wf = rw due-length d.wf;
          above = least_0 t.kids;
        };
      }

maybe_complete : (f : Forest) {s : Key} {level least path at : ℕ} {ns : List ℕ} {a : ℕ} {left : List ℕ} {flag : ℕ} {r : Read Forest}
    → Stands as_is s level least path at ns f a left flag
    → (Stands as_is s level least path at ns f a left 1 → r ≡ gave f a left)
    → maybe flag at ns r ≡ gave f a left
unfolding maybe flags_f image_f numbers_f
maybe_complete nil x g = rw (← x.here, x.end, x.numbers, add-zero)
maybe_complete (node b l w kids rest) x g = rw (← x.here) (g (rw (← x.here) at x))

-- Where the forest f stands, it is read.
abbrev pub Complete : ℕ → Forest → Type 0
Complete n f =
    (s : Key) (level least path at : ℕ) (ns : List ℕ) (a : ℕ) (left : List ℕ) → 1 ≤ level
    → Stands as_is s level least path at ns f a left 1 → read_kids n s level least path at ns ≡ gave f a left

node_complete : (n : ℕ) {s ns : List ℕ} {level least path at : ℕ} {t : Tree} {a : ℕ} {left : List ℕ} → Complete n t.kids
    → NodeStands as_is s ns level least path at t a left
    → read_node (read_kids n s) s level least path at ns ≡ gave t a left
unfolding over_kids
node_complete n {s} {ns} {level} {least} {path} {at} {t} ih x =
    let w : number_of (has_number (get_or s at 0)) ns ≡ t.num = rw (x.numbers, ← x.number) (number_forth t.num x.stock) in
    let p : numbers_past (has_number (get_or s at 0)) ns ≡ x.stock = rw (x.numbers, ← x.number) (past_forth t.num x.stock) in
    let k = maybe_complete t.kids x.kids (ih s _ 0 _ _ _ _ _ (omega arith)) in
    node-is n s ns level least path at (fine_judged s ns level least path at x.fine) ∙ rw (w, p, k)

abbrev tree : Num → Forest → Tree
tree w kids = record { num = w; kids = kids }

-- A forest that stands in the image, taken apart
module _ {s : Key} {level least path at : ℕ} {ns : List ℕ} {b : ℕ} {l : Key} {w : Num} {kids rest : Forest} {a : ℕ} {left : List ℕ} (h : 1 ≤ level)
    (x : Stands as_is s level least path at ns (node b l w kids rest) a left 1) where
  image : drop at s ≡ headed (flags w kids rest) (suc (length l)) level (b ∷ (l ++ (image_f (level + 1) kids ++ (image_f level rest ++ drop a s))))
  image = x.image ∙ image-node level b l w kids rest (drop a s)

  first-is : get_or s (at + 4) 0 ≡ b
  first-is = byte_at s at 4 image

  due : Due s level least path at (tree w kids) rest (b ∷ l) (image_f level rest ++ drop a s)
  unfolding room flags_f
  due =
      let one = below_one level h in
      let wf = x.wf in
      record {
        image = image;
        only = omega (arith, (flags_say w kids rest).sibling);
        labelled = omega arith;
        bare = omega (arith, wf.short);
        above = rw first-is x.above;
        short = wf.deep;
        used = rw one (bits_used w kids wf.used);
        wf = wf.wkids;
      }

  label_is : label_rest s at ≡ l
  label_is =
      let e : suc (length l) - 1 ≡ length l = omega arith in
      let m : get_or s (at + 1) 0 ≡ suc (length l) = byte_at s at 1 image in
      rw (m, e, ← drop-drop 5 at s, image) (take-append_seam l _)

  node-part : NodeStands as_is s ns level least path at (tree w kids) (end due) (numbers_f rest ++ left)
  node-part = rw (x.numbers, numbers-node) (due_stands due (numbers_f rest ++ left))

  rest_part : let flag = has_sibling (get_or s at 0) in
      Stands as_is s level (get_or s (at + 4) 0 + 1) path (end due) (numbers_f rest ++ left) rest a left flag
  rest_part =
      let y = due_says due in
      let m = due-length due in
      record {
        here = sym y.sibling;
        end = omega (arith, m, x.end, image-length level b l w kids rest);
        image = due-rest due;
        numbers = refl;
        wf = x.wf.wrest;
        above = rw first-is (least_above b rest x.wf.above);
      }

pub kids_complete : (n : ℕ) (f : Forest) → nodes_f f ≤ n → Complete n f
unfolding nodes_f flags_f over_rest
kids_complete n nil g s level least path at ns a left h x = absurd (omega (arith, x.here))
kids_complete zero (node b l w kids rest) g s level least path at ns a left h x = absurd (omega arith)
kids_complete (suc n) (node b l w kids rest) g s level least path at ns a left h x =
    let y = node_complete n (kids_complete n kids (omega arith)) (node-part h x) in
    let z = maybe_complete rest (rest_part h x) (kids_complete n rest (omega arith) s level _ path _ _ a left h) in
    kids-is n s ns level least path at y ∙ rw (z, first-is h x, label_is h x)

nodes-bytes : (level : ℕ) (f : Forest) → nodes_f f ≤ length (image_f level f)
unfolding nodes_f
nodes-bytes level nil = omega arith
nodes-bytes level (node b l w kids rest) =
    let k = nodes-bytes (level + 1) kids in
    let r = nodes-bytes level rest in
    omega (arith, image-length level b l w kids rest)

root-due : (t : Tree) → WellFormed t → Due (image_t t) 0 0 0 0 t nil [] []
unfolding image_t below flags_f key_max
root-due t wf =
    record {
      image = rw append-nil;
      only = omega arith;
      labelled = omega arith;
      bare = omega arith;
      above = omega arith;
      short = omega arith;
      used = omega arith;
      wf = wf;
    }

pub root_complete : (t : Tree) → WellFormed t
    → let s = image_t t in read_node (read_kids (length s) s) s 0 0 0 0 (numbers_t t) ≡ gave t (4 + length (image_f 1 t.kids)) []
unfolding image_t numbers_t
root_complete t wf =
    let few = nodes-bytes 1 t.kids in
    let x = rw append-nil at (due_stands (root-due t wf) []) in
    node_complete _ (kids_complete _ t.kids (omega arith)) x
