-- What the reader gives is what the image holds: its bytes, cleared, are those that the writer writes for the forest or
-- tree given, and that is well-formed. Assumes nothing.
use mathlib.Core.Path.{◌≡◌, refl, sym}
use mathlib.Core.List.{List, [], ◌∷◌}
use Prim.Native.Nat.{ℕ, ◌+◌, ◌/◌, ◌%◌, ◌≤◌, ◌<◌, zero, suc, ◌-◌}
use native.Mathlib.Omega.{arith}
use lib.ListN.{length, get_or, take, drop, length-take, length-drop}
use Rattle.tree.specs.Key.{Key, Bytes}
use Rattle.tree.specs.Map.{Num}
use Rattle.tree.specs.Tree.{Forest, nil, node, keys_w, Tree, room}
use Rattle.tree.specs.Image.{flags_f, flags, image_f, numbers_f, image_t, numbers_t}
use Rattle.tree.specs.Reader.{below, has_number, has_child, has_sibling, numbers_past, label_rest, Read, gave, read_node, read_kids}
use Rattle.tree.specs.Cleared.{cleared_from, cleared}
use Rattle.tree.proofs.Judge.{never}
use Rattle.tree.proofs.ReaderRules.{FineAt}
use Rattle.tree.proofs.ReaderParts.{has, Says, flags-back, own, head-is, label_is, image-node, image-length}
use Rattle.tree.proofs.ReaderParts.{number_append, numbers-node, headed}
use Rattle.tree.proofs.Cleared.{label_written}
use Rattle.tree.proofs.ReaderSteps.{maybe, NodeGave, node-gave, kids-gave}
use Rattle.tree.proofs.ReaderStands.{Stands, NodeStands, RootStands, below_one, above-least, used_bits}

-- Bytes
bytes-at : (s : Key) (i : ℕ) → Bytes s → get_or s i 0 < 256
bytes-at [] i h = omega arith
bytes-at (x ∷ s) zero h = h.0
bytes-at (x ∷ s) (suc i) h = bytes-at s i h.1

bytes_drop : (n : ℕ) (s : Key) → Bytes s → Bytes (drop n s)
bytes_drop zero s h = h
bytes_drop (suc n) [] h = h
bytes_drop (suc n) (x ∷ s) h = bytes_drop n s h.1

bytes_take : (n : ℕ) (s : Key) → Bytes s → Bytes (take n s)
bytes_take zero s h = tt
bytes_take (suc n) [] h = h
bytes_take (suc n) (x ∷ s) h = (h.0, bytes_take n s h.1)

maybe_sound : {s : Key} {level least path at : ℕ} {ns : List ℕ} {f : Forest} {a : ℕ} {left : List ℕ} {r : Read Forest} (flag : ℕ) → flag ≤ 1
    → maybe flag at ns r ≡ gave f a left → (r ≡ gave f a left → Stands cleared s level least path at ns f a left 1)
    → Stands cleared s level least path at ns f a left flag
unfolding maybe flags_f image_f numbers_f
maybe_sound {at} {ns} {f} {a} {left} zero h e g =
    let ef : f ≡ nil = cc in
    let ea : a ≡ at = cc in
    let el : left ≡ ns = cc in
    rw (ef, ea, el) (record { here = refl; end = omega arith; image = refl; numbers = refl; wf = tt; above = tt })
maybe_sound (suc zero) h e g = g e
maybe_sound (suc (suc i)) h e g = absurd (omega arith)

module _ (s : Key) (bs : Bytes s) where
  -- What is read of siblings stands in the image.
  abbrev pub Sound : ℕ → Type 0
  Sound n =
      (level least path at : ℕ) (ns : List ℕ) (f : Forest) (a : ℕ) (left : List ℕ) → 1 ≤ level
      → read_kids n s level least path at ns ≡ gave f a left → Stands cleared s level least path at ns f a left 1

  node-sound : (n : ℕ) {ns : List ℕ} {level least path at : ℕ} {t : Tree} {a : ℕ} {left : List ℕ} → Sound n
      → NodeGave n s ns level least path at t a left → NodeStands cleared s ns level least path at t a left
  node-sound n {ns} {at} ih g =
      let o = own (has_number (get_or s at 0)) ns (omega arith) g.fine.stocked in
      record {
        fine = g.fine;
        number = rw g.num o.keys;
        stock = numbers_past (has_number (get_or s at 0)) ns;
        numbers = rw g.num o.numbers;
        kids = maybe_sound _ (omega arith) g.below (ih _ 0 _ _ _ _ _ _ (omega arith));
      }

  -- The record, cleared, is the one that the writer writes.
  head-sound : {ns : List ℕ} {level least path at : ℕ} (w : Num) (kids rest : Forest) → FineAt s ns level least path at
      → keys_w w ≡ has_number (get_or s at 0) → has kids ≡ has_child (get_or s at 0) → has rest ≡ has_sibling (get_or s at 0)
      → let m = get_or s (at + 1) 0 in
      cleared (drop at s) ≡ headed (flags w kids rest) m level (cleared_from m (drop (at + 4) s))
  unfolding cleared_from
  head-sound {level} {at} w kids rest g x y z =
      let lo = bytes-at s (at + 3) bs in
      let high : level / 256 ≡ get_or s (at + 2) 0 = omega (arith, g.due) in
      let low : level % 256 ≡ get_or s (at + 3) 0 = omega (arith, g.due) in
      let says : Says (get_or s at 0) (keys_w w) (has kids) (has rest) =
      record { bits = g.bits; number = sym x; child = sym y; sibling = sym z } in
      let same = flags-back (get_or s at 0) w kids rest says in
      cc (head-is s at g.head)

  -- A node and the siblings behind it stand as one forest.
  join : {ns : List ℕ} {level least path at : ℕ} {t : Tree} {a : ℕ} {stock : List ℕ} {rest : Forest} {b : ℕ} {left : List ℕ} → 1 ≤ level
      → NodeStands cleared s ns level least path at t a stock
      → Stands cleared s level (get_or s (at + 4) 0 + 1) path a stock rest b left (has_sibling (get_or s at 0))
      → let first = get_or s (at + 4) 0 in
      Stands cleared s level least path at ns (node first (label_rest s at) t.num t.kids rest) b left 1
  unfolding flags_f room
  join {level} {at} {t} {rest} {b} {left} h x y =
      let g = x.fine in
      let one = below_one level h in
      let m = get_or s (at + 1) 0 in
      let c = get_or s (at + 4) 0 in
      let l = label_rest s at in
      let long : suc (length l) ≡ m = simp (length-take, length-drop) (omega (arith, g.whole, g.labelled, one)) in
      record {
        here = refl;
        end = omega (arith, x.kids.end, y.end, long, image-length level c l t.num t.kids rest);
        image = cc (
          head-sound t.num t.kids rest g x.number x.kids.here y.here,
          label_is s at m (omega (arith, g.labelled, one)) g.whole,
          label_written (c ∷ l) (drop (at + 4 + m) s),
          long,
          image-node level c l t.num t.kids rest (cleared (drop b s)),
          x.kids.image,
          y.image,
        );
        numbers = cc (numbers-node c l t.num t.kids rest left, x.numbers, x.kids.numbers, y.numbers);
        wf = record {
          byte = bytes-at s (at + 4) bs;
          bytes = bytes_take (m - 1) (drop (at + 5) s) (bytes_drop (at + 5) s bs);
          short = omega (arith, long, g.bare, one);
          deep = omega (arith, long, g.short);
          above = above-least c rest y.above;
          used = used_bits t.num t.kids (omega (arith, g.used, one, x.number, x.kids.here));
          wkids = rw long x.kids.wf;
          wrest = y.wf;
        };
        above = g.above;
      }

  pub kids-sound : (n : ℕ) → Sound n
  kids-sound zero level least path at ns f a left h e = unfold read_kids in never (cc)
  kids-sound (suc n) level least path at ns f a left h e =
      let k = kids-gave n s ns level least path at e in
      let x = node-sound n (kids-sound n) k.first in
      let y = maybe_sound _ (omega arith) k.behind (kids-sound n level _ path _ _ _ _ _ h) in
      rw k.is (join h x y)

  -- The root has an empty label and no sibling.
  pub root-sound : (n : ℕ) (ns : List ℕ) {t : Tree} {a : ℕ} {left : List ℕ} → read_node (read_kids n s) s 0 0 0 0 ns ≡ gave t a left
      → RootStands s ns t a left
  unfolding below flags_f image_t numbers_t
  root-sound n ns {t} {a} {left} e =
      let x = node-sound n (kids-sound n) (node-gave n s ns 0 0 0 0 e) in
      let m : get_or s 1 0 ≡ 0 = omega (arith, x.fine.bare) in
      let k : Stands cleared s 1 0 0 4 x.stock t.kids a left (has_child (get_or s 0 0)) = rw m at x.kids in
      record {
        image = cc (head-sound t.num t.kids nil x.fine x.number k.here (omega (arith, x.fine.only)), m, k.image);
        numbers = cc (x.numbers, k.numbers, number_append t.num (numbers_f t.kids) left);
        wf = k.wf;
      }
