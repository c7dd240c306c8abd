-- The fill, record by record: what is left of the image are the records of the nodes that have no slot yet. Assumes nothing.
use mathlib.Core.Path.{◌≡◌, refl, sym, ap, ◌∙◌, subst}
use mathlib.Core.List.{List, [], ◌∷◌, ◌++◌, append_assoc, append-nil}
use mathlib.Core.Option.{none, some}
use Prim.Native.Nat.{ℕ, zero, suc, ◌+◌, ◌*◌, ◌/◌, ◌%◌, ◌≤◌, ◌<◌}
use native.Mathlib.Nat.{add-zero}
use native.Mathlib.Omega.{arith}
use lib.ListN.{length, get_or, set, take, drop, length-append, length-drop}
use lib.Seq.{drop-drop, drop_at, take_at}
use Rattle.std.specs.Prelude.{Some, None}
use Rattle.std.specs.Prelude.{Option as Maybe}
use Rattle.std.specs.Option.{unwrap_or}
use Rattle.tree.specs.declared.RuleNo.{RuleNo}
use Rattle.tree.specs.Map.{Num}
use Rattle.tree.specs.Tree.{Tree, nodes_t, keys_w}
use Rattle.tree.specs.Image.{numbers_w}
use Rattle.tree.specs.Reader.{has_number}
use Rattle.tree.proofs.ReaderParts.{headed, byte_at}
use Rattle.slots.specs.Layout.{num_of}
use Rattle.slots.specs.Records.{Rec, rec_at, run}
use Rattle.slots.specs.Put.{SlotPut}
use Rattle.slots.specs.Bare.{Bare, stored_of, bare_at, bare_of, bares_from, bares_t}
use Rattle.slots.proofs.Runs.{run_join, run_length, run_ext}
use Rattle.slots.proofs.Slots.{bare_of_lem}
use Rattle.splice.proofs.Bares.{bares_f-length}
use Rattle.pool.proofs.Stands.{nodes_are}
use Rattle.reader.specs.declared.fill.Cursor.{Cursor}
use Rattle.reader.specs.Fill.{Room, SlotDue, rec_read, RecordDue, Behind, ImageOf, Bared}
use Rattle.reader.proofs.Uncleared.{uncleared}
use Rattle.reader.proofs.Items.{Item, image_of, numbers_of, bares_of, items_t, ItemDue, passed, Due, tree-image, tree-numbers, tree-bares, tree-due}

-- A record says that it has a number as 1 or 0.
keys_num : (h v : ℕ) → h ≤ 1 → keys_w (num_of h v) ≡ h
unfolding num_of keys_w
keys_num zero v e = refl
keys_num (suc zero) v e = refl
keys_num (suc (suc h)) v e = absurd (omega arith)

-- The number that the code found, as the two words of a slot say it
pub due_words : (o : Maybe RuleNo) (h v : ℕ) → stored_of o ≡ num_of h v → num_of h (unwrap_or o (record { 0 = 0 })).0 ≡ stored_of o
unfolding num_of
due_words (Some u) zero v e = absurd (cc)
due_words (Some u) (suc h) v e = refl
due_words None zero v e = refl
due_words None (suc h) v e = absurd (cc)

pub due_keys : (o : Maybe RuleNo) (h v : ℕ) → stored_of o ≡ num_of h v → h ≤ 1 → h ≡ keys_w (stored_of o)
due_keys o h v e l = sym (ap (λ (x : Num). keys_w x) e ∙ keys_num h v l)

-- A slot that was written from what the code read of the record
pub slot_read : (s ns ws bs vs cs : List ℕ) (path : ℕ) (from : Cursor) (len has : ℕ) (num due : Num) (l : List ℕ) → len ≡ get_or s (from.at + 1) 0
    → has ≡ keys_w due → num ≡ due → due ≡ num_of (has_number (get_or s from.at 0)) (get_or ns from.next 0) → l ≡ take len (drop (from.at + 4) s)
    → SlotPut ws bs vs cs from.slot.0 (record { start = path; len = len; has = has; num = num; span = 1; label = l })
    → SlotPut ws bs vs cs from.slot.0 (rec_read s ns path from)
slot_read s ns ws bs vs cs path from len has num due l p q d e b h =
    let n = d ∙ e in
    let k = q ∙ ap (λ (x : Num). keys_w x) e ∙ keys_num (has_number (get_or s from.at 0)) (get_or ns from.next 0) (omega arith) in
    let t = b ∙ ap (λ (x : ℕ). take x (drop (from.at + 4) s)) p in
    let same : record { start = path; len = len; has = has; num = num; span = 1; label = l } ≡ rec_read s ns path from =
    λ i. record { start = path; len = p i; has = k i; num = n i; span = 1; label = t i } in
    subst (λ (r : Rec). SlotPut ws bs vs cs from.slot.0 r) same h

pub room_stays : {ws bs vs cs : List ℕ} {e : ℕ} → length vs ≡ length ws → length cs ≡ length bs → Room ws bs e → Room vs cs e
room_stays p q r = record { words = omega (arith, r.words); labels = omega (arith, r.labels); few = r.few }

-- What a list has from one place on tells what it has behind a part of that.
past-drop : (s : List ℕ) (at n : ℕ) (xs ys : List ℕ) → drop at s ≡ xs ++ ys → length xs ≡ n → drop (at + n) s ≡ ys
past-drop s at n xs ys e l = sym (drop-drop n at s) ∙ ap (λ (z : List ℕ). drop n z) e ∙ drop_at xs ys n l

-- a node's own number, at place j of the numbers
record Number (ns : List ℕ) (j : ℕ) (w : Num) (more : List ℕ) : Type 0 where
  stocked : j + keys_w w ≤ length ns
  value : num_of (keys_w w) (get_or ns j 0) ≡ w
  rest : drop (j + keys_w w) ns ≡ more

number-there : (ns : List ℕ) (j : ℕ) (w : Num) (more : List ℕ) → j ≤ length ns → drop j ns ≡ numbers_w w more → Number ns j w more
unfolding numbers_w keys_w num_of
number-there ns j none more h e = record { stocked = omega arith; value = refl; rest = past-drop ns j 0 [] more e refl }
number-there ns j (some v) more h e =
    let v_is : get_or ns j 0 ≡ v = rw add-zero at (byte_at ns j 0 e) in
    record {
      stocked = omega (arith, length-drop j ns, ap length e);
      value = ap some v_is;
      rest = past-drop ns j 1 (v ∷ []) more e refl;
    }

bare_same : (ws bs vs cs : List ℕ) (k : ℕ) → rec_at vs cs k ≡ rec_at ws bs k → bare_at vs cs k ≡ bare_at ws bs k
bare_same ws bs vs cs k e = bare_of_lem vs cs k (rec_at ws bs k) e ∙ sym (bare_of_lem ws bs k (rec_at ws bs k) refl)

-- Of the tree t some nodes have their slots; the records of the others are left, and the table serves them.
pub record Left (s ns starts ws bs : List ℕ) (c : Cursor) (t : Tree) : Type 0 where
  pub items : List Item
  pub due : Due starts items
  pub inside : c.at ≤ length s
  pub image : drop c.at s ≡ image_of items
  pub stocked : c.next ≤ length ns
  pub numbers : drop c.next ns ≡ numbers_of items
  pub bares : bares_from ws bs 0 c.slot.0 ++ bares_of items ≡ bares_t t

-- At the start no node has its slot.
pub left-start : (s ns starts ws bs : List ℕ) (t : Tree) → length starts ≡ 4098 → get_or starts 0 0 ≡ 0 → ImageOf s ns t
    → Left s ns starts ws bs (record { at = 0; slot = record { 0 = 0 }; next = 0 }) t
unfolding run
left-start s ns starts ws bs t size here k =
    let u = uncleared s (items_t t) (k.image ∙ sym (tree-image t)) in
    record {
      items = u.items;
      due = u.due starts (tree-due t starts k.wf size here);
      inside = omega arith;
      image = u.image;
      stocked = omega arith;
      numbers = k.numbers ∙ sym (tree-numbers t) ∙ sym u.numbers;
      bares = u.bares ∙ tree-bares t;
    }

bares-count : (t : Tree) → length (bares_t t) ≡ nodes_t t
unfolding bares_t
bares-count t = omega (arith, bares_f-length 0 t.kids, nodes_are t)

-- The record at the cursor, and those behind it
pub record First (s ns starts ws bs : List ℕ) (c : Cursor) (t : Tree) : Type 0 where
  pub item : Item
  pub items : List Item
  pub own : ItemDue starts item
  pub rest : Due (passed starts item) items
  pub image : drop c.at s ≡ headed item.flag (length item.label) item.level (item.label ++ image_of items)
  pub stocked : c.next ≤ length ns
  pub numbers : drop c.next ns ≡ numbers_w item.num (numbers_of items)
  pub bares : bares_from ws bs 0 c.slot.0 ++ bare_of item.path item.label item.num ∷ bares_of items ≡ bares_t t

module _ {s ns starts ws bs : List ℕ} {c : Cursor} {t : Tree} (a : Left s ns starts ws bs c t) where
  pub left-done : length s ≤ c.at → Bared ws bs c.slot.0 t
  unfolding image_of bares_of
  left-done h = by a.items a.image a.bares
    where
      by : (xs : List Item) → drop c.at s ≡ image_of xs → bares_from ws bs 0 c.slot.0 ++ bares_of xs ≡ bares_t t → Bared ws bs c.slot.0 t
      by [] e b =
          let all : bares_from ws bs 0 c.slot.0 ≡ bares_t t = sym (append-nil (bares_from ws bs 0 c.slot.0)) ∙ b in
          record { count = sym (run_length (bare_at ws bs) 0 c.slot.0) ∙ ap length all ∙ bares-count t; bares = all }
      by (x ∷ xs) e b = absurd (omega (arith, length-drop c.at s, ap length e))

  pub first : c.at < length s → First s ns starts ws bs c t
  unfolding image_of numbers_of bares_of
  first h = by a.items a.due a.image a.numbers a.bares
    where
      by : (xs : List Item) → Due starts xs → drop c.at s ≡ image_of xs → drop c.next ns ≡ numbers_of xs
          → bares_from ws bs 0 c.slot.0 ++ bares_of xs ≡ bares_t t → First s ns starts ws bs c t
      by [] d e n b = absurd (omega (arith, length-drop c.at s, ap length e))
      by (x ∷ xs) d e n b =
          record { item = x; items = xs; own = d.0; rest = d.1; image = e; stocked = a.stocked; numbers = n; bares = b }

-- What the code finds there
module _ {s ns starts ws bs : List ℕ} {c : Cursor} {t : Tree} (f : First s ns starts ws bs c t) where
  abbrev x : Item
  x = f.item

  pub flag_is : get_or s c.at 0 ≡ x.flag
  flag_is = rw add-zero at (byte_at s c.at 0 f.image)

  pub len_is : get_or s (c.at + 1) 0 ≡ length x.label
  len_is = byte_at s c.at 1 f.image

  pub level_is : {level : ℕ} → level ≡ 256 * get_or s (c.at + 2) 0 + get_or s (c.at + 3) 0 → level ≡ x.level
  level_is e = omega (arith, e, byte_at s c.at 2 f.image, byte_at s c.at 3 f.image)

  pub path-is : {level path : ℕ} → level ≡ 256 * get_or s (c.at + 2) 0 + get_or s (c.at + 3) 0 → path ≡ get_or starts level 0 → path ≡ x.path
  path-is e p = p ∙ ap (λ (n : ℕ). get_or starts n 0) (level_is e) ∙ f.own.here

  label-there : drop (c.at + 4) s ≡ x.label ++ image_of f.items
  label-there = past-drop s c.at 4 (x.flag ∷ length x.label ∷ (x.level / 256) ∷ (x.level % 256) ∷ []) _ f.image refl

  pub whole : c.at + 4 + length x.label ≤ length s
  whole = omega (arith, length-drop c.at s, ap length f.image, length-append x.label (image_of f.items))

  number : Number ns c.next x.num (numbers_of f.items)
  number = number-there ns c.next x.num (numbers_of f.items) f.stocked f.numbers

  has-is : has_number (get_or s c.at 0) ≡ keys_w x.num
  has-is = ap (λ (y : ℕ). has_number y) flag_is ∙ f.own.number

  -- there is a slot for it
  pub used : c.slot.0 + 1 ≤ nodes_t t
  used =
      let rest = bare_of x.path x.label x.num ∷ bares_of f.items in
      omega (arith, ap length f.bares, length-append (bares_from ws bs 0 c.slot.0) rest, run_length (bare_at ws bs) 0 c.slot.0, bares-count t)

  pub slot_due : {path : ℕ} → path ≡ x.path → Room ws bs (nodes_t t) → SlotDue s ns ws bs path c
  slot_due e r =
      record {
        inside = omega (arith, whole, len_is);
        stocked = omega (arith, number.stocked, has-is);
        short = omega (arith, f.own.deep);
        room = record { words = omega (arith, r.words, used); labels = omega (arith, r.labels, used); few = omega (arith, r.few, used) };
      }

  pub record_due : length ns < 18446744073709551615 → Room ws bs (nodes_t t) → RecordDue s c
  record_due few r =
      record { inside = omega (arith, whole, len_is); few = omega (arith, r.few, used); countable = omega (arith, f.stocked) }

  -- The record is the node's.
  bare_is : {path : ℕ} {vs cs : List ℕ} → path ≡ x.path → SlotPut ws bs vs cs c.slot.0 (rec_read s ns path c)
      → bare_at vs cs c.slot.0 ≡ bare_of x.path x.label x.num
  bare_is {path} {vs} {cs} e p =
      let n : num_of (has_number (get_or s c.at 0)) (get_or ns c.next 0) ≡ x.num = ap (λ (h : ℕ). num_of h (get_or ns c.next 0)) has-is ∙ number.value in
      let l : take (get_or s (c.at + 1) 0) (drop (c.at + 4) s) ≡ x.label =
      ap (λ (m : ℕ). take m (drop (c.at + 4) s)) len_is
      ∙ ap (λ (z : List ℕ). take (length x.label) z) label-there
      ∙ take_at x.label (image_of f.items) (length x.label) refl in
      bare_of_lem vs cs c.slot.0 (rec_read s ns path c) p.slot ∙ λ i. record { start = e i; len = len_is i; has = has-is i; num = n i; label = l i }

  -- One record further
  pub left-next : {level path end : ℕ} {vs cs : List ℕ} {c' : Cursor} → level ≡ 256 * get_or s (c.at + 2) 0 + get_or s (c.at + 3) 0 → path ≡ get_or starts level 0
      → end ≡ path + get_or s (c.at + 1) 0 → SlotPut ws bs vs cs c.slot.0 (rec_read s ns path c) → Behind s c c'
      → Left s ns (set starts (level + 1) end) vs cs c' t
  left-next {level} {path} {end} {vs} {cs} {c'} el ep ee p b =
      let lv = level_is el in
      let pa = path-is el ep in
      let en : end ≡ x.path + length x.label = omega (arith, len_is) in
      let at : c'.at ≡ c.at + 4 + length x.label = omega (arith, b.at, len_is) in
      let next : c'.next ≡ c.next + keys_w x.num = omega (arith, b.next, has-is) in
      let before : bares_from vs cs 0 c.slot.0 ≡ bares_from ws bs 0 c.slot.0 =
      run_ext (bare_at vs cs) (bare_at ws bs) 0 0 c.slot.0 (λ i l. bare_same ws bs vs cs (0 + i) (p.others (0 + i) (λ z. omega arith))) in
      let joined : bares_from vs cs 0 (c.slot.0 + 1) ≡ bares_from vs cs 0 c.slot.0 ++ bares_from vs cs (0 + c.slot.0) 1 = run_join (bare_at vs cs) 0 c.slot.0 1 in
      let one : bares_from vs cs (0 + c.slot.0) 1 ≡ bare_of x.path x.label x.num ∷ [] =
      unfold run in ap (λ (k : ℕ). bare_at vs cs k ∷ []) (omega arith) ∙ ap (λ (y : Bare). y ∷ []) (bare_is pa p) in
      record {
        items = f.items;
        due = rw (lv, en) f.rest;
        inside = omega (arith, whole);
        image = rw at (past-drop s (c.at + 4) (length x.label) x.label (image_of f.items) label-there refl);
        stocked = omega (arith, number.stocked);
        numbers = rw next number.rest;
        bares = rw (b.slot, joined, before, one) (append_assoc (bares_from ws bs 0 c.slot.0) (bare_of x.path x.label x.num ∷ []) (bares_of f.items) ∙ f.bares);
      }
