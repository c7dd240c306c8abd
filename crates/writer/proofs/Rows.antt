-- The rows of siblings that are still to be written, the nearest first, and the table in which each finds its level. One slot
-- further, the children of the slot are the nearest row, and its younger siblings the next. Assumes nothing.
use mathlib.Core.Path.{◌≡◌, refl, sym, ap, ◌∙◌, subst}
use mathlib.Core.Bool.{Bool, true, false}
use mathlib.Core.List.{List, [], ◌∷◌, ◌++◌, append_assoc, append-nil}
use Prim.Native.Nat.{ℕ, suc, ◌+◌, ◌/◌, ◌%◌, ◌≤◌, ◌<◌}
use native.Mathlib.Nat.{add-zero}
use native.Mathlib.Omega.{arith}
use lib.ListN.{length, get_or, set, length-append}
use lib.Seq.{get_or-set_same, get_or-set_other}
use lib.Dec.{ltb, eqb}
use borrow.Author.Tests.{lt-ltb, le-ltb, ltb-true, eq-eqb, ne_eqb}
use Rattle.tree.specs.Key.{Key, key_max}
use Rattle.tree.specs.Map.{Num}
use Rattle.tree.specs.Tree.{Forest, nil, node, nodes_f, Wf, room}
use Rattle.tree.specs.Image.{flags, image_f}
use Rattle.flags.proofs.Judged.{peopled}
use Rattle.slots.specs.Layout.{start_of, len_of, has_of, span_of}
use Rattle.slots.specs.Records.{node_rec}
use Rattle.pool.specs.Rule.{Within}
use Rattle.pool.proofs.Stands.{Stands, stands_at, recs_stands}
use Rattle.pool.proofs.Held.{SlotIs, slot-is_rec}
use Rattle.writer.specs.Parts.{record_at, follows_at}
use Rattle.writer.specs.Runs.{Run, Put, RecordRoom}
use Rattle.writer.proofs.Lists.{put-none, put-more, put_as, put-length}
use Rattle.writer.proofs.Flags.{flags_are, image-node}

-- What the code finds behind a slot's span
pub follows_past : (ws : List ℕ) (c n : ℕ) {next : ℕ} → next ≡ c + span_of ws c → n ≤ next → false ≡ follows_at ws c n
unfolding follows_at
follows_past ws c n q h = rw (le-ltb (c + span_of ws c) n (omega arith), follows_at)

pub follows_start : (ws : List ℕ) (c n : ℕ) {next a b : ℕ} → next ≡ c + span_of ws c → next < n → a ≡ start_of ws next → b ≡ start_of ws c → eqb a b ≡ follows_at ws c n
unfolding follows_at
follows_start ws c n q h x y = rw (lt-ltb (c + span_of ws c) n (omega arith), follows_at, x, y, q)

-- A row: its level, the bytes of the path above it, its nodes; and the rows behind it
pub data Rows : Type 0 where
  none : Rows
  row : (level path : ℕ) (f : Forest) → Rows → Rows

unfoldable pub image_rows : Rows → List ℕ
image_rows none = []
image_rows (row n s f rs) = image_f n f ++ image_rows rs

-- The row stands from slot c on, under a path shorter than `top`, and its level is in the table.
pub record RowAt (ws bs levels : List ℕ) (top c level path : ℕ) (f : Forest) : Type 0 where
  pub stands : Stands ws bs path f c
  pub wf : Wf path f
  pub here : get_or levels path 0 ≡ level
  pub shallow : level ≤ path + 1
  pub below : path < top

-- The rows due stand one behind another from slot c up to slot e, each under a shorter path than the one before.
abbrev pub Due : (ws bs levels : List ℕ) (top c e : ℕ) → Rows → Type 0
Due ws bs levels top c e none = c ≡ e
Due ws bs levels top c e (row n s f rs) = RowAt ws bs levels top c n s f × Due ws bs levels s (c + nodes_f f) e rs

due-at : (ws bs levels : List ℕ) (top e : ℕ) (rs : Rows) {c d : ℕ} → c ≡ d → Due ws bs levels top c e rs → Due ws bs levels top d e rs
due-at ws bs levels top e rs q h = subst (λ (x : ℕ). Due ws bs levels top x e rs) q h

-- A store behind all paths changes no row's level.
due-kept : (ws bs levels : List ℕ) (top c e x v : ℕ) (rs : Rows) → top ≤ x → Due ws bs levels top c e rs → Due ws bs (set levels x v) top c e rs
due-kept ws bs levels top c e x v none h d = d
due-kept ws bs levels top c e x v (row n s f rs) h d =
    let a = d.0 in
    let other : s ≡ x → ⊥ = λ q. omega (arith, a.below) in
    let k = due-kept ws bs levels s (c + nodes_f f) e x v rs (omega (arith, a.below)) d.1 in
    (record { stands = a.stands; wf = a.wf; here = get_or-set_other levels x s v 0 other ∙ a.here; shallow = a.shallow; below = a.below }, k)

due-ends : (ws bs levels : List ℕ) (top c e : ℕ) (rs : Rows) → Due ws bs levels top c e rs → c ≤ e
due-ends ws bs levels top c e none d = omega arith
due-ends ws bs levels top c e (row n s f rs) d = omega (arith, due-ends ws bs levels s (c + nodes_f f) e rs d.1)

-- The first row that is not empty, and its first node
pub record FirstDue (ws bs levels : List ℕ) (top c e : ℕ) (rs : Rows) : Type 0 where
  pub level : ℕ
  pub path : ℕ
  pub b : ℕ
  pub l : Key
  pub w : Num
  pub kids : Forest
  pub rest : Forest
  pub first : RowAt ws bs levels top c level path (node b l w kids rest)
  pub others : Rows
  pub tail : Due ws bs levels path (c + suc (nodes_f kids + nodes_f rest)) e others
  pub image : image_rows rs ≡ image_f level (node b l w kids rest) ++ image_rows others

head-lower : {ws bs levels : List ℕ} {s top c e : ℕ} {rs rs' : Rows} → s < top → image_rows rs' ≡ image_rows rs → FirstDue ws bs levels s c e rs → FirstDue ws bs levels top c e rs'
head-lower lt q h =
    let a = h.first in
    record {
      level = h.level;
      path = h.path;
      b = h.b;
      l = h.l;
      w = h.w;
      kids = h.kids;
      rest = h.rest;
      first = record { stands = a.stands; wf = a.wf; here = a.here; shallow = a.shallow; below = omega (arith, a.below) };
      others = h.others;
      tail = h.tail;
      image = q ∙ h.image;
    }

pub head : (ws bs levels : List ℕ) (top c e : ℕ) (rs : Rows) → Due ws bs levels top c e rs → c < e → FirstDue ws bs levels top c e rs
unfolding nodes_f image_rows image_f
head ws bs levels top c e none d h = absurd (omega arith)
head ws bs levels top c e (row n s nil rs) d h =
    head-lower d.0.below refl (head ws bs levels s c e rs (due-at ws bs levels s e rs (add-zero c) d.1) h)
head ws bs levels top c e (row n s (node b l w kids rest) rs) d h =
    record { level = n; path = s; b = b; l = l; w = w; kids = kids; rest = rest; first = d.0; others = rs; tail = d.1; image = refl }

-- What stands at slot c
module _ {ws bs levels : List ℕ} {top c e : ℕ} {rs : Rows} (h : FirstDue ws bs levels top c e rs) where
  pub slot : SlotIs ws bs c (node_rec h.path h.b h.l h.w (nodes_f h.kids))
  slot = slot-is_rec ws bs c (node_rec h.path h.b h.l h.w (nodes_f h.kids)) h.first.stands.0

  pub head-short : len_of ws c ≤ 255
  unfolding room
  head-short = omega (arith, slot.len, h.first.wf.short)

  pub head-deep : h.path + len_of ws c ≤ 4096
  unfolding key_max
  head-deep = omega (arith, slot.len, h.first.wf.deep)

  pub head_level : h.level ≤ 4096
  head_level = omega (arith, h.first.shallow, head-deep, slot.len)

  past_is : c + span_of ws c ≡ c + suc (nodes_f h.kids)
  past_is = omega (arith, slot.span)

  -- A younger sibling follows exactly if there is one: what stands behind the span starts there, or farther up.
  follows_some : (b : ℕ) (l : Key) (w : Num) (kids rest : Forest) → h.rest ≡ node b l w kids rest → follows_at ws c e ≡ true
  unfolding follows_at nodes_f
  follows_some b l w kids rest q =
      let st : Stands ws bs h.path (node b l w kids rest) (c + suc (nodes_f h.kids)) = rw q at h.first.stands.2 in
      let i = slot-is_rec ws bs (c + suc (nodes_f h.kids)) (node_rec h.path b l w (nodes_f kids)) st.0 in
      let n : nodes_f h.rest ≡ suc (nodes_f kids + nodes_f rest) = ap nodes_f q in
      let inside : c + span_of ws c < e = omega (arith, past_is, due-ends ws bs levels h.path (c + suc (nodes_f h.kids + nodes_f h.rest)) e h.others h.tail) in
      let there : start_of ws (c + span_of ws c) ≡ start_of ws c = ap (start_of ws) past_is ∙ i.start ∙ sym slot.start in
      rw (lt-ltb (c + span_of ws c) e inside, follows_at, eq-eqb (start_of ws (c + span_of ws c)) (start_of ws c) there)

  follows_none : h.rest ≡ nil → follows_at ws c e ≡ false
  unfolding follows_at nodes_f
  follows_none q = by (ltb (c + span_of ws c) e) refl
    where
      n : nodes_f h.rest ≡ 0
      n = ap nodes_f q

      farther : ltb (c + span_of ws c) e ≡ true → start_of ws (c + span_of ws c) ≡ start_of ws c → ⊥
      farther t same =
          let d : Due ws bs levels h.path (c + span_of ws c) e h.others = due-at ws bs levels h.path e h.others (omega (arith, past_is, n)) h.tail in
          let g = head ws bs levels h.path (c + span_of ws c) e h.others d (ltb-true (c + span_of ws c) e t) in
          let i = slot-is_rec ws bs (c + span_of ws c) (node_rec g.path g.b g.l g.w (nodes_f g.kids)) g.first.stands.0 in
          omega (arith, i.start, slot.start, g.first.below)

      by : (t : Bool) → ltb (c + span_of ws c) e ≡ t → follows_at ws c e ≡ false
      by false t = rw (t, follows_at)
      by true t = rw (t, follows_at, ne_eqb (start_of ws (c + span_of ws c)) (start_of ws c) (farther t))

  follows_is : follows_at ws c e ≡ peopled h.rest
  follows_is = by h.rest refl
    where
      by : (f : Forest) → h.rest ≡ f → follows_at ws c e ≡ peopled f
      by nil q = follows_none q
      by (node b l w kids rest) q = follows_some b l w kids rest q

  -- so its record is the node's
  pub record_is : record_at ws bs c h.level (follows_at ws c e)
      ≡ flags h.w h.kids h.rest ∷ suc (length h.l) ∷ (h.level / 256) ∷ (h.level % 256) ∷ h.b ∷ h.l
  unfolding record_at
  record_is =
      rw (flags_are h.w h.kids h.rest (has_of ws c) (span_of ws c) (follows_at ws c e) slot.has slot.span follows_is, slot.label, slot.len)

-- Of the forest f some nodes are passed, and their records have been put; the rows that are left are due from slot c on.
pub record Flat (ws bs levels : List ℕ) (c e : ℕ) (out₀ : List ℕ) (start : ℕ) (out : List ℕ) (place : ℕ) (f : Forest) : Type 0 where
  pub rows : Rows
  pub top : ℕ
  pub due : Due ws bs levels top c e rows
  pub passed : List ℕ
  pub image : image_f 1 f ≡ passed ++ image_rows rows
  pub put : Put passed out₀ start out place

-- At the start it is one row, and every entry of the table is 1.
pub flat_start : (ws bs levels : List ℕ) (e : ℕ) (out : List ℕ) (place : ℕ) (f : Forest) → ((s : ℕ) → s < 4097 → get_or levels s 0 ≡ 1) → Run ws bs 1 e 1 f
    → Flat ws bs levels 1 e out place out place f
unfolding image_rows image_f key_max nodes_f
flat_start ws bs levels e out place nil ones r =
    record { rows = none; top = 0; due = omega (arith, r.ends); passed = []; image = refl; put = put-none out place }
flat_start ws bs levels e out place (node b l w kids rest) ones r =
    let s = r.path in
    let f = node b l w kids rest in
    let first : RowAt ws bs levels (s + 1) 1 1 s f =
    record {
      stands = recs_stands ws bs s f 1 r.recs;
      wf = r.wf;
      here = ones s (omega (arith, r.wf.deep));
      shallow = r.shallow;
      below = omega arith;
    } in
    record { rows = row 1 s f none; top = s + 1; due = (first, r.ends); passed = []; image = sym (append-nil (image_f 1 f)); put = put-none out place }

rows_empty : (ws bs levels : List ℕ) (top c e : ℕ) (rs : Rows) → Due ws bs levels top c e rs → e ≤ c → image_rows rs ≡ []
unfolding image_rows image_f nodes_f
rows_empty ws bs levels top c e none d h = refl
rows_empty ws bs levels top c e (row n s nil rs) d h = rows_empty ws bs levels s (c + 0) e rs d.1 (omega arith)
rows_empty ws bs levels top c e (row n s (node b l w kids rest) rs) d h =
    absurd (omega (arith, due-ends ws bs levels s (c + nodes_f (node b l w kids rest)) e rs d.1))

module _ {ws bs levels : List ℕ} {c e : ℕ} {out₀ : List ℕ} {start : ℕ} {out : List ℕ} {place : ℕ} {f : Forest}
    (a : Flat ws bs levels c e out₀ start out place f) where
  pub flat_done : e ≤ c → Put (image_f 1 f) out₀ start out place
  flat_done h =
      let z = rows_empty ws bs levels a.top c e a.rows a.due h in
      put_as (sym (append-nil a.passed) ∙ ap (λ (x : List ℕ). a.passed ++ x) (sym z) ∙ sym a.image) a.put

  module _ (h : c < e) where
    pub at : FirstDue ws bs levels a.top c e a.rows
    at = head ws bs levels a.top c e a.rows a.due h

    -- what the table says is the node's level
    pub level_is : {start' level : ℕ} → start' ≡ start_of ws c → level ≡ get_or levels start' 0 → level ≡ at.level
    level_is {start'} p q = q ∙ ap (λ (s : ℕ). get_or levels s 0) (p ∙ (slot at).start) ∙ at.first.here

    all_image : image_f 1 f ≡ (a.passed ++ record_at ws bs c at.level (follows_at ws c e)) ++ (image_f (at.level + 1) at.kids ++ (image_f at.level at.rest ++ image_rows at.others))
    all_image = a.image ∙ rw (at.image, image-node at.level at.b at.l at.w at.kids at.rest, record_is at) (simp append_assoc)

    record_length : length (record_at ws bs c at.level (follows_at ws c e)) ≡ 4 + len_of ws c
    record_length = rw (record_is at) (omega (arith, (slot at).len))

    pub flat_room : Within ws bs e → start + length (image_f 1 f) ≤ length out₀ → {level : ℕ} → level ≡ at.level → RecordRoom ws bs c level out place
    flat_room within fits {level} q =
        let n = simp length-append at (ap length all_image) in
        record {
          within = record { words = omega (arith, within.words); labels = omega (arith, within.labels) };
          short = head-short at;
          shallow = omega (arith, head_level at);
          fits = omega (arith, n, record_length, put-length a.put, a.put.behind);
        }

    pub flat_step : {start' end level place' : ℕ} {out₁ : List ℕ} → length levels ≡ 4097 → start' ≡ start_of ws c → end ≡ start' + len_of ws c → level ≡ get_or levels start' 0
        → Put (record_at ws bs c level (follows_at ws c e)) out place out₁ place' → Flat ws bs (set levels end (level + 1)) (c + 1) e out₀ start out₁ place' f
    flat_step {start'} {end} {level} {place'} {out₁} size p q g put =
        let k = level_is p g in
        let s = slot at in
        let deep = head-deep at in
        let x : end ≡ at.path + suc (length at.l) = omega (arith, s.start, s.len) in
        let levels' = set levels end (level + 1) in
        let kids : RowAt ws bs levels' (at.path + suc (length at.l) + 1) (c + 1) (at.level + 1) (at.path + suc (length at.l)) at.kids =
        record {
          stands = at.first.stands.1;
          wf = at.first.wf.wkids;
          here = rw (← x) (get_or-set_same levels end (level + 1) 0 (omega (arith, s.len))) ∙ ap (λ (n : ℕ). n + 1) k;
          shallow = omega (arith, at.first.shallow);
          below = omega arith;
        } in
        let rest : RowAt ws bs levels' (at.path + suc (length at.l)) (c + 1 + nodes_f at.kids) at.level at.path at.rest =
        record {
          stands = stands_at ws bs at.path at.rest (omega arith) at.first.stands.2;
          wf = at.first.wf.wrest;
          here = get_or-set_other levels end at.path (level + 1) 0 (λ z. omega arith) ∙ at.first.here;
          shallow = at.first.shallow;
          below = omega arith;
        } in
        let tail : Due ws bs levels' at.path (c + 1 + nodes_f at.kids + nodes_f at.rest) e at.others =
        due-at ws bs levels' at.path e at.others (omega arith)
        (due-kept ws bs levels at.path (c + suc (nodes_f at.kids + nodes_f at.rest)) e end (level + 1) at.others (omega arith) at.tail) in
        record {
          rows = row (at.level + 1) (at.path + suc (length at.l)) at.kids (row at.level at.path at.rest at.others);
          top = at.path + suc (length at.l) + 1;
          due = (kids, (rest, tail));
          passed = a.passed ++ record_at ws bs c level (follows_at ws c e);
          image = rw k (all_image ∙ unfold image_rows in refl);
          put = put-more a.put put;
        }
