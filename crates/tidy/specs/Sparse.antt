-- Siblings among gaps: what the slots hold while a tree is made smaller. A slot without a label is a gap; starts and spans
-- are those of before, so that every span still says where the next sibling stood.
use Rattle.std.specs.Prelude.{◌≡◌, List, [], ℕ, suc, ◌+◌, ◌-◌, ◌≤◌, ◌<◌, length}
use Rattle.tree.specs.Key.{Key}
use Rattle.tree.specs.Map.{Num}
use Rattle.tree.specs.Tree.{Forest, nil, node}
use Rattle.tree.specs.Remove.{settle}
use Rattle.slots.specs.Layout.{SameHead, words_for, bytes_for, WordsIn, RoomIn, start_of, len_of, span_of}
use Rattle.slots.specs.Bare.{bare_at, bares_from, node_bare, bares_f}
use Rattle.splice.specs.Splice.{solid}
use Rattle.tidy.specs.declared.Kids.{Kids}

-- A slot that is gone, with all that was below it
pub record Hollow (ws bs : List ℕ) (c : ℕ) : Type 0 where
  pub len : len_of ws c ≡ 0
  pub span : 1 ≤ span_of ws c
  pub bares : solid (bares_from ws bs c (span_of ws c)) ≡ []

-- A slot that holds a node under a path of s bytes, whose children are what is not a gap in its span
pub record Solid (ws bs : List ℕ) (s b : ℕ) (l : Key) (w : Num) (kids : Forest) (c : ℕ) : Type 0 where
  pub slot : bare_at ws bs c ≡ node_bare s b l w
  pub span : 1 ≤ span_of ws c
  pub below : solid (bares_from ws bs (c + 1) (span_of ws c - 1)) ≡ bares_f (s + suc (length l)) kids

-- From slot c to slot e, from span to span, stand the nodes of the forest, with gaps between them.
pub data Sparse (ws bs : List ℕ) (s e : ℕ) : Forest → ℕ → Type 0 where
  ended : {c : ℕ} → c ≡ e → Sparse ws bs s e nil c
  gap : {f : Forest} {c : ℕ} → Hollow ws bs c → Sparse ws bs s e f (c + span_of ws c) → Sparse ws bs s e f c
  full : {b : ℕ} {l : Key} {w : Num} {kids rest : Forest} {c : ℕ} → Solid ws bs s b l w kids c → Sparse ws bs s e rest (c + span_of ws c)
      → Sparse ws bs s e (node b l w kids rest) c

-- From span to span the slots lead from c to e.
pub data Hops (ws : List ℕ) (e : ℕ) : ℕ → Type 0 where
  there : {c : ℕ} → c ≡ e → Hops ws e c
  hop : {c : ℕ} → 1 ≤ span_of ws c → Hops ws e (c + span_of ws c) → Hops ws e c

-- From slot `from` to slot r there are gaps only, and the forest stands from r on; r is no gap.
pub record Next (ws bs : List ℕ) (s e : ℕ) (f : Forest) (from r : ℕ) : Type 0 where
  pub low : from ≤ r
  pub passed : solid (bares_from ws bs from (r - from)) ≡ []
  pub rest : Sparse ws bs s e f r
  pub here : r < e → len_of ws r ≡ 0 → ⊥

-- A node whose children have been tidied, and who is next
pub record Ripe (ws bs : List ℕ) (c s b : ℕ) (l : Key) (w : Num) (kids : Forest) : Type 0 where
  pub slot : bare_at ws bs c ≡ node_bare s b l w
  pub span : 1 ≤ span_of ws c
  pub kids_are : Sparse ws bs (s + suc (length l)) (c + span_of ws c) kids (c + 1)

pub record Ready (ws bs : List ℕ) (c : ℕ) : Type 0 where
  pub words : words_for (c + span_of ws c) ≤ length ws
  pub labels : bytes_for (c + span_of ws c) ≤ length bs
  pub s : ℕ
  pub b : ℕ
  pub l : Key
  pub w : Num
  pub kids : Forest
  pub ripe : Ripe ws bs c s b l w kids

-- It has no child: there are only gaps in its span.
pub record Childless (ws bs : List ℕ) (c : ℕ) (kids : Forest) : Type 0 where
  pub none : kids ≡ nil
  pub gaps : solid (bares_from ws bs (c + 1) (span_of ws c - 1)) ≡ []

-- It has an only child, at slot i, under a path of d bytes, and else there are only gaps in its span.
pub record OnlyChild (ws bs : List ℕ) (c d : ℕ) (kids : Forest) (i : ℕ) : Type 0 where
  pub b : ℕ
  pub l : Key
  pub w : Num
  pub below : Forest
  pub is : kids ≡ node b l w below nil
  pub child : Solid ws bs d b l w below i
  pub low : c < i
  pub high : i + span_of ws i ≤ c + span_of ws c
  pub before : solid (bares_from ws bs (c + 1) (i - (c + 1))) ≡ []
  pub behind : solid (bares_from ws bs (i + span_of ws i) (c + span_of ws c - (i + span_of ws i))) ≡ []

-- It has more than one.
pub record Several (kids : Forest) : Type 0 where
  pub b₁ : ℕ
  pub l₁ : Key
  pub w₁ : Num
  pub below₁ : Forest
  pub b₂ : ℕ
  pub l₂ : Key
  pub w₂ : Num
  pub below₂ : Forest
  pub rest : Forest
  pub is : kids ≡ node b₁ l₁ w₁ below₁ (node b₂ l₂ w₂ below₂ rest)

abbrev pub KidsAre : (ws bs : List ℕ) (c d : ℕ) (kids : Forest) → Kids → Type 0
KidsAre ws bs c d kids Kids.Nothing = Childless ws bs c kids
KidsAre ws bs c d kids (Kids.One i) = OnlyChild ws bs c d kids i.0
KidsAre ws bs c d kids Kids.More = Several kids

-- Slot i is a child of slot c, and both lie within the buffers.
pub record Below (ws bs : List ℕ) (c i : ℕ) : Type 0 where
  pub order : c < i
  pub words : WordsIn ws i
  pub labels : RoomIn bs i

-- Nothing is written but within the span of slot c, and no start and no span.
pub record Inside (ws bs vs cs : List ℕ) (c : ℕ) : Type 0 where
  pub len_w : length vs ≡ length ws
  pub len_b : length cs ≡ length bs
  pub head : SameHead ws vs
  pub starts : (i : ℕ) → RoomIn bs i → start_of vs i ≡ start_of ws i
  pub spans : (i : ℕ) → span_of vs i ≡ span_of ws i
  pub before : (i : ℕ) → i < c → RoomIn bs i → bare_at vs cs i ≡ bare_at ws bs i
  pub behind : (i : ℕ) → c + span_of ws c ≤ i → RoomIn bs i → bare_at vs cs i ≡ bare_at ws bs i

-- The node at slot c is settled, before whatever siblings come behind it.
pub record NodeSettled (ws bs vs cs : List ℕ) (c s b : ℕ) (l : Key) (w : Num) (kids : Forest) : Type 0 where
  pub inside : Inside ws bs vs cs c
  pub siblings : (e : ℕ) (rest : Forest) → Sparse vs cs s e rest (c + span_of ws c) → Sparse vs cs s e (settle b l w kids rest) c

-- Slot r is the nearest before slot c that starts above it, or else the root.
pub record Parent (ws : List ℕ) (c r : ℕ) : Type 0 where
  pub below : r < c
  pub near : (i : ℕ) → r < i → i < c → start_of ws c ≤ start_of ws i
  pub lower : (r ≡ 0 → ⊥) → start_of ws r < start_of ws c
