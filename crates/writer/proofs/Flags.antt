-- A slot's flag byte is that of its node, and a node's image is its record, its children and its siblings. Assumes nothing.
use mathlib.Core.Path.{◌≡◌, refl, ap, ◌∙◌}
use mathlib.Core.List.{List, ◌∷◌, ◌++◌, append_assoc}
use mathlib.Core.Bool.{Bool, false}
use mathlib.Core.Option.{none, some}
use Prim.Native.Nat.{ℕ, suc, ◌+◌, ◌/◌, ◌%◌}
use native.Mathlib.Omega.{arith}
use lib.ListN.{length}
use lib.Dec.{ltb}
use borrow.Author.Tests.{lt-ltb, le-ltb}
use Rattle.tree.specs.Key.{Key}
use Rattle.tree.specs.Map.{Num}
use Rattle.tree.specs.Tree.{Forest, nil, node, Tree, nodes_f, keys_w}
use Rattle.tree.specs.Image.{flags, image_f, image_t}
use Rattle.flags.specs.Flags.{flag_byte}
use Rattle.flags.proofs.Judged.{numbered, peopled, flag_byte-is}
use Rattle.slots.specs.Layout.{has_of, span_of}
use Rattle.slots.specs.Records.{root_rec}
use Rattle.pool.proofs.Stands.{Holds}
use Rattle.pool.proofs.Held.{slot-is_rec}
use Rattle.writer.specs.Parts.{record_at}

-- What a record's flag byte says is what the node has.
numbered_has : (w : Num) → ltb 0 (keys_w w) ≡ numbered w
unfolding keys_w
numbered_has none = refl
numbered_has (some v) = refl

peopled_past : (a e : ℕ) (f : Forest) → a + nodes_f f ≡ e → ltb a e ≡ peopled f
unfolding nodes_f
peopled_past a e nil h = le-ltb a e (omega arith)
peopled_past a e (node b l w kids rest) h = lt-ltb a e (omega arith)

pub flags_are : (w : Num) (kids rest : Forest) (has span : ℕ) (sibling : Bool) → has ≡ keys_w w → span ≡ suc (nodes_f kids) → sibling ≡ peopled rest
    → flag_byte (ltb 0 has) (ltb 1 span) sibling ≡ flags w kids rest
flags_are w kids rest has span sibling h s q =
    let n : ltb 0 has ≡ numbered w = ap (ltb 0) h ∙ numbered_has w in
    let k : ltb 1 span ≡ peopled kids = peopled_past 1 span kids (omega arith) in
    rw (n, k, q) (flag_byte-is w kids rest)

-- A node's record, its children and its siblings
pub image-node : (n b : ℕ) (l : Key) (w : Num) (kids rest : Forest)
    → image_f n (node b l w kids rest) ≡ (flags w kids rest ∷ suc (length l) ∷ (n / 256) ∷ (n % 256) ∷ b ∷ l) ++ (image_f (n + 1) kids ++ image_f n rest)
unfolding image_f
image-node n b l w kids rest = simp append_assoc

-- The root's record
pub root_record : (ws bs : List ℕ) (t : Tree) → Holds ws bs t → record_at ws bs 0 0 false ++ image_f 1 t.kids ≡ image_t t
unfolding record_at image_t
root_record ws bs t h =
    let i = slot-is_rec ws bs 0 (root_rec t.num (nodes_f t.kids)) h.root in
    rw (flags_are t.num t.kids nil (has_of ws 0) (span_of ws 0) false i.has i.span refl, i.label, i.len)
