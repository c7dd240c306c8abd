-- The loader, of the calls: what write left at the fronts of its outputs is read back as the same tree, into any pool
-- in which it fits; what read accepted is written again as the same numbers and the same bytes, cleared of the
-- allocated bits that stood alone; and those bits change nothing else. Assumes nothing.
use Rattle.std.specs.Prelude.{⊤, Ok}
use mathlib.Core.Path.{◌≡◌, refl, sym, ap, ◌∙◌}
use mathlib.Core.Logic.{◌↔◌}
use mathlib.Core.List.{List, [], ◌∷◌}
use mathlib.Core.Option.{Option, none, some}
use Prim.Native.Nat.{ℕ, ◌≤◌}
use lib.ListN.{length, take}
use lib.Seq.{take_at}
use Rattle.tree.specs.Key.{Bytes}
use Rattle.tree.specs.Tree.{Tree, WellFormed, nodes_t}
use Rattle.tree.specs.Image.{image_t, numbers_t}
use Rattle.tree.specs.Cleared.{cleared}
use Rattle.tree.specs.Told.{Answer, Told, done, written_told, bare_told}
use Rattle.tree.specs.Calls.{leaves, read_told, read_call}
use Rattle.tree.specs.declared.Written.{Written}
use Rattle.tree.proofs.OneAnswer.{bare_one}
use Rattle.tree.proofs.LoneBits.{read_cleared}
use Rattle.tree.proofs.Loader.{read_image, read_accepts}
use Rattle.pool.specs.Lent.{Lent, tree_in, size_in}
use Rattle.pool.specs.Post.{Does}
use Rattle.pool.proofs.Held.{tree-holds}
use Rattle.reader.specs.Post.{ReadAllows}
use Rattle.writer.specs.Post.{front, WriteAllows}
use Rattle.promises.specs.Pools.{Accepted}
use Rattle.promises.proofs.Calls.{read_leaves}
use Rattle.promises.proofs.Writes.{write_leaves}

-- The image of a well-formed tree that fits is accepted, and leaves that tree.
read_own : (t : Tree) (slots : ℕ) → WellFormed t → nodes_t t ≤ slots → read_call (some slots) (image_t t) (numbers_t t) ≡ leaves [] t
unfolding read_call read_told
read_own t slots wf h = rw (read_image t slots wf h)

-- Bits that stand alone change neither the answer nor the pool that is left.
call_cleared : (slots : Option ℕ) (s ns : List ℕ) → read_call slots s ns ≡ read_call slots (cleared s) ns
unfolding read_call
call_cleared none s ns = refl
call_cleared (some n) s ns = rw (read_cleared s ns n)

pub read_alike : (s ns : List ℕ) (q : Answer ⊤) (was is : Lent)
    → ReadAllows s ns q was is ↔ ReadAllows (cleared s) ns q was is
read_alike s ns q was is =
    let e = call_cleared (size_in was) s ns in
    (λ d. rw e at d, λ d. rw e d)

pub record ReadBack (t : Tree) (q : Answer ⊤) (is : Lent) : Type 0 where
  pub answer : q ≡ Ok tt
  pub left : tree_in is ≡ some t

-- A slice of bytes holds bytes, and b and n are the lengths that write told.
pub write_read : (l : Lent) → Bytes l.labels → (t : Tree) → tree_in l ≡ some t → (r : Answer Written) (tree numbers tree' numbers' : List ℕ) → WriteAllows r l tree numbers tree' numbers'
    → (b n : ℕ) → written_told r ≡ done (b ∷ n ∷ []) → (q : Answer ⊤) (was is : Lent) (slots : ℕ) → size_in was ≡ some slots → nodes_t t ≤ slots
    → ReadAllows (take b tree') (take n numbers') q was is → ReadBack t q is
write_read l by t held r tree numbers tree' numbers' w b n told q was is slots sized fits d =
    let x = write_leaves l r tree numbers tree' numbers' w (ap (λ (z : Told). z.number) told) in
    let same : x.whole ≡ t = cc x.held in
    let lengths : done (b ∷ n ∷ []) ≡ done (length (image_t t) ∷ length (numbers_t t) ∷ []) = sym told ∙ rw same at x.lengths in
    let values : b ∷ n ∷ [] ≡ length (image_t t) ∷ length (numbers_t t) ∷ [] = ap (λ (z : Told). z.values) lengths in
    let bytes : take b tree' ≡ image_t t = rw (x.bytes, same) (take_at (image_t t) _ b (cc)) in
    let nums : take n numbers' ≡ numbers_t t = rw (x.nums, same) (take_at (numbers_t t) _ n (cc)) in
    let wf = (tree-holds l.words l.labels by t held).wf in
    let o : read_call (size_in was) (take b tree') (take n numbers') ≡ leaves [] t = rw (sized, bytes, nums) (read_own t slots wf fits) in
    let left : Does (leaves [] t) (bare_told q) was is = rw o at d in
    record { answer = bare_one q (Ok tt) left.said; left = left.tree }

pub record WroteBack (s ns : List ℕ) (r : Answer Written) (tree numbers tree' numbers' : List ℕ) : Type 0 where
  pub lengths : written_told r ≡ done (length s ∷ length ns ∷ [])
  pub bytes : tree' ≡ front s tree
  pub nums : numbers' ≡ front ns numbers

pub read_write : (s ns : List ℕ) → Bytes s → (q : Answer ⊤) (was is : Lent) → ReadAllows s ns q was is → Accepted (bare_told q)
    → (r : Answer Written) (tree numbers tree' numbers' : List ℕ) → WriteAllows r is tree numbers tree' numbers'
    → Accepted (written_told r) → WroteBack (cleared s) ns r tree numbers tree' numbers'
read_write s ns by q was is d e r tree numbers tree' numbers' w f =
    let x = read_leaves s ns (bare_told q) was is d e in
    let loads = read_accepts s by ns x.size x.tree x.read in
    let y = write_leaves is r tree numbers tree' numbers' w f in
    let same : y.whole ≡ x.tree = cc (y.held, x.left) in
    let image : image_t y.whole ≡ cleared s = ap image_t same ∙ sym loads.image in
    let list : numbers_t y.whole ≡ ns = ap numbers_t same ∙ sym loads.numbers in
    record { lengths = rw (image, list) at y.lengths; bytes = rw image at y.bytes; nums = rw list at y.nums }
