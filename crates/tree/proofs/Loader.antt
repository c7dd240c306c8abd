-- The loader's laws: the reader gives back the tree whose image it is handed, with or without bits that stand alone,
-- and accepts nothing else; so an image and its numbers have one tree. Assumes nothing.
use mathlib.Core.Path.{◌≡◌, refl, ◌∙◌}
use mathlib.Core.List.{List, [], ◌∷◌, append-nil}
use Prim.Native.Nat.{ℕ, ◌+◌, ◌≤◌}
use native.Mathlib.Omega.{arith}
use lib.ListN.{length, drop, drop_of_length-le}
use Rattle.tree.specs.Key.{Bytes}
use Rattle.tree.specs.Tree.{Tree, nodes_t, WellFormed}
use Rattle.tree.specs.Image.{image_t, numbers_t}
use Rattle.tree.specs.Reader.{ok, read_t}
use Rattle.tree.specs.Cleared.{cleared_from, cleared}
use Rattle.tree.proofs.Judge.{passed}
use Rattle.tree.proofs.ReaderSteps.{read_ok, accepted}
use Rattle.tree.proofs.ReaderSound.{root-sound}
use Rattle.tree.proofs.ReaderComplete.{root_complete}
use Rattle.tree.proofs.LoneBits.{read_cleared}

-- The reader gives back the tree of an image that the writer wrote.
pub read_image : (t : Tree) (slots : ℕ) → WellFormed t → nodes_t t ≤ slots → read_t (image_t t) (numbers_t t) slots ≡ ok t
unfolding image_t
read_image t slots wf h = read_ok (image_t t) (numbers_t t) slots (root_complete t wf) (passed _ (omega arith))

-- s, cleared, and ns are the image and the numbers of t, which is well-formed and fits a pool of so many slots.
pub record Loads (s ns : List ℕ) (slots : ℕ) (t : Tree) : Type 0 where
  pub image : cleared s ≡ image_t t
  pub numbers : ns ≡ numbers_t t
  pub wf : WellFormed t
  pub fits : nodes_t t ≤ slots

-- The reader accepts that, and gives t.
pub read_loads : (s ns : List ℕ) (slots : ℕ) (t : Tree) → Loads s ns slots t → read_t s ns slots ≡ ok t
read_loads s ns slots t l = read_cleared s ns slots ∙ rw (l.image, l.numbers) (read_image t slots l.wf l.fits)

none_left : (ns : List ℕ) → length ns ≤ 0 → ns ≡ []
none_left [] h = refl
none_left (x ∷ ns) h = absurd (omega arith)

-- It accepts nothing else.
pub read_accepts : (s : List ℕ) → Bytes s → (ns : List ℕ) (slots : ℕ) (t : Tree) → read_t s ns slots ≡ ok t → Loads s ns slots t
unfolding cleared_from
read_accepts s bs ns slots t e =
    let c = accepted s ns slots t e in
    let r = root-sound s bs (length s) ns c.read in
    let bytes : drop c.end s ≡ [] = drop_of_length-le s c.rules.0 in
    let numbers : c.left ≡ [] = none_left c.left c.rules.1.0 in
    record {
      image = cc (r.image, append-nil (image_t t), bytes);
      numbers = cc (r.numbers, append-nil (numbers_t t));
      wf = r.wf;
      fits = c.rules.1.1.0;
    }

-- An image with its numbers is that of one well-formed tree.
pub image_injective : (t u : Tree) → WellFormed t → WellFormed u → image_t t ≡ image_t u → numbers_t t ≡ numbers_t u → t ≡ u
image_injective t u wt wu e n =
    let slots = nodes_t t + nodes_t u in
    cc (read_image t slots wt (omega arith), read_image u slots wu (omega arith))
