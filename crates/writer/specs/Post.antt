-- What the writer leaves in its two outputs, and its contract.
use Rattle.std.specs.Prelude.{◌≡◌, List, ◌++◌, ℕ, zero, suc, length, drop}
use Rattle.std.proofs.Math.Option.{Option, none, some}
use Rattle.tree.specs.Tree.{Tree}
use Rattle.tree.specs.Told.{Told, Answer, written_told}
use Rattle.tree.specs.declared.Written.{Written}
use Rattle.tree.specs.Image.{image_t, numbers_t}
use Rattle.tree.specs.Calls.{write_call}
use Rattle.pool.specs.Lent.{Lent, tree_in}

-- The bytes at the front of an output, and the rest of it untouched
abbrev pub front : List ℕ → List ℕ → List ℕ
front xs out = xs ++ drop (length xs) out

-- With 0 an output has at its front what the tree gives; with any other number it is what it was.
unfoldable pub after : Option Tree → (number : ℕ) → (Tree → List ℕ) → List ℕ → List ℕ
after (some t) zero what out = front (what t) out
after (some t) (suc n) what out = out
after none n what out = out

pub record Writes (o : Option Tree) (told : Told) (tree numbers tree' numbers' : List ℕ) : Type 0 where
  pub said : told ≡ write_call o (length tree) (length numbers)
  pub bytes : tree' ≡ after o told.number image_t tree
  pub nums : numbers' ≡ after o told.number numbers_t numbers

-- What write allows: an answer, and the outputs that it leaves
abbrev pub WriteAllows : Answer Written → Lent → (tree numbers tree' numbers' : List ℕ) → Type 0
WriteAllows r was tree numbers tree' numbers' = Writes (tree_in was) (written_told r) tree numbers tree' numbers'
