-- The contracts of read and of the check decide the answer and what is left behind. Assumes nothing.
use mathlib.Core.Path.{◌≡◌, sym, ap, ◌∙◌}
use mathlib.Core.List.{List}
use Prim.Native.Nat.{ℕ}
use Rattle.std.specs.Prelude.{Ok, Err, ⊤}
use lib.ListN.{length, replicate, length-replicate}
use Rattle.tree.specs.Told.{Answer, bare_told}
use Rattle.tree.specs.Calls.{read_call}
use Rattle.tree.proofs.Judge.{never}
use Rattle.tree.proofs.OneAnswer.{bare_one, refusal_one}
use Rattle.pool.specs.Lent.{Lent, size_in}
use Rattle.pool.proofs.Decided.{Decided, answer_decides}
use Rattle.reader.specs.Check.{count_of, CheckedAs}
use Rattle.reader.specs.Post.{ReadAllows}

pub read_determined : (s ns : List ℕ) (was is is' : Lent) (a b : Answer ⊤) → ReadAllows s ns a was is → ReadAllows s ns b was is' → Decided bare_told a b is is'
read_determined s ns was is is' = answer_decides bare_told bare_one was is is' (read_call (size_in was) s ns)

counts_one : (a b : Answer ℕ) → count_of a ≡ count_of b → a ≡ b
counts_one (Ok j) (Ok k) e = ap Ok (cc)
counts_one (Ok j) (Err y) e = never (cc)
counts_one (Err x) (Ok k) e = never (cc)
counts_one (Err x) (Err y) e = ap Err (refusal_one x y (cc))

-- There are lists of any number of numbers, so the check's contract says something of each.
pub check_determined : (s : List ℕ) (numbers slots : ℕ) (a b : Answer ℕ) → CheckedAs s numbers slots a → CheckedAs s numbers slots b → a ≡ b
check_determined s numbers slots a b p q =
    let ns : List ℕ = replicate numbers 0 in
    let so_many : length ns ≡ numbers = length-replicate numbers 0 in
    counts_one a b (p ns so_many ∙ sym (q ns so_many))
