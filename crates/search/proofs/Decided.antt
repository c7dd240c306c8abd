-- The contracts of get, longest stored prefix and shared length decide the answer. (`descend_determined` in EndsOnce.antt says the
-- same of the descent.) Assumes nothing.
use mathlib.Core.Path.{◌≡◌, sym, ◌∙◌}
use Rattle.tree.specs.Key.{Key}
use Rattle.tree.specs.Told.{Answer}
use Rattle.tree.specs.declared.Got.{Got}
use Rattle.tree.specs.declared.Prefixed.{Prefixed}
use Rattle.tree.specs.declared.Sharing.{Sharing}
use Rattle.tree.proofs.OneAnswer.{got_one, prefixed_one, sharing_one}
use Rattle.pool.specs.Lent.{Lent}
use Rattle.search.specs.Post.{GetAllows, LongestAllows, SharedAllows}

module _ (was : Lent) (q : Key) where
  pub get_determined : (a b : Answer Got) → GetAllows q a was → GetAllows q b was → a ≡ b
  get_determined a b x y = got_one a b (x ∙ sym y)

  pub longest_determined : (a b : Answer Prefixed) → LongestAllows q a was → LongestAllows q b was → a ≡ b
  longest_determined a b x y = prefixed_one a b (x ∙ sym y)

  pub shared_determined : (a b : Answer Sharing) → SharedAllows q a was → SharedAllows q b was → a ≡ b
  shared_determined a b x y = sharing_one a b (x ∙ sym y)
