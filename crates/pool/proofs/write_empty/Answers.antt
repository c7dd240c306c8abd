-- `pool::write_empty` meets its contract. Assumes nothing.
use mathlib.Core.Path.{ap, ◌∙◌}
use mathlib.Core.List.{List}
use Prim.Native.Nat.{ℕ}
use Rattle.slots.specs.Put.{words_put}
use Rattle.pool.specs.Fields.{fresh_root, emptied}
use Rattle.pool.proofs.write_empty.Goals as goal

pub returns : goal.returns
unfolding emptied
returns c = c.put_words.ensures ∙ ap (λ (ws : List ℕ). words_put ws 0 fresh_root) c.set_nodes.ensures
