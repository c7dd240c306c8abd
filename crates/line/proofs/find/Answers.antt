-- `line::find` meets its contract. Assumes nothing.
use Rattle.std.proofs.Common.{◌≡◌, ◌==◌, rules, tests}
use Rattle.std.specs.List.{position}
use Rattle.std.proofs.lemmas.Iterator.{YieldsList-from_slice}
use Rattle.std.proofs.lemmas.Iterator.Search.{position_from_yields_List}
use Rattle.line.proofs.Index.{found}
use Rattle.line.proofs.find.Goals as goal

pub returns : goal.returns
returns c =
    let s = c.args.s.now in
    let e : c.position.result ≡ position (λ x. x == c.args.b) s = position_from_yields_List (λ x. x == c.args.b) _ _ _ c.position.ensures.ran (YieldsList-from_slice s cc) (λ x r q k. search (rules, tests)) in
    rw c.unwrap_or.ensures (found c.args.b s _ e)
