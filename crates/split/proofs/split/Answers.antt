-- `split::split` meets its contract, by where the search has ended. Assumes nothing.
use mathlib.Core.Path.{sym}
use mathlib.Core.Logic.{inl, inr}
use Rattle.std.proofs.lemmas.Result.{err_from_is_err_and}
use Rattle.tree.proofs.Exits.{was-some, was-none}
use Rattle.pool.specs.Rule.{Lengths}
use Rattle.pool.proofs.Decode.{lengths-right}
use Rattle.search.specs.declared.Stop.{Stop}
use Rattle.search.proofs.Answers.{Known, knows}
use Rattle.split.proofs.Halves.{landed, landed_root, absent_told, first-refused, second-refused, prefix_long}
use Rattle.split.proofs.split.Goals as goal
use Rattle.split.proofs.split.Goals.{After-descend-d}

-- what is known behind the descent, and of the second pool
known : (c : goal.After-descend-d) → let a = c.args in Known a.words.now a.labels.now a.prefix.now c.descend-d.result
known c = knows (rw c.in_ok-pool.ensures.0 at (rw c.in_ok-tested.ensures.0 at c.descend-d.ensures))

sized : (c : goal.After-descend-d) → Lengths c.args.words2.now c.args.labels2.now c.in_ok-room.room
sized c =
    let w = was-some c.slots_of.result _ c.in_ok-room.ensures.value in
    lengths-right _ _ _ (sym (rw w at c.slots_of.ensures))

pub returns-in_err-pool : goal.returns-in_err-pool
returns-in_err-pool c =
    let p = err_from_is_err_and c.from_residual.result c.from_residual.ensures.1 in
    let e = c.in_err-pool.ensures in
    rw (p.1, p.2, e.0) (first-refused _ _ _ _ _ e.1)

pub returns-in_err-room : goal.returns-in_err-room
returns-in_err-room c =
    let p = err_from_is_err_and c.from_residual-in_err-room.result c.from_residual-in_err-room.ensures.1 in
    let w = was-none c.slots_of.result _ c.in_err-room.ensures.value in
    rw (p.1, p.2, w.refusal) (second-refused _ _ _ _ _ c.in_ok-pool.ensures.1.rule (rw w.none at c.slots_of.ensures))

pub returns-in_err-tested : goal.returns-in_err-tested
returns-in_err-tested c =
    let p = err_from_is_err_and c.from_residual-in_err-tested.result c.from_residual-in_err-tested.ensures.1 in
    let w = was-some c.slots_of.result _ c.in_ok-room.ensures.value in
    let e = c.in_err-tested.ensures in
    rw (p.1, p.2, e.0) (prefix_long _ _ _ _ _ _ c.in_ok-pool.ensures.1.rule (rw w at c.slots_of.ensures) e.1)

pub split_root-requires : goal.split_root-requires
split_root-requires c =
    let d = (goal.at.split_root-requires c).After-descend-d in
    (landed_root (known d) c.in-Root.is, sized d)

pub split_node-requires : goal.split_node-requires
split_node-requires c =
    let d = (goal.at.split_node-requires c).After-descend-d in
    (landed (known d) Stop.Same c.in-Same.is, sized d)

pub split_label-requires : goal.split_label-requires
split_label-requires c =
    let d = (goal.at.split_label-requires c).After-descend-d in
    (landed (known d) (Stop.Inside _) c.in-Inside.is, sized d)

pub returns-in-Root : goal.returns-in-Root
unfolding landed_root
returns-in-Root c = c.split_root.ensures (landed_root (known (goal.at.returns-in-Root c).After-descend-d) c.in-Root.is)

pub returns-in-Same : goal.returns-in-Same
unfolding landed
returns-in-Same c =
    c.split_node.ensures (landed (known (goal.at.returns-in-Same c).After-descend-d) Stop.Same c.in-Same.is)

pub returns-in-Inside : goal.returns-in-Inside
unfolding landed
returns-in-Inside c =
    c.split_label.ensures (landed (known (goal.at.returns-in-Inside c).After-descend-d) (Stop.Inside _) c.in-Inside.is)

pub returns-in-Gap : goal.returns-in-Gap
returns-in-Gap c =
    let d = (goal.at.returns-in-Gap c).After-descend-d in
    absent_told (known d) (sized d) (inl c.in-Gap.is)

pub returns-in-Fork : goal.returns-in-Fork
returns-in-Fork c =
    let d = (goal.at.returns-in-Fork c).After-descend-d in
    absent_told (known d) (sized d) (inr (_, c.in-Fork.is))
