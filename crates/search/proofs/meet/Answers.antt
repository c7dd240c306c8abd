-- `search::meet` meets its contract: by the first bytes, then by how many bytes the two runs share. Assumes nothing.
use mathlib.Core.Path.{◌≡◌, ◌∙◌}
use Prim.Native.Nat.{◌-◌}
use lib.ListN.{length, take, drop}
use Rattle.std.specs.Cmp.{ranked}
use Rattle.slots.specs.Layout.{label_of}
use Rattle.search.specs.Landing.{meeting_of}
use Rattle.search.proofs.Meets.{meets_below, meets_above, meets_runs, by_lengths, by_same, by_through, by_inside, by_fork, run_on}
use Rattle.search.proofs.meet.Goals as goal
use Rattle.search.proofs.meet.Goals.{After-shared_length-m}

-- where the first bytes are the same: the two runs as the code compares them
runs : (c : goal.After-shared_length-m)
    → let a = c.args in
    by_lengths c.shared_length-m.result (length (take (length a.key.now - a.p) (drop a.p a.key.now))) (length c.label_at-label.result.now)
    ≡ meeting_of (drop a.p a.key.now) (label_of a.words.now a.labels.now a.c.0)
runs c =
    let e = ranked _ _ _ c.in-Equal.ensures in
    meets_runs c.args.words.now c.args.labels.now c.args.key.now c.args.c.0 c.args.p _ c.requires.0 c.requires.1 c.first_at.ensures.0 e _ _ _
    (run_on c.args.key.now c.args.p) c.label_at-label.ensures c.shared_length-m.ensures

pub returns-in-Less : goal.returns-in-Less
returns-in-Less c =
    meets_below c.args.words.now c.args.labels.now c.args.key.now c.args.c.0 c.args.p _ c.requires.0 c.requires.1 c.first_at.ensures.0
    (ranked _ _ _ c.in-Less.ensures)

pub returns-in-Greater : goal.returns-in-Greater
returns-in-Greater c =
    meets_above c.args.words.now c.args.labels.now c.args.key.now c.args.c.0 c.args.p _ c.requires.0 c.requires.1 c.first_at.ensures.0
    (ranked _ _ _ c.in-Greater.ensures)

pub returns-then-m-rest : goal.returns-then-m-rest
returns-then-m-rest c =
    by_same _ _ _ c.if-m-label.true c.if-m-rest.true ∙ runs (goal.at.returns-then-m-rest c).After-shared_length-m

pub returns-then-m-label : goal.returns-then-m-label
returns-then-m-label c =
    by_through _ _ _ c.if-m-label.true c.if-m-rest.false ∙ runs (goal.at.returns-then-m-label c).After-shared_length-m

pub returns-then-m-rest-2 : goal.returns-then-m-rest-2
returns-then-m-rest-2 c =
    by_inside _ _ _ c.if-m-label.false c.if-m-rest-2.true ∙ runs (goal.at.returns-then-m-rest-2 c).After-shared_length-m

pub returns : goal.returns
returns c =
    by_fork _ _ _ c.if-m-label.false c.if-m-rest-2.false ∙ runs (goal.at.returns c).After-shared_length-m
