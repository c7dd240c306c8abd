-- `walk::Walk::find` meets its contract: each answer by the tests that led to it. Assumes nothing.
use Rattle.std.proofs.lemmas.Result.{err_from_is_err_and}
use Rattle.tree.proofs.Exits.{was-some, was-none}
use Rattle.walk.specs.Due.{Sought}
use Rattle.walk.specs.Walks.{prefix_of, last_of}
use Rattle.walk.proofs.Answers.{step_refused, step_prefix, step_last, Asked, step_ended, step_short, step_given}
use Rattle.walk.proofs.Walk.find.Goals as goal
use Rattle.walk.proofs.Walk.find.Goals.{In_ok-last, After-seek}

-- what the tests have said before the search, and what the search has found
asked : (c : In_ok-last)
    → let a = c.args in
    Asked a.words.now a.labels.now a.self.now
asked c = record { rule = c.in_ok-pool.ensures.1.rule; prefix = c.in_ok-prefix.ensures.1; last = c.in_ok-last.ensures.1 }

sought : (c : After-seek)
    → let a = c.args in
    Sought a.words.now a.labels.now (prefix_of a.self.now) (last_of a.self.now) c.seek.result c.seek.new.path
sought c = rw (c.in_ok-pool.ensures.0, c.in_ok-prefix.ensures.0, c.in_ok-last.ensures.0) at c.seek.ensures

pub returns-in_err-pool : goal.returns-in_err-pool
returns-in_err-pool c =
    let p = err_from_is_err_and c.from_residual.result c.from_residual.ensures.1 in
    let e = c.in_err-pool.ensures in
    rw (p.1, p.2, e.0) (step_refused _ _ e.1)

pub returns-in_err-prefix : goal.returns-in_err-prefix
returns-in_err-prefix c =
    let p = err_from_is_err_and c.from_residual-in_err-prefix.result c.from_residual-in_err-prefix.ensures.1 in
    let e = c.in_err-prefix.ensures in
    rw (p.1, p.2, e.0) (step_prefix _ _ c.in_ok-pool.ensures.1.rule e.1)

pub returns-in_err-last : goal.returns-in_err-last
returns-in_err-last c =
    let p = err_from_is_err_and c.from_residual-in_err-last.result c.from_residual-in_err-last.ensures.1 in
    let e = c.in_err-last.ensures in
    rw (p.1, p.2, e.0) (step_last _ _ c.in_ok-pool.ensures.1.rule c.in_ok-prefix.ensures.1 e.1)

pub returns-in_err-found : goal.returns-in_err-found
returns-in_err-found c =
    let at = goal.at.returns-in_err-found c in
    let p = err_from_is_err_and c.from_residual-in_err-found.result c.from_residual-in_err-found.ensures.1 in
    let w = was-none c.seek.result _ c.in_err-found.ensures.value in
    rw (p.1, p.2, w.refusal) (step_ended (asked at.In_ok-last) _ (sought at.After-seek) w.none)

pub returns-then-out-n : goal.returns-then-out-n
returns-then-out-n c =
    let at = goal.at.returns-then-out-n c in
    let w = was-some c.seek.result _ c.in_ok-found.ensures.value in
    step_short (asked at.In_ok-last) _ (sought at.After-seek) w c.if-out-n.true

pub returns : goal.returns
returns c =
    let at = goal.at.returns c in
    let w = was-some c.seek.result _ c.in_ok-found.ensures.value in
    step_given (asked at.In_ok-last) _ (sought at.After-seek) w c.if-out-n.false c.copy.ensures
