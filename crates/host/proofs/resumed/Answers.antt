-- `host::resumed` meets its contract. Assumes nothing.
use Rattle.host.proofs.Resuming.{resumes_fresh, resumes_given}
use Rattle.host.proofs.resumed.Goals as goal

pub returns-then-begun-eq0 : goal.returns-then-begun-eq0
returns-then-begun-eq0 c = resumes_fresh _ _ c.new-fresh.ensures c.if-begun-eq0.true

pub returns : goal.returns
returns c = resumes_given _ _ c.new-fresh.ensures c.after.ensures c.if-begun-eq0.false
