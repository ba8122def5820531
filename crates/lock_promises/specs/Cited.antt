-- The premises of the promises are what the functions of `lock` say: each statement cites a function's own contract, so that a change of
-- the contract is a change here.
use Rattle.machine.specs.Lists.{lent}
use Rattle.lock.specs.contracts.setup.setup as setup
use Rattle.lock.specs.contracts.run.run as run
use Rattle.lock.specs.contracts.run.run_rest as rest
use Rattle.lock.specs.contracts.drain.drain as drain
use Rattle.says.specs.Says.{OfCall, Says}
use Rattle.lock_promises.specs.Given.{ReturnedBySetup, ReturnedByRun, LeftByRun, ReturnedByRest, LeftByRest, ReturnedByDrain}

-- ---- the property of a call of each: what is passed, in order, what is returned, and what is passed as it is at exit
abbrev pub OfSetup : OfCall setup.ended
OfSetup κs a r e =
    let (pred, (top, (first, (lists, (recs, (count, end)))))) = a in
    ReturnedBySetup (lent lists) pred top.0 first count recs r

abbrev pub OfRun : OfCall run.ended
OfRun κs a r e =
    let (lists, (lock, (recs, (count, (schedule, (budget, (trace, end))))))) = a in
    let (lists', (lock', (recs', (count', (schedule', (budget', (trace', end'))))))) = e in
    let s = lent lists in
    ReturnedByRun s count lock recs schedule.now budget trace.now r × LeftByRun s count lock recs schedule.now budget trace.now trace'.now

abbrev pub OfRest : OfCall rest.ended
OfRest κs a r e =
    let (lists, (lock, (recs, (count, (schedule, (budget, (used, (trace, end)))))))) = a in
    let (lists', (lock', (recs', (count', (schedule', (budget', (used', (trace', end')))))))) = e in
    let s = lent lists in
    ReturnedByRest s count lock recs schedule.now budget used trace.now r
    × LeftByRest s count lock recs schedule.now budget used trace.now trace'.now

abbrev pub OfDrain : OfCall drain.ended
OfDrain κs a r e =
    let (lists, (lock, (recs, (count, end)))) = a in
    ReturnedByDrain (lent lists) count lock recs r

-- ---- that the contracts say it
abbrev pub SetupCited : Type 2
SetupCited = Says setup.ended (λ M 𝓤. setup.clauses) OfSetup

abbrev pub RunCited : Type 2
RunCited = Says run.ended (λ M 𝓤. run.clauses) OfRun

abbrev pub RestCited : Type 2
RestCited = Says rest.ended (λ M 𝓤. rest.clauses) OfRest

abbrev pub DrainCited : Type 2
DrainCited = Says drain.ended (λ M 𝓤. drain.clauses) OfDrain
