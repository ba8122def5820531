-- The premises of the promises are what the functions of `lock_lent` say: each statement cites a function's own contract, so that a change
-- of the contract is a change here. Those of `lock_held` say what those of `lock` say.
use Rattle.machine.specs.Lists.{lent}
use Rattle.lock_lent.specs.contracts.setup.setup as setup
use Rattle.lock_lent.specs.contracts.run.run as run
use Rattle.lock_lent.specs.contracts.run.run_rest as rest
use Rattle.lock_lent.specs.contracts.run.step as step
use Rattle.lock_lent.specs.contracts.drain.drain as drain
use Rattle.lock_held.specs.contracts as held
use Rattle.says.specs.Says.{Says}
use Rattle.lock_promises.specs.Cited.{OfSetup, OfRun, OfRest, OfDrain}
use Rattle.lock_lent_promises.specs.Reached.{GivenBySetup, GivenByRun, GivenByRest, GivenByStep, GivenByDrain}

-- what is passed, in order, what is returned, and what is passed as it is at exit
abbrev pub SetupCited : Type 2
SetupCited =
    Says setup.ended (λ M 𝓤. setup.clauses) (λ κs a r e.
    let (pred, (top, (first, (lists, (recs, end))))) = a in
    let (pred', (top', (first', (lists', (recs', end'))))) = e in
    GivenBySetup (lent lists) pred top.0 first recs.now r recs'.now)

abbrev pub RunCited : Type 2
RunCited =
    Says run.ended (λ M 𝓤. run.clauses) (λ κs a r e.
    let (lists, (lock, (recs, (schedule, (budget, (trace, end)))))) = a in
    let (lists', (lock', (recs', (schedule', (budget', (trace', end')))))) = e in
    GivenByRun (lent lists) lock recs.now schedule.now budget trace.now r recs'.now trace'.now)

abbrev pub RestCited : Type 2
RestCited =
    Says rest.ended (λ M 𝓤. rest.clauses) (λ κs a r e.
    let (lists, (lock, (recs, (schedule, (budget, (used, (trace, end))))))) = a in
    let (lists', (lock', (recs', (schedule', (budget', (used', (trace', end'))))))) = e in
    GivenByRest (lent lists) lock recs.now schedule.now budget used trace.now r recs'.now trace'.now)

abbrev pub StepCited : Type 2
StepCited =
    Says step.ended (λ M 𝓤. step.clauses) (λ κs a r e.
    let (lists, (lock, (recs, (thread, (trace, end))))) = a in
    let (lists', (lock', (recs', (thread', (trace', end'))))) = e in
    GivenByStep (lent lists) lock recs.now thread trace.now r recs'.now trace'.now)

abbrev pub DrainCited : Type 2
DrainCited =
    Says drain.ended (λ M 𝓤. drain.clauses) (λ κs a r e.
    let (lists, (lock, (recs, end))) = a in
    let (lists', (lock', (recs', end'))) = e in
    GivenByDrain (lent lists) lock recs.now r recs'.now)

-- ---- with the records by value, but lent
pub record HeldCited : Type 2 where
  pub setup : Says held.setup.ended (λ M 𝓤. held.setup.clauses) OfSetup
  pub run : Says held.run.ended (λ M 𝓤. held.run.clauses) OfRun
  pub run_rest : Says held.run_rest.ended (λ M 𝓤. held.run_rest.clauses) OfRest
  pub drain : Says held.drain.ended (λ M 𝓤. held.drain.clauses) OfDrain
