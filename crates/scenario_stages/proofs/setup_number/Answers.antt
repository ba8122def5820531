-- `setup_number` meets its contract: more than 16 threads are 1, and else setup is asked. Assumes nothing.
use Rattle.std.proofs.Common.{ℕ}
use Rattle.std.proofs.lemmas.List.{take-replicate}
use Rattle.scenario_stages.proofs.Asks.{too_many}
use Rattle.scenario_stages.proofs.setup_number.Goals as goal

pub returns-then-threads-gt-MOST_THREADS : goal.returns-then-threads-gt-MOST_THREADS
returns-then-threads-gt-MOST_THREADS c =
    let a = c.args in
    too_many a.pred a.top a.first a.threads c.if-threads-gt-MOST_THREADS.true

pub returns : goal.returns
returns c =
    let a = c.args in
    rw (← take-replicate {X = ℕ} a.threads 16 0 c.if-threads-gt-MOST_THREADS.false) c.ask.ensures
