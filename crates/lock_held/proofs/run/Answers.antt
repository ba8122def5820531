use Rattle.std.proofs.Common.{ap, ◌∙◌, arith}
use Rattle.machine.specs.Lists.{lent}
use Rattle.machine.specs.Run.{RunLeft}
use Rattle.lock_held.proofs.Few.{run_few, run_lent_lem}
use Rattle.lock_held.proofs.run.Goals as goal

pub returns : goal.returns
returns c =
    let a = c.args in
    let s = lent a.lists in
    record {
      value = c.run-2.ensures.value ∙ run_few a.count a.recs (omega arith) (omega arith) s a.lock a.schedule.now a.budget a.trace.now;
      trace_after = c.run-2.ensures.trace_after ∙ ap (λ (r : RunLeft). r.trace) (run_lent_lem a.count a.recs (omega arith) (omega arith) s a.lock a.schedule.now a.budget a.trace.now);
    }
