use Rattle.std.proofs.Common.{◌*◌, ap, ◌∙◌, ◌++◌, take, drop, arith}
use Rattle.machine.specs.Names.{row_words}
use Rattle.machine.specs.Lists.{lent}
use Rattle.machine.specs.Run.{RunLeft}
use Rattle.lock_held.proofs.Few.{run_few, run_lent_lem}
use Rattle.lock_held.proofs.run_rest.Goals as goal

-- a run over the tail of the trace list; the words before it stay
pub returns : goal.returns
returns c =
    let a = c.args in
    let s = lent a.lists in
    let before = take (row_words * a.used) a.trace.now in
    let rest = drop (row_words * a.used) a.trace.now in
    record {
      value = c.run_rest-2.ensures.value ∙ run_few a.count a.recs (omega arith) (omega arith) s a.lock a.schedule.now a.budget rest;
      trace_after = c.run_rest-2.ensures.trace_after ∙ ap (λ (r : RunLeft). before ++ r.trace) (run_lent_lem a.count a.recs (omega arith) (omega arith) s a.lock a.schedule.now a.budget rest);
    }
