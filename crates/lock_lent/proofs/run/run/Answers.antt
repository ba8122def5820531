use Rattle.lock_lent.proofs.PutBack.{run_back}
use Rattle.lock_lent.proofs.run.run.Goals as goal

pub returns : goal.returns
returns c =
    let made = run_back c.args.recs.now _ _ _ c.blank.ensures c.exchange-taken.ensures.value c.exchange-taken.ensures.recs_after _ c.args.lock _ _ c.args.trace.now _ _ _ c.run-left.ensures.value c.exchange.ensures.recs_after c.run-left.ensures.trace_after in
    record { value = made.0; recs_after = made.1; trace_after = made.2 }
