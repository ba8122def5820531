use Rattle.lock_lent.proofs.PutBack.{drain_back}
use Rattle.lock_lent.proofs.drain.drain.Goals as goal

pub returns : goal.returns
returns c =
    let made = drain_back c.args.recs.now _ _ _ c.blank.ensures c.exchange-taken.ensures.value c.exchange-taken.ensures.recs_after _ c.args.lock _ _ c.drain-left.ensures c.exchange.ensures.recs_after in
    record { value = made.0; recs_after = made.1 }
