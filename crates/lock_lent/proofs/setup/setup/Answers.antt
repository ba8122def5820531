use Rattle.lock_lent.proofs.PutBack.{setup_back}
use Rattle.lock_lent.proofs.setup.setup.Goals as goal

pub returns : goal.returns
returns c =
    let made = setup_back c.args.recs.now _ _ _ c.blank.ensures c.exchange-taken.ensures.value c.exchange-taken.ensures.recs_after _ _ _ _ _ _ c.setup-left.ensures c.exchange.ensures.recs_after in
    record { value = made.0; recs_after = made.1 }
