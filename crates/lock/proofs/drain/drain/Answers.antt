-- `drain` meets its contract: the entries of the order where nothing is refused, and else the refusal. Assumes nothing.
use Rattle.machine.specs.Lists.{lent}
use Rattle.lock.proofs.Draining.{ready, left_alone, made}
use Rattle.lock.proofs.drain.drain.Goals as goal

pub returns-in-Err : goal.returns-in-Err
returns-in-Err c = let a = c.args in left_alone (lent a.lists) a.count a.lock a.recs _ c.in-Err.ensures

pub drain_ready-end-requires : goal.drain_ready-end-requires
drain_ready-end-requires c = let a = c.args in ready (lent a.lists) a.count a.lock a.recs c.in_default.ensures

pub returns : goal.returns
returns c =
    let a = c.args in
    let end = c.drain_ready-end in
    made (lent a.lists) a.count a.lock a.recs c.in_default.ensures end.result end.ensures
