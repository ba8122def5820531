use Rattle.std.proofs.Common.{ap, ◌∙◌, arith}
use Rattle.machine.specs.Lists.{lent}
use Rattle.lock_held.proofs.Few.{drain_few}
use Rattle.lock_held.proofs.drain.Goals as goal

pub returns : goal.returns
returns c =
    let a = c.args in
    c.drain-2.ensures ∙ drain_few a.count a.recs (omega arith) (omega arith) (lent a.lists) a.lock
