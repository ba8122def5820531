use Rattle.std.proofs.Common.{◌∙◌, arith}
use Rattle.machine.specs.Lists.{lent}
use Rattle.lock_held.proofs.Few.{setup_few}
use Rattle.lock_held.proofs.setup.Goals as goal

pub returns : goal.returns
returns c =
    let a = c.args in
    c.setup-2.ensures ∙ setup_few a.count a.recs (omega arith) (omega arith) a.pred a.top.0 a.first (lent a.lists)
