-- `setup` meets its contract: the fresh state where nothing is refused, and else the refusal. Assumes nothing.
use mathlib.Core.Path.{sym}
use Rattle.machine.specs.Lists.{lent}
use Rattle.lock.proofs.Begins.{records_most, made, kept}
use Rattle.lock.proofs.setup.setup.Goals as goal

pub begin-requires : goal.begin-requires
begin-requires c = let a = c.args in records_most a.pred a.top.0 a.first (lent a.lists) a.count a.recs c.in-Ok.ensures

pub returns-in-Ok : goal.returns-in-Ok
returns-in-Ok c =
    let a = c.args in
    rw (c.begin.ensures, c.unused.ensures) (sym (made a.pred a.top.0 a.first (lent a.lists) a.count a.recs c.in-Ok.ensures))

pub returns-in-Err : goal.returns-in-Err
returns-in-Err c = let a = c.args in sym (kept a.pred a.top.0 a.first (lent a.lists) a.count a.recs _ c.in-Err.ensures)
