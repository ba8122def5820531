-- `signals_ahead` meets its contract. Assumes nothing.
use mathlib.Core.Path.{◌∙◌}
use Rattle.vcd_code.proofs.Gather.{signals_with, signals_without}
use Rattle.vcd_code.proofs.ahead.signals_ahead.Goals as goal

pub returns-in-Some : goal.returns-in-Some
returns-in-Some c =
    let a = c.args in
    signals_with a.was a.s.now _ _ _ c.first.ensures c.in-Some.ensures (c.rc_ahead.ensures ∙ rw c.behind.ensures)

pub returns-in-None : goal.returns-in-None
returns-in-None c =
    let a = c.args in
    signals_without a.was a.s.now _ _ c.first.ensures c.in-None.ensures c.rc_ahead-in-None.ensures
