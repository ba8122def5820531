-- `read` meets its contract. Assumes nothing.
use mathlib.Core.Path.{◌∙◌}
use Rattle.vcd_code.proofs.Passes.{not_opened, opened}
use Rattle.vcd_code.proofs.read.read.Goals as goal

pub returns-in-Some-clause-value : goal.returns-in-Some-clause-value
returns-in-Some-clause-value c =
    let a = c.args in
    let front = c.in-Some.ensures in
    (opened a.file.now _ (c.signals_ahead-s.ensures ∙ rw c.behind.ensures) front.0 _ front.1 a.out.now _ _ c.read_rows.ensures.value c.read_rows.ensures.out_after).0

pub returns-in-Some-clause-out_after : goal.returns-in-Some-clause-out_after
returns-in-Some-clause-out_after c =
    let a = c.args in
    let front = c.in-Some.ensures in
    (opened a.file.now _ (c.signals_ahead-s.ensures ∙ rw c.behind.ensures) front.0 _ front.1 a.out.now _ _ c.read_rows.ensures.value c.read_rows.ensures.out_after).1

pub returns-in-None-clause-value : goal.returns-in-None-clause-value
returns-in-None-clause-value c =
    let a = c.args in
    (not_opened a.file.now _ (c.signals_ahead-s.ensures ∙ rw c.behind.ensures) c.in-None.ensures a.out.now).0

pub returns-in-None-clause-out_after : goal.returns-in-None-clause-out_after
returns-in-None-clause-out_after c =
    let a = c.args in
    (not_opened a.file.now _ (c.signals_ahead-s.ensures ∙ rw c.behind.ensures) c.in-None.ensures a.out.now).1
