-- `digits_ahead` meets its contract. Assumes nothing.
use mathlib.Core.Path.{sym, ◌∙◌}
use Rattle.vcd_code.proofs.Gather.{digits_no, digits_is, digits_over}
use Rattle.vcd_code.proofs.ahead.digits_ahead.Goals as goal

pub returns-in_default : goal.returns-in_default
returns-in_default c =
    let l = c.loop-b in
    sym (l.invariant ∙ digits_no c.args.s.now l.b-index l.v c.loop-b-test.true (sym c.one_more.ensures ∙ c.in_default.is))

pub loop-b-preserved : goal.loop-b-preserved
loop-b-preserved c =
    let l = c.loop-b in
    l.invariant ∙ digits_is c.args.s.now l.b-index l.v c.in-Some.x c.loop-b-test.true (sym c.in-Some.ensures)

pub returns : goal.returns
returns c =
    let l = c.loop-b in
    sym (l.invariant ∙ digits_over c.args.s.now l.b-index l.v c.loop-b-test.false)
