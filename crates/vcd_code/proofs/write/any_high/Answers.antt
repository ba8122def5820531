-- `any_high` meets its contract. Assumes nothing.
use mathlib.Core.Path.{sym, ap, ◌∙◌}
use Rattle.vcd.specs.Write.{any_high}
use Rattle.vcd_code.proofs.TraceRows.{all_rows, high_here, high_later, none_high}
use Rattle.vcd_code.proofs.write.any_high.Goals as goal

pub loop-k-init : goal.loop-k-init
loop-k-init c = sym (ap any_high (all_rows c.args.trace.now))

pub returns-then-trace-k-gt1 : goal.returns-then-trace-k-gt1
returns-then-trace-k-gt1 c =
    let g = c.loop-k in
    sym (g.invariant ∙ high_here _ _ g.k c.loop-k-test.true c.if-trace-k-gt1.true)

pub loop-k-preserved : goal.loop-k-preserved
loop-k-preserved c =
    let g = c.loop-k in
    g.invariant ∙ high_later _ _ g.k c.loop-k-test.true c.if-trace-k-gt1.false

pub returns : goal.returns
returns c =
    let g = c.loop-k in
    sym (g.invariant ∙ none_high _ _ g.k c.loop-k-test.false)
