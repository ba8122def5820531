-- `walk_rows` meets its contract. Assumes nothing.
use Rattle.std.proofs.lemmas.Result.{err_from_is_err_and}
use mathlib.Core.Path.{refl}
use native.Mathlib.Omega.{arith}
use Rattle.vcd.specs.Wave.{at_first}
use Rattle.vcd_code.proofs.WalkRows.{rows_begin, row_more, row_none, rows_over}
use Rattle.vcd_code.proofs.write.walk_rows.Goals as goal

pub loop-k-init : goal.loop-k-init
loop-k-init c =
    let a = c.args in
    (omega arith, refl, rows_begin a.trace.now a.out.now a.from a.storing (at_first a.s))

pub loop-k-preserved : goal.loop-k-preserved
loop-k-preserved c =
    let a = c.args in
    let g = c.loop-k in
    let pass = c.in_ok-at.ensures in
    row_more a.trace.now _ a.out.now a.from a.storing (at_first a.s) g.out g.p g.at g.k g.invariant
    _ _ c.loop-k-test.true c.signals_at-x.ensures pass.out_after _ _ c.next_row-p.ensures pass.value

pub returns-in_err-at-clause-value : goal.returns-in_err-at-clause-value
returns-in_err-at-clause-value c =
    let start = c in
    let a = start.args in
    let g = c.loop-k in
    let pass = c.in_err-at.ensures in
    let from = err_from_is_err_and c.from_residual.result c.from_residual.ensures.1 in
    rw (from.1, from.2)
    (row_none a.trace.now _ a.out.now a.from a.storing (at_first a.s) g.out g.p g.at g.k g.invariant
    _ _ c.loop-k-test.true c.signals_at-x.ensures pass.out_after _ start.requires pass.value).0

pub returns-in_err-at-clause-out_after : goal.returns-in_err-at-clause-out_after
returns-in_err-at-clause-out_after c =
    let start = c in
    let a = start.args in
    let g = c.loop-k in
    let pass = c.in_err-at.ensures in
    (row_none a.trace.now _ a.out.now a.from a.storing (at_first a.s) g.out g.p g.at g.k g.invariant
    _ _ c.loop-k-test.true c.signals_at-x.ensures pass.out_after _ start.requires pass.value).1

pub returns-clause-value : goal.returns-clause-value
returns-clause-value c =
    let start = c in
    let a = start.args in
    let g = c.loop-k in
    let pass = c.pass_close in
    (rows_over a.trace.now _ a.out.now a.from a.storing (at_first a.s) g.out g.p g.at g.k g.invariant
    _ _ c.loop-k-test.false start.requires pass.ensures.value pass.ensures.out_after).0

pub returns-clause-out_after : goal.returns-clause-out_after
returns-clause-out_after c =
    let start = c in
    let a = start.args in
    let g = c.loop-k in
    let pass = c.pass_close in
    (rows_over a.trace.now _ a.out.now a.from a.storing (at_first a.s) g.out g.p g.at g.k g.invariant
    _ _ c.loop-k-test.false start.requires pass.ensures.value pass.ensures.out_after).1
