-- `write_rows` meets its contract. The loop's invariant: storing here the rows that are left is storing all of them at the start. Assumes nothing.
use Rattle.std.proofs.Common.{refl, arith}
use Rattle.scenario_prints.proofs.PutRows.{begins, one_more, all_done}
use Rattle.scenario_prints.proofs.write_rows.Goals as goal

pub loop-k-init : goal.loop-k-init
loop-k-init c =
    let a = c.args in
    begins a.trace.now a.n a.first a.out.now a.at (omega arith)

pub loop-k-preserved : goal.loop-k-preserved
loop-k-preserved c =
    let a = c.args in
    let g = c.loop-k in
    let put = c.put_row-p in
    one_more a.trace.now a.n a.first a.out.now a.at g.out g.row g.p g.k g.invariant
    _ _ _ _ c.loop-k-test.true c.requires.n_in_bounds_2 c.row_at-r.ensures
    put.ensures.value put.ensures.out_after refl

pub returns : goal.returns
returns c =
    let a = c.args in
    let g = c.loop-k in
    all_done a.trace.now a.n a.first a.out.now a.at g.out g.row g.p g.k g.invariant c.loop-k-test.false
