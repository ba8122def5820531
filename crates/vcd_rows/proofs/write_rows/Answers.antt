-- `write_rows` meets its contract. Assumes nothing.
use Rattle.vcd_rows.proofs.PutRows.{begins, one_more, all_done}
use Rattle.vcd_rows.proofs.write_rows.Goals as goal

pub loop-k-init : goal.loop-k-init
loop-k-init c =
    let a = c.args in
    begins a.rows.now a.n a.wave a.out.now a.at

pub loop-k-preserved : goal.loop-k-preserved
loop-k-preserved c =
    let start = c in
    let a = start.args in
    let g = c.loop-k in
    let put = c.put_change-p in
    one_more a.rows.now a.n a.wave a.out.now a.at g.out g.w g.p g.k g.invariant
    _ _ _ _ c.loop-k-test.true start.requires.n_in_bounds_2
    c.signals_at-x.ensures
    c.counted-v.ensures
    put.ensures.value put.ensures.out_after

pub returns-clause-wave_value : goal.returns-clause-wave_value
returns-clause-wave_value c =
    let a = c.args in
    let g = c.loop-k in
    (all_done a.rows.now a.n a.wave a.out.now a.at g.out g.w g.p g.k g.invariant c.loop-k-test.false).0

pub returns-clause-put : goal.returns-clause-put
returns-clause-put c =
    let a = c.args in
    let g = c.loop-k in
    (all_done a.rows.now a.n a.wave a.out.now a.at g.out g.w g.p g.k g.invariant c.loop-k-test.false).1
