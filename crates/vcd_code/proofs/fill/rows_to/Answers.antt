-- `rows_to` meets its contract. Assumes nothing.
use Rattle.vcd_code.proofs.Fills.{then_one}
use Rattle.vcd_code.proofs.fill.rows_to.Goals as goal

pub returns : goal.returns
returns c =
    let a = c.args in
    then_one a.n a.s a.x c.still-p.ensures c.still.ensures
