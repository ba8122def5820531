-- `store` meets its contract. Assumes nothing.
use Rattle.vcd_code.proofs.Passes.{room_first, stored_all}
use Rattle.vcd_code.proofs.read.store.Goals as goal

pub rows_to-requires : goal.rows_to-requires
rows_to-requires c =
    let start = c in
    let a = start.args in
    room_first a.first a.rest.now a.out.now start.requires

pub store_rows-requires : goal.store_rows-requires
store_rows-requires c =
    rw c.rows_to.ensures.size c.requires

pub returns : goal.returns
returns c =
    let start = c in
    let a = start.args in
    stored_all a.first a.rest.now a.out.now start.requires _ _ _ c.rows_to.ensures c.store_rows.ensures
