-- `write_read` meets its contract: two stores, one behind the other. Assumes nothing.
use Rattle.std.proofs.Common.{length, ap, arith}
use Rattle.scenario_text.proofs.Stores.{both}
use Rattle.program_told.proofs.Listed.{bytes_few, in_all}
use Rattle.program_told.proofs.write_read.Goals as goal

pub write_rest-requires : goal.write_rest-requires
write_rest-requires c =
    let a = c.args in
    let word = c.write_front-n.ensures in
    omega (arith, c.requires, word.room, word.size, ap length c.front.ensures, bytes_few a.len a.line.now)

pub returns : goal.returns
returns c =
    let a = c.args in
    in_all a.read a.len a.line.now _ c.front.ensures (both c.write_front-n.ensures c.write_rest.ensures)
