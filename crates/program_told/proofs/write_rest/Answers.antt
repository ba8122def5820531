-- `write_rest` meets its contract: two stores, one behind the other. Assumes nothing.
use Rattle.std.proofs.Common.{arith}
use Rattle.scenario_text.specs.Lines.{break}
use Rattle.scenario_text.proofs.Stores.{both, put_so}
use Rattle.program_told.proofs.write_rest.Goals as goal

pub returns : goal.returns
returns c =
    let a = c.args in
    let line = c.write_line-n.ensures in
    both line (put_so _ _ break _ _ 2 (omega (arith, c.requires, line.room, line.size)) (omega arith) (c.put_bytes.ensures.value, c.put_bytes.ensures.out_after))
