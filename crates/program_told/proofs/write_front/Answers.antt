-- `write_front` meets its contract: two stores, one behind the other. Assumes nothing.
use Rattle.std.proofs.Common.{arith}
use Rattle.scenario_lines.specs.Ascii.{bytes}
use Rattle.scenario_text.proofs.Stores.{both, put_so}
use Rattle.program_told.proofs.write_front.Goals as goal

pub write_numbers-requires : goal.write_numbers-requires
write_numbers-requires c =
    let a = c.args in
    let word = put_so a.out.now _ (bytes "read") a.at _ 4 (omega (arith, c.requires)) (omega arith) (c.put_bytes-n.ensures.value, c.put_bytes-n.ensures.out_after) in
    omega (arith, c.requires, word.next, word.size)

pub returns : goal.returns
returns c =
    let a = c.args in
    both (put_so a.out.now _ (bytes "read") a.at _ 4 (omega (arith, c.requires)) (omega arith) (c.put_bytes-n.ensures.value, c.put_bytes-n.ensures.out_after)) c.write_numbers.ensures
