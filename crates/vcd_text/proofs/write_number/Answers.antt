-- `write_number` meets its contract. Assumes nothing.
use Rattle.std.proofs.Common.{arith}
use Rattle.scenario_text.specs.Number.{text}
use Rattle.scenario_text.proofs.Digits.{text_short}
use Rattle.vcd_text.proofs.Puts.{placed}
use Rattle.vcd_text.proofs.write_number.Goals as goal

pub returns : goal.returns
returns c =
    let a = c.args in
    placed _ _ (text a.v) a.at _ 20
    (omega arith)
    (text_short a.v)
    c.put_number.ensures.value
    c.put_number.ensures.out_after
