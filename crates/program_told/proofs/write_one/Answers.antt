-- `write_one` meets its contract: two stores, one behind the other. Assumes nothing.
use Rattle.std.proofs.Common.{[], ◌∷◌, arith}
use Rattle.scenario_text.specs.Number.{text}
use Rattle.scenario_lines.specs.Judge.{comma}
use Rattle.scenario_text.proofs.Stores.{both, put_so}
use Rattle.scenario_text.proofs.Digits.{text_short}
use Rattle.program_told.proofs.Listed.{one_listed}
use Rattle.program_told.proofs.write_one.Goals as goal

pub returns : goal.returns
returns c =
    let a = c.args in
    let sign = put_so a.out.now _ (comma ∷ []) a.at _ 1 (omega (arith, c.requires)) (omega arith) (c.put_bytes-n.ensures.value, c.put_bytes-n.ensures.out_after) in
    rw (one_listed a.v)
    (both sign (put_so _ _ (text a.v) _ _ 20 (omega (arith, c.requires, sign.next, sign.size)) (text_short a.v) (c.put_number.ensures.value, c.put_number.ensures.out_after)))
