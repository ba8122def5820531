-- `digits_of` meets its contract. The loop's invariant: the digits counted and those of what is left are the digits of v, and one more. The
-- measure is what is left. Assumes nothing.
use native.Mathlib.Omega.{arith}
use Rattle.scenario_text.proofs.Digits.{text_short, text_some, length_more, length_one}
use Rattle.scenario_text.proofs.digits_of.Goals as goal

pub overflow_add-n : goal.overflow_add-n
overflow_add-n c = omega (arith, text_some c.loop-w.w, text_short c.args.v)

pub loop-w-preserved : goal.loop-w-preserved
loop-w-preserved c =
    let w = c.loop-w.w in
    (omega arith, omega (arith, length_more w c.loop-w-test.true c.loop-w.invariant.0))

pub returns : goal.returns
returns c = omega (arith, length_one c.loop-w.w (omega arith))
