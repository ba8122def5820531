-- `write_number` meets its contract. The loop's invariant: storing the digits of w here is storing those of v at the start, and p is the place
-- after them. The measure is w. Assumes nothing.
use Prim.Native.Nat.{◌+◌, ◌-◌, ◌/◌}
use mathlib.Core.Path.{◌≡◌, sym, ◌∙◌}
use native.Mathlib.Omega.{arith}
use lib.ListN.{length, length-set}
use Rattle.scenario_text.specs.Number.{text}
use Rattle.scenario_text.proofs.Digits.{text_short, text_some, length_more}
use Rattle.scenario_text.proofs.Stores.{digit_stored, first_stored, puts}
use Rattle.scenario_text.proofs.write_number.Goals as goal

pub overflow_add-end : goal.overflow_add-end
overflow_add-end c = omega (arith, text_short c.args.v)

pub overflow_sub-p : goal.overflow_sub-p
overflow_sub-p c = omega (arith, text_some c.loop-w.w)

pub bounds-out-p : goal.bounds-out-p
bounds-out-p c =
    let l = c.loop-w in
    omega (arith, text_short l.w, text_some l.w)

pub loop-w-preserved : goal.loop-w-preserved
loop-w-preserved c =
    let a = c.args in
    let l = c.loop-w in
    let e : l.p - 1 ≡ a.at + length (text (l.w / 10)) = omega (arith, length_more l.w c.loop-w-test.true l.invariant.0) in (
      omega arith,
      e,
      simp length-set l.invariant.2,
      l.invariant.3 ∙ digit_stored l.out a.at (l.p - 1) l.w c.digit.result c.loop-w-test.true l.invariant.0 e c.digit.ensures,
    )

pub returns : goal.returns
returns c =
    let a = c.args in
    let l = c.loop-w in
    puts _ _ (text a.v) a.at _ 20
    (omega arith)
    (sym (l.invariant.3 ∙ first_stored l.out a.at l.w c.digit-2.result (omega arith) c.digit-2.ensures))
    (text_short a.v)
