-- `bits_ahead` meets its contract. Assumes nothing.
use mathlib.Core.Path.{sym, ◌∙◌}
use Rattle.vcd_code.proofs.Gather.{bit_there, no_bit, bits_other, bits_full, bits_more, bits_over}
use Rattle.vcd_code.proofs.ahead.bits_ahead.Goals as goal

pub returns-in_default : goal.returns-in_default
returns-in_default c =
    let l = c.loop-b in
    sym (l.invariant ∙ bits_other c.args.s.now l.b-index l.v c.loop-b-test.true (no_bit _ _ (sym c.in_default.is ∙ c.bit.ensures)))

pub returns-then-v-ge-HALF : goal.returns-then-v-ge-HALF
returns-then-v-ge-HALF c =
    let l = c.loop-b in
    let (there, is) = bit_there _ _ _ c.in-Some.ensures in
    sym (l.invariant ∙ bits_full c.args.s.now l.b-index l.v c.loop-b-test.true there c.if-v-ge-HALF.true)

pub loop-b-preserved : goal.loop-b-preserved
loop-b-preserved c =
    let l = c.loop-b in
    let (there, is) = bit_there _ _ _ c.in-Some.ensures in
    l.invariant ∙ bits_more c.args.s.now l.b-index l.v c.in-Some.d c.loop-b-test.true there is c.if-v-ge-HALF.false

pub returns : goal.returns
returns c =
    let l = c.loop-b in
    sym (l.invariant ∙ bits_over c.args.s.now l.b-index l.v c.loop-b-test.false)
