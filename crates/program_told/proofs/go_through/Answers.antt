-- `go_through` meets its contract. The loop's invariant: what is held after the bytes that are left is what is held after all. Assumes
-- nothing.
use Rattle.std.proofs.Common.{sym, refl, ◌∙◌}
use Rattle.program_told.proofs.Lengths.{through_on, through_over}
use Rattle.program_told.proofs.go_through.Goals as goal

pub loop-i-init : goal.loop-i-init
loop-i-init c = refl

pub loop-i-preserved : goal.loop-i-preserved
loop-i-preserved c = c.loop-i.invariant ∙ through_on c.args.chunk.now c.loop-i.i c.loop-i.h c.loop-i-test.true ∙ rw (c.push-h.ensures.value, c.anew.ensures) refl

pub returns : goal.returns
returns c = sym (c.loop-i.invariant ∙ through_over c.args.chunk.now c.loop-i.i c.loop-i.h c.loop-i-test.false)
