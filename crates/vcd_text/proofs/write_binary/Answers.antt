-- `write_binary` meets its contract. Assumes nothing.
use Rattle.std.proofs.Common.{◌≡◌, ◌+◌, ◌-◌, ◌/◌, length, refl, sym, ◌∙◌, arith, length-set}
use Rattle.scenario_text.proofs.Stores.{puts}
use Rattle.vcd.specs.Binary.{binary}
use Rattle.vcd.proofs.Bits.{bits_short, bits_some}
use Rattle.vcd_text.proofs.Loops.{length_more, bit_stored, first_stored, two_by, one_by}
use Rattle.vcd_text.proofs.write_binary.Goals as goal

pub overflow_add-out : goal.overflow_add-out
overflow_add-out c = omega (arith, c.bits_of-n.ensures, bits_short c.args.v)

pub bounds-out-at : goal.bounds-out-at
bounds-out-at c = omega (arith, c.bits_of-n.ensures, bits_short c.args.v)

pub overflow_add-result : goal.overflow_add-result
overflow_add-result c = omega (arith, c.bits_of-n.ensures, bits_short c.args.v)

pub loop-k-init : goal.loop-k-init
loop-k-init c = (omega arith, refl, λ h. (omega (arith, c.bits_of-n.ensures), refl), λ h. absurd (omega (arith, c.bits_of-n.ensures, bits_some c.args.v)))

pub loop-k-preserved : goal.loop-k-preserved
loop-k-preserved c =
    let a = c.args in
    let l = c.loop-k in
    let n = c.bits_of-n.result in
    let (long, same) = l.invariant.2 c.loop-k-test.true in (
      omega arith,
      simp length-set l.invariant.1,
      λ h.
          let two = two_by l.w _ refl (omega (arith, long)) in
          let left : length (binary (l.w / 2)) ≡ n - (l.k + 1) = omega (arith, long, length_more l.w two l.invariant.0) in
          (left, same ∙ bit_stored l.out a.at (a.at + n - 1 - l.k) l.w c.bit.result two l.invariant.0 (omega (arith, left)) c.bit.ensures),
      λ h. same ∙ first_stored l.out a.at (a.at + n - 1 - l.k) l.w c.bit.result (one_by l.w _ refl l.invariant.0 (omega (arith, long))) (omega arith) c.bit.ensures,
    )

pub returns : goal.returns
returns c =
    let a = c.args in
    let l = c.loop-k in
    puts _ _ (binary a.v) a.at _ 64 (omega (arith, c.bits_of-n.ensures)) (sym (l.invariant.3 c.loop-k-test.false)) (bits_short a.v)
