-- `drain_ready` meets its contract: the three parts, one after the other. Assumes nothing.
use Prim.Native.Nat.{◌+◌, ◌*◌}
use mathlib.Core.Path.{◌≡◌, ap, ◌∙◌}
use native.Mathlib.Omega.{arith}
use lib.ListN.{length, take}
use lib.Seq.{length-take-le}
use Rattle.machine.specs.Lists.{lent, scripts_of}
use Rattle.machine.specs.Drain.{enough}
use Rattle.lock.specs.declared.drain.Stop.TheVariants.{Idle as IdleOnly, End}
use Rattle.lock.proofs.Draining.{part_of, three_parts}
use Rattle.lock.proofs.drain.drain_ready.Goals as goal

pub returns : goal.returns
returns c =
    let a = c.args in
    let s = lent a.lists in
    let n = length a.lists.lens.now in
    let size : length (take n a.recs) ≡ n = length-take-le n a.recs (omega (arith, c.requires.threads, c.well_formed)) in
    let fuel = c.bound.result + 2 * n in
    let is : fuel ≡ enough (scripts_of s) (take n a.recs) = omega (arith, c.bound.ensures.value, size) in
    let first = c.sweep-first.ensures.result_value in
    let second = c.sweep-second.ensures.result_value ∙ ap (part_of s IdleOnly fuel) first in
    let third = c.sweep.ensures.result_value ∙ ap (part_of s End fuel) second in
    third ∙ three_parts s a.lock a.recs size fuel is
