-- `start_of` meets its contract. The loop's invariant: the sum is the start of the thread that it has come to, and not above `most`. Assumes
-- nothing.
use mathlib.Core.Path.{refl}
use native.Mathlib.Omega.{arith}
use Prim.Native.Nat.{◌<◌}
use lib.ListN.{length-take}
use lib.Seq.{get_or-take}
use Rattle.machine.specs.Lists.{total}
use Rattle.lock_scripts.proofs.Starts.{start_next, start_later}
use Rattle.lock_scripts.proofs.start_of.Goals as goal

pub loop-n-init : goal.loop-n-init
unfolding total
loop-n-init c = (refl, omega arith)

pub returns-then-most-sum : goal.returns-then-most-sum
returns-then-most-sum c =
    let lens = c.args.lens.now in
    let t = c.loop-n.n-index in
    let end = c.min-end.result in
    let here : t < end = omega (arith, length-take end lens) in
    omega (arith, get_or-take end lens t 0 here, start_later lens t c.args.i (omega arith))

pub loop-n-preserved : goal.loop-n-preserved
loop-n-preserved c =
    let lens = c.args.lens.now in
    let t = c.loop-n.n-index in
    let end = c.min-end.result in
    let here : t < end = omega (arith, length-take end lens) in
    (omega (arith, get_or-take end lens t 0 here, start_next lens t), omega arith)
