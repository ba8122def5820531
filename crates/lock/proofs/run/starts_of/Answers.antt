-- `starts_of` meets its contract. The loop's invariant: the sum is the start of thread t, cut, and the starts before it are written.
use Prim.Native.Nat.{min}
use mathlib.Core.Path.{◌∙◌}
use native.Mathlib.Omega.{arith}
use lib.ListN.{length-set}
use Rattle.machine.specs.Lists.{total, start}
use Rattle.lock_scripts.proofs.Starts.{start_next}
use Rattle.lock.proofs.Running.{written}
use Rattle.lock.proofs.run.starts_of.Goals as goal

pub loop-t-init : goal.loop-t-init
unfolding total
loop-t-init c = (omega arith, omega arith, λ i h. absurd (omega arith))

pub loop-t-preserved : goal.loop-t-preserved
loop-t-preserved c =
    let a = c.args in
    let l = c.loop-t in (
      length-set l.starts l.t l.sum ∙ l.invariant.0,
      omega (arith, c.min-sum.ensures, start_next a.lens.now l.t),
      written (λ i. min (start a.lens.now i) a.most) l.starts l.t l.sum (omega arith) l.invariant.1 l.invariant.2,
    )
