-- `cost` meets its contract. The loop's invariant: what is summed up, and the cost from here on, are the whole cost. Assumes nothing.
use mathlib.Core.Path.{◌≡◌}
use native.Mathlib.Omega.{arith}
use Rattle.machine.specs.Tidy.{price}
use Rattle.machine.proofs.Falls.{cost_next}
use Rattle.lock_tidy.specs.Rests.{words_at}
use Rattle.lock.proofs.Costs.{price_most, cost_most, cost_over}
use Rattle.lock.proofs.drain.cost.Goals as goal

pub overflow_add-sum : goal.overflow_add-sum
overflow_add-sum c =
    let a = c.args in
    let l = c.loop-k in
    let w = words_at a.ops.now a.start in
    omega (arith, c.price-sum.ensures, price_most c.word_at.result, l.invariant, cost_most w a.len a.at)

pub loop-k-preserved : goal.loop-k-preserved
loop-k-preserved c =
    let a = c.args in
    let l = c.loop-k in
    let w = words_at a.ops.now a.start in
    let here : c.price-sum.result ≡ price (w l.k) = rw c.word_at.ensures at c.price-sum.ensures in
    (omega (arith, here, l.invariant, cost_next w a.len l.k c.loop-k-test.true), l.invariant.1)

pub returns : goal.returns
returns c =
    let a = c.args in
    let l = c.loop-k in
    omega (arith, l.invariant, cost_over (words_at a.ops.now a.start) a.len l.k c.loop-k-test.false)
