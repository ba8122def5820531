-- `bound` meets its contract. The loop's invariant: what is summed up, and the sum over the records that are left, are the whole sum.
-- Assumes nothing.
use Prim.Native.Nat.{ℕ, ◌+◌}
use mathlib.Core.Path.{◌∙◌}
use mathlib.Core.List.{List}
use native.Mathlib.Omega.{arith}
use lib.ListN.{length, get_or}
use Rattle.machine.specs.Lists.{start}
use Rattle.machine.specs.Step.{here}
use Rattle.machine.specs.Tidy.{cost}
use Rattle.machine.specs.declared.Rec.{Rec}
use Rattle.lock_tidy.specs.Rests.{words_at}
use Rattle.lock_words.proofs.Loops.{sum_on, sum_over}
use Rattle.lock.proofs.Costs.{cost_most, cost_cut}
use Rattle.lock.proofs.drain.bound.Goals as goal

-- what thread j adds
abbrev adds : List ℕ → List ℕ → ℕ → Rec → ℕ
adds lens ops j r = cost (words_at ops (start lens j)) (get_or lens j 0) r.at + 3

pub overflow_add-sum : goal.overflow_add-sum
overflow_add-sum c =
    let a = c.args in
    let l = c.loop-k in
    let words = words_at a.lists.ops.now (start a.lists.lens.now l.k) in
    let len = get_or a.lists.lens.now l.k 0 in
    let is = (rw c.start_of-start.ensures at c.cost.ensures) ∙ cost_cut a.lists.ops.now (start a.lists.lens.now l.k) len (here a.recs l.k).at in
    let most = cost_most words len (here a.recs l.k).at in
    let short = c.requires.by_index l.k c.loop-k-test.true in
    omega (arith, is, most, short)

pub overflow_add-sum-in-loop-k : goal.overflow_add-sum-in-loop-k
overflow_add-sum-in-loop-k c =
    let a = c.args in
    let l = c.loop-k in
    let words = words_at a.lists.ops.now (start a.lists.lens.now l.k) in
    let len = get_or a.lists.lens.now l.k 0 in
    let is = (rw c.start_of-start.ensures at c.cost.ensures) ∙ cost_cut a.lists.ops.now (start a.lists.lens.now l.k) len (here a.recs l.k).at in
    let most = cost_most words len (here a.recs l.k).at in
    let short = c.requires.by_index l.k c.loop-k-test.true in
    omega (arith, is, most, short, l.invariant)

pub loop-k-preserved : goal.loop-k-preserved
loop-k-preserved c =
    let a = c.args in
    let l = c.loop-k in
    let words = words_at a.lists.ops.now (start a.lists.lens.now l.k) in
    let len = get_or a.lists.lens.now l.k 0 in
    let is = (rw c.start_of-start.ensures at c.cost.ensures) ∙ cost_cut a.lists.ops.now (start a.lists.lens.now l.k) len (here a.recs l.k).at in
    let most = cost_most words len (here a.recs l.k).at in
    let short = c.requires.by_index l.k c.loop-k-test.true in
    let n = length a.lists.lens.now in
    let next = sum_on (adds a.lists.lens.now a.lists.ops.now) n n a.recs l.k l.sum l.invariant.2 l.invariant.4 c.loop-k-test.true in
    (omega arith, l.invariant.1, l.invariant.2, omega (arith, is, most, short, l.invariant), rw is next)

pub returns-clause-value : goal.returns-clause-value
returns-clause-value c =
    let a = c.args in
    let l = c.loop-k in
    let n = length a.lists.lens.now in sum_over (adds a.lists.lens.now a.lists.ops.now) n n a.recs l.k l.sum l.invariant.2 l.invariant.4 c.loop-k-test.false
