-- `find` meets its contract. The loop's invariant: the place from the start is the place from here on. Assumes nothing.
use Rattle.replay.proofs.Scans.{place_hit, place_miss, place_over}
use native.Mathlib.Omega.{arith}
use Rattle.replay.proofs.lists.find.Goals as goal

pub returns-then-list-i : goal.returns-then-list-i
returns-then-list-i c =
    let a = c.args in
    let l = c.loop-i in
    omega (arith, l.invariant.1, place_hit a.b a.list.now l.i c.loop-i-test.true c.if-list-i.true)

pub loop-i-preserved : goal.loop-i-preserved
loop-i-preserved c =
    let a = c.args in
    let l = c.loop-i in
    (omega arith, omega (arith, l.invariant.1, place_miss a.b a.list.now l.i c.loop-i-test.true c.if-list-i.false))

pub returns : goal.returns
returns c =
    let a = c.args in
    let l = c.loop-i in
    omega (arith, l.invariant.0, l.invariant.1, place_over a.b a.list.now l.i c.loop-i-test.false, c.max.ensures)
