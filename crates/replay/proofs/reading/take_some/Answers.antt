-- `take_some` meets its contract. The loop's invariant: what is taken from the start is taken from here on. Assumes nothing.
use Rattle.replay.proofs.Takes.{takes_last, takes_on, takes_over}
use borrow.Author.Rules.{rules}
use mathlib.Core.Path.{refl}
use native.Mathlib.Omega.{arith}
use Rattle.replay.proofs.reading.take_some.Goals as goal

pub loop-i-preserved : goal.loop-i-preserved
loop-i-preserved c =
    let a = c.args in
    let l = c.loop-i in
    let t = c.loop-i-test.true in
    (search rules, omega arith, takes_on a.chunk.now l.i l.line l.n l.invariant.2 t c.if-chunk-i-eq-BREAK.false (c.keep-n.ensures.value, c.keep-n.ensures.line_after))

pub returns-then-chunk-i-eq-BREAK-clause-value : goal.returns-then-chunk-i-eq-BREAK-clause-value
returns-then-chunk-i-eq-BREAK-clause-value c =
    let a = c.args in
    let l = c.loop-i in
    (takes_last a.chunk.now l.i l.line l.n l.invariant.2 c.loop-i-test.true c.if-chunk-i-eq-BREAK.true).0

pub returns-then-chunk-i-eq-BREAK-clause-line_after : goal.returns-then-chunk-i-eq-BREAK-clause-line_after
returns-then-chunk-i-eq-BREAK-clause-line_after c =
    let a = c.args in
    let l = c.loop-i in
    (takes_last a.chunk.now l.i l.line l.n l.invariant.2 c.loop-i-test.true c.if-chunk-i-eq-BREAK.true).1

pub returns-clause-value : goal.returns-clause-value
returns-clause-value c =
    let a = c.args in
    let l = c.loop-i in
    (takes_over a.chunk.now l.i l.line l.n l.invariant.2 c.loop-i-test.false (omega (arith, l.invariant.1, c.max.ensures))).0

pub returns-clause-line_after : goal.returns-clause-line_after
returns-clause-line_after c =
    let a = c.args in
    let l = c.loop-i in
    (takes_over a.chunk.now l.i l.line l.n l.invariant.2 c.loop-i-test.false {at = l.i} refl).1
