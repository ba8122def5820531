-- `take_line` meets its contract. The loop's invariant: what is taken from the start is taken from here on. Assumes nothing.
use mathlib.Core.Path.{◌≡◌}
use native.Mathlib.Omega.{arith}
use lib.ListN.{drop}
use Rattle.scenario_lines.proofs.Takes.{took_opened, takes_last, takes_on, takes_over}
use Rattle.scenario_lines.proofs.bytes.take_line.Goals as goal

pub loop-i-preserved : goal.loop-i-preserved
loop-i-preserved c =
    let l = c.loop-i in (
      c.if-g.false,
      omega arith,
      takes_on c.args.chunk.now l.i l.line l.g c.loop-i-test.true l.invariant.2 (c.push-g.ensures.value, c.push-g.ensures.line_after) c.if-g.false,
    )

pub returns-then-g-clause-value : goal.returns-then-g-clause-value
returns-then-g-clause-value c =
    let a = c.args in
    let l = c.loop-i in
    rw (took_opened (drop a.from a.chunk.now) a.line.now a.h)
    (((takes_last a.chunk.now l.i l.line l.g c.loop-i-test.true l.invariant.2 (c.push-g.ensures.value, c.push-g.ensures.line_after) c.if-g.true).0))

pub returns-then-g-clause-line_after : goal.returns-then-g-clause-line_after
returns-then-g-clause-line_after c =
    let a = c.args in
    let l = c.loop-i in
    rw (took_opened (drop a.from a.chunk.now) a.line.now a.h)
    (((takes_last a.chunk.now l.i l.line l.g c.loop-i-test.true l.invariant.2 (c.push-g.ensures.value, c.push-g.ensures.line_after) c.if-g.true).1))

pub returns-clause-value : goal.returns-clause-value
returns-clause-value c =
    let a = c.args in
    let l = c.loop-i in
    let at_end : c.max.result ≡ l.i = omega arith in
    rw (took_opened (drop a.from a.chunk.now) a.line.now a.h, at_end)
    (((takes_over a.chunk.now l.i l.line l.g c.loop-i-test.false l.invariant.0 l.invariant.2).0))

pub returns-clause-line_after : goal.returns-clause-line_after
returns-clause-line_after c =
    let a = c.args in
    let l = c.loop-i in
    rw (took_opened (drop a.from a.chunk.now) a.line.now a.h)
    (((takes_over a.chunk.now l.i l.line l.g c.loop-i-test.false l.invariant.0 l.invariant.2).1))
