-- `is_front` meets its contract. The loop's invariant: the definition of the whole is that of the rest, from here on. Assumes
-- nothing.
use Rattle.replay.proofs.Scans.{front_long, front_hit, front_miss, front_over}
use mathlib.Core.Path.{sym, ◌∙◌}
use native.Mathlib.Omega.{arith}
use Rattle.replay.proofs.lists.is_front.Goals as goal

pub returns-then-front-list : goal.returns-then-front-list
returns-then-front-list c =
    let a = c.args in
    sym (front_long a.other a.list.now a.front.now c.if-front-list.true)

pub returns-then-list-i : goal.returns-then-list-i
returns-then-list-i c =
    let a = c.args in
    let l = c.loop-i in
    let t = c.loop-i-test.true in
    sym (l.invariant.2 ∙ front_hit a.other a.list.now a.front.now l.i t (λ e. c.if-list-i.true (e ∙ sym c.or_at.ensures)))

pub loop-i-preserved : goal.loop-i-preserved
loop-i-preserved c =
    let a = c.args in
    let l = c.loop-i in
    let t = c.loop-i-test.true in
    (omega arith, l.invariant.1, l.invariant.2 ∙ front_miss a.other a.list.now a.front.now l.i t (c.if-list-i.false ∙ c.or_at.ensures))

pub returns : goal.returns
returns c =
    let a = c.args in
    let l = c.loop-i in
    sym (l.invariant.2 ∙ front_over a.other a.list.now a.front.now l.i c.loop-i-test.false (omega arith))
