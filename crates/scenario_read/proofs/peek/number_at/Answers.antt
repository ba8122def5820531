-- `number_at` meets its contract. Assumes nothing.
use Rattle.std.proofs.Common.{◌≤◌, get_or, arith, rules}
use Rattle.scenario_read.proofs.Digits.{count_first, count_more, number_stands, zero_stands}
use Rattle.scenario_read.proofs.peek.number_at.Goals as goal

pub returns-then-first-eq48 : goal.returns-then-first-eq48
returns-then-first-eq48 c few = let a = c.args in zero_stands a.s.now a.from (omega arith) c.if-first-eq48.true

pub loop-at-init : goal.loop-at-init
loop-at-init c =
    let a = c.args in
    let digit : (48 ≤ get_or a.s.now a.from 0) × (get_or a.s.now a.from 0 ≤ 57) = (search rules, search rules) in
    (omega arith, rw c.from-value.ensures (count_first a.s.now a.from (omega arith) digit))

pub returns-then-value-ge-TENTH : goal.returns-then-value-ge-TENTH
returns-then-value-ge-TENTH c few =
    let a = c.args in
    let l = c.loop-at in
    number_stands a.s.now a.from l.at l.value (omega arith) (omega arith) l.invariant.1 c.if-first-eq48.false few

pub loop-at-preserved : goal.loop-at-preserved
loop-at-preserved c =
    let a = c.args in
    let l = c.loop-at in
    let digit : (48 ≤ get_or a.s.now l.at 0) × (get_or a.s.now l.at 0 ≤ 57) = (search rules, search rules) in
    (omega arith, rw c.from.ensures (count_more a.s.now a.from l.at l.value (omega arith) (omega arith) l.invariant.1 digit))
