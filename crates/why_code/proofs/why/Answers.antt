-- `why` meets its contract: what a run of one entry answers is told. Assumes nothing.
use Rattle.std.proofs.Common.{◌≡◌, min, length, arith}
use Rattle.std.proofs.lemmas.List.{take_min}
use Rattle.machine.specs.Lists.{lent}
use Rattle.why_code.proofs.Calls.{run_refused, step_refused, reason_told}
use Rattle.why_code.proofs.why.Goals as goal

pub returns-in-Some : goal.returns-in-Some
returns-in-Some c =
    let a = c.args in
    let left = c.run-left in
    run_refused (lent a.lists) a.count a.lock a.recs a.thread _ (omega arith) left.result _ left.ensures.value left.ensures.trace_after _ c.in-Some.is

pub returns-then-answer-ne-NONE : goal.returns-then-answer-ne-NONE
returns-then-answer-ne-NONE c =
    let a = c.args in
    let left = c.run-left in
    step_refused (lent a.lists) a.count a.lock a.recs a.thread _ (omega arith) left.result _ left.ensures.value left.ensures.trace_after
    c.in_default.is c.if-answer-ne-NONE.true

pub returns : goal.returns
returns c =
    let a = c.args in
    let left = c.run-left in
    let n : c.min-n.result ≡ min a.count (length a.recs) = omega arith in
    reason_told (lent a.lists) a.count a.lock a.recs a.thread _ (omega arith) left.result _ left.ensures.value left.ensures.trace_after
    c.in_default.is c.if-answer-ne-NONE.false _ (rw (n, take_min) at c.reason_of.ensures)
