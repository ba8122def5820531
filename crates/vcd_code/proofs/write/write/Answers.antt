-- `write` meets its contract. Assumes nothing.
use Rattle.std.proofs.lemmas.Result.{err_from_is_err_and}
use mathlib.Core.Path.{sym, ◌∙◌}
use Rattle.vcd_code.proofs.Written.{refused_trace, no_room_lem, some_room, whole, unstored}
use Rattle.vcd_code.proofs.write.write.Goals as goal

pub walk-requires : goal.walk-requires
walk-requires c = unstored

pub walk-requires-2 : goal.walk-requires-2
walk-requires-2 c =
    let a = c.args in
    let right = sym c.is_wrong.ensures ∙ c.if-is_wrong.false in
    let first = c.in_ok-walk.ensures in
    λ e. some_room a.trace.now a.s a.out.now _ right _ (first.value, first.out_after)

pub returns-then-is_wrong-clause-value : goal.returns-then-is_wrong-clause-value
returns-then-is_wrong-clause-value c =
    let a = c.args in
    (refused_trace a.trace.now a.s a.out.now (sym c.is_wrong.ensures ∙ c.if-is_wrong.true)).0

pub returns-then-is_wrong-clause-out_after : goal.returns-then-is_wrong-clause-out_after
returns-then-is_wrong-clause-out_after c =
    let a = c.args in
    (refused_trace a.trace.now a.s a.out.now (sym c.is_wrong.ensures ∙ c.if-is_wrong.true)).1

pub returns-in_err-walk-clause-value : goal.returns-in_err-walk-clause-value
returns-in_err-walk-clause-value c =
    let a = c.args in
    let right = sym c.is_wrong.ensures ∙ c.if-is_wrong.false in
    let first = c.in_err-walk.ensures in
    let from = err_from_is_err_and c.from_residual.result c.from_residual.ensures.1 in
    rw (from.1, from.2) (no_room_lem a.trace.now a.s a.out.now _ right _ (first.value, first.out_after)).0

pub returns-in_err-walk-clause-out_after : goal.returns-in_err-walk-clause-out_after
returns-in_err-walk-clause-out_after c =
    let a = c.args in
    let right = sym c.is_wrong.ensures ∙ c.if-is_wrong.false in
    let first = c.in_err-walk.ensures in
    (no_room_lem a.trace.now a.s a.out.now _ right _ (first.value, first.out_after)).1

pub returns-clause-value : goal.returns-clause-value
returns-clause-value c =
    let a = c.args in
    let right = sym c.is_wrong.ensures ∙ c.if-is_wrong.false in
    let first = c.in_ok-walk.ensures in
    (whole a.trace.now a.s a.out.now _ right _ (first.value, first.out_after) _ _ (c.walk-2.ensures.value, c.walk-2.ensures.out_after)).0

pub returns-clause-out_after : goal.returns-clause-out_after
returns-clause-out_after c =
    let a = c.args in
    let right = sym c.is_wrong.ensures ∙ c.if-is_wrong.false in
    let first = c.in_ok-walk.ensures in
    (whole a.trace.now a.s a.out.now _ right _ (first.value, first.out_after) _ _ (c.walk-2.ensures.value, c.walk-2.ensures.out_after)).1
