-- `refused` meets its contract: what is wrong with the lists comes first, then the tests of the state.
use mathlib.Core.Path.{sym, ◌∙◌}
use native.Mathlib.Omega.{arith}
use lib.ListN.{take}
use lib.Seq.{length-take-le}
use Rattle.std.proofs.lemmas.Result.{err_from_is_err_and}
use Rattle.machine.specs.Lists.{lent}
use Rattle.lock.proofs.Refusing.{lists_refuse, few_records, none_refuse, state_refuses, bad_number, bad_state, not_bad}
use Rattle.lock.proofs.refused.refused.Goals as goal
use Rattle.lock.proofs.refused.refused.Goals.{else-some_and_few-via-then-some_and_few+else-is_sound, else-some_and_few-via-else-some_and_few}

pub returns-in_err-refused : goal.returns-in_err-refused
returns-in_err-refused c =
    let a = c.args in
    let p = err_from_is_err_and c.from_residual.result c.from_residual.ensures.1 in
    rw (p.1, p.2) (lists_refuse (lent a.lists) a.count a.lock (take a.count a.recs) _ c.in_err-refused.ensures)

pub returns-else-some_and_few : goal.returns-else-some_and_few
returns-else-some_and_few c =
    let a = c.args in
    let s = lent a.lists in
    let l = take a.count a.recs in
    rw c.from.ensures
    (state_refuses s a.count a.lock l c.in_ok-refused.ensures
    (elim c.else-some_and_few.branch [
      | else-some_and_few-via-then-some_and_few+else-is_sound w ↦ bad_state s a.lock l (sym w.is_sound.ensures ∙ w.if-is_sound.false)
      | else-some_and_few-via-else-some_and_few w ↦ bad_number s a.lock l (sym c.some_and_few.ensures ∙ w.if-some_and_few.false)
    ]))

pub returns-then-is_sound : goal.returns-then-is_sound
returns-then-is_sound c =
    let a = c.args in
    let s = lent a.lists in
    let l = take a.count a.recs in
    none_refuse s a.count a.lock l c.in_ok-refused.ensures
    (not_bad s a.lock l (sym c.some_and_few.ensures ∙ c.if-some_and_few.true) (sym c.is_sound.ensures ∙ c.if-is_sound.true))

pub slice_bounds-recs-end : goal.slice_bounds-recs-end
slice_bounds-recs-end c =
    let a = c.args in
    let few = few_records (lent a.lists) a.count a.lock (take a.count a.recs) c.in_ok-refused.ensures (sym c.some_and_few.ensures ∙ c.if-some_and_few.true) in
    omega (arith, few, c.well_formed)

pub slice_bounds-is_sound-end : goal.slice_bounds-is_sound-end
slice_bounds-is_sound-end c =
    let a = c.args in
    let few = few_records (lent a.lists) a.count a.lock (take a.count a.recs) c.in_ok-refused.ensures (sym c.some_and_few.ensures ∙ c.if-some_and_few.true) in
    sym (length-take-le a.count a.recs (omega (arith, few, c.well_formed)))
