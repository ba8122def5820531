-- The cases, computed.
use mathlib.Core.Path.{refl}
use Rattle.cell.specs.Pred.{permits, good}
use Rattle.machine.specs.Refusals.{lowest}
use Rattle.machine.specs.Step.{act, fits, sum, entry_refusal, answer, step}
use Rattle.machine.specs.Sound.{every, sound}
use Rattle.machine.specs.Lists.{total, find, beside}
use Rattle.machine.specs.Run.{run}
use Rattle.why.specs.Why.{reason_of}
use Rattle.why.specs.Told.{why_refusal, told_by}
use Rattle.why.specs.Cases.{ReasonCases, CallCases, StepCases, LentCases, NumberCases, Cases}

reason_cases : ReasonCases
unfolding run step answer entry_refusal lowest act fits sum permits good total find beside every sound reason_of why_refusal told_by
reason_cases = (refl, refl, refl, refl, refl, refl, refl, refl, refl, refl, refl, refl, refl, refl, refl, refl, refl, refl, refl, refl, refl, refl, refl)

call_cases : CallCases
unfolding run step answer entry_refusal lowest act fits sum permits good total find beside every sound reason_of why_refusal told_by
call_cases = (refl, refl, refl, refl, refl, refl, refl)

step_cases : StepCases
unfolding run step answer entry_refusal lowest act fits sum permits good total find beside every sound reason_of why_refusal told_by
step_cases = (refl, refl, refl, refl, refl, refl, refl, refl, refl, refl, refl, refl, refl)

lent_cases : LentCases
unfolding run step answer entry_refusal lowest act fits sum permits good total find beside every sound reason_of why_refusal told_by
lent_cases = (refl, refl, refl, refl, refl, refl, refl, refl, refl, refl, refl)

number_cases : NumberCases
unfolding run step answer entry_refusal lowest act fits sum permits good total find beside every sound reason_of why_refusal told_by
number_cases = (refl, refl, refl, refl, refl, refl, refl, refl, refl)

pub cases : Cases
cases = (reason_cases, call_cases, step_cases, lent_cases, number_cases)
