-- The bounds are reached, computed.
use mathlib.Core.Path.{refl}
use Rattle.cell.specs.Pred.{permits, good}
use Rattle.machine.specs.Refusals.{lowest}
use Rattle.machine.specs.Step.{act, fits, sum, entry_refusal, answer, step}
use Rattle.machine.specs.Lists.{total, find}
use Rattle.machine.specs.Setup.{setup_refusal, setup}
use Rattle.machine.specs.Run.{run}
use Rattle.retries.specs.Rows.{counted}
use Rattle.retries.specs.Cases.{OneReached, AllReached, SixteenReached, Cases}

pub one_reached : OneReached
unfolding run step answer entry_refusal lowest act fits sum permits good setup_refusal setup total find counted
one_reached = (refl, refl, refl, refl, refl)

pub all_reached : AllReached
unfolding run step answer entry_refusal lowest act fits sum permits good setup_refusal setup total find counted
all_reached = (refl, refl, refl, refl, refl)

pub sixteen_reached : SixteenReached
unfolding run step answer entry_refusal lowest act fits sum permits good setup_refusal setup total find counted
sixteen_reached = (refl, refl, refl, refl)

pub cases : Cases
cases = (one_reached, all_reached, sixteen_reached)
