-- The cases beside A to L, computed.
use mathlib.Core.Path.{refl}
use Rattle.cell.specs.Pred.{permits}
use Rattle.machine.specs.Refusals.{lowest}
use Rattle.machine.specs.Step.{act, fits, sum, entry_refusal, answer, step}
use Rattle.machine.specs.Lists.{total}
use Rattle.machine.specs.Run.{run}
use Rattle.machine.specs.Tidy.{cost_from, cost}
use Rattle.machine.specs.Drain.{until, sweep, drain}
use Rattle.machine.specs.MoreCases.{FailedInto, DroppedRead, DroppedWrite, FiveReaders, DrainOfL, SeenTwo, TakenFive, Bounds, FoundLess, FoundUp, MoreCases}

failed_into : FailedInto
unfolding run step answer entry_refusal lowest act fits sum permits total
failed_into = (refl, refl, refl)

dropped_read : DroppedRead
unfolding run step answer entry_refusal lowest act fits sum permits total
dropped_read = (refl, refl, refl)

dropped_write : DroppedWrite
unfolding run step answer entry_refusal lowest act fits sum permits total
dropped_write = (refl, refl, refl)

five_readers : FiveReaders
unfolding run step answer entry_refusal lowest act fits sum permits total
five_readers = (refl, refl, refl)

drain_of_l : DrainOfL
unfolding step answer entry_refusal lowest act fits sum permits total cost cost_from until sweep drain
drain_of_l = refl

seen_two : SeenTwo
unfolding run step answer entry_refusal lowest act fits sum permits total
seen_two = (refl, refl, refl, refl, refl)

taken_five : TakenFive
unfolding run step answer entry_refusal lowest act fits sum permits total
taken_five = (refl, refl, refl, refl)

bounds : Bounds
unfolding sum total cost cost_from
bounds = (refl, refl, refl, refl)

found_less : FoundLess
unfolding run step answer entry_refusal lowest act fits sum permits total
found_less = (refl, refl, refl)

found_up : FoundUp
unfolding run step answer entry_refusal lowest act fits sum permits total
found_up = (refl, refl, refl)

pub more_cases : MoreCases
more_cases = (failed_into, dropped_read, dropped_write, five_readers, drain_of_l, seen_two, taken_five, bounds, found_less, found_up)
