-- The source's examples, computed.
use mathlib.Core.Path.{refl}
use mathlib.Core.Logic.{inl}
use Rattle.cell.specs.Pred.{permits, good}
use Rattle.machine.specs.Refusals.{lowest}
use Rattle.machine.specs.Step.{act, fits, sum, entry_refusal, answer, step}
use Rattle.machine.specs.Lists.{total, find}
use Rattle.machine.specs.Setup.{setup_refusal, setup}
use Rattle.machine.specs.Run.{run}
use Rattle.machine.specs.Examples.{Example1, Example2, SourceExamples}

example_1 : Example1
unfolding run step answer entry_refusal lowest act fits sum permits good setup_refusal setup total find
example_1 = (refl, refl, inl refl, refl, refl, refl, refl)

example_2 : Example2
unfolding run step answer entry_refusal lowest act fits sum permits good setup_refusal setup total find
example_2 = ((refl, refl, refl, refl, refl, refl), (refl, refl, refl, refl, refl, refl))

pub source_examples : SourceExamples
source_examples = (example_1, example_2)
