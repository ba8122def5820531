-- The source's examples, by computation. Assumes nothing.
use mathlib.Core.Path.{refl}
use Rattle.cell.specs.Pred.{permits}
use Rattle.cell.specs.Calls.{after}
use Rattle.cell.specs.Examples.{SourceExamples}

pub source_examples : SourceExamples
unfolding permits after
source_examples = (refl, refl, refl, refl, refl, refl, refl, refl, refl, refl, refl, refl, refl, refl, refl, refl, refl)
