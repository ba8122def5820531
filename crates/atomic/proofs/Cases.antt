-- The marked case of the atomics. Assumes nothing.
use mathlib.Core.Path.{refl}
use Rattle.atomic.specs.Cases.{CaseJ}

pub case_j : CaseJ
case_j = (refl, refl, refl)
