-- What is equal to one definition is equal.
use mathlib.Core.Path.{sym, ◌∙◌}
use Rattle.lock_promises.specs.Outcome.{OneOutcome}

pub one_outcome : OneOutcome
one_outcome A definition r r' e e' = e ∙ sym e'
