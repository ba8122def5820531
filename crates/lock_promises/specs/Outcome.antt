-- A contract that says 'the result is this definition' allows one outcome.
use Rattle.std.specs.Prelude.{◌≡◌}

-- two results, or two contents of a lent list, that a contract of this form allows are equal
abbrev pub OneOutcome : Type 1
OneOutcome = (A : Type 0) (definition r r' : A) → r ≡ definition → r' ≡ definition → r ≡ r'
