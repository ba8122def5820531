-- A number in binary, without leading zeros; zero is one digit.
use Rattle.std.specs.Prelude.{ℕ, Bool, ◌||◌, List, eqb}
use Rattle.scenario_text.specs.Number.{digits_to}

abbrev pub is_bit : ℕ → Bool
is_bit b = eqb b 48 || eqb b 49

-- a number below 2 ^ 64 has 64 digits at most
unfoldable pub binary : ℕ → List ℕ
binary v = digits_to 2 64 v
