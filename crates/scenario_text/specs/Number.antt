-- A number as text: plain decimal, without needless zeros.
use Rattle.std.specs.Prelude.{ℕ, zero, suc, ◌+◌, ◌/◌, ◌%◌, cond, List, [], ◌∷◌, ◌++◌, ltb}

-- at most so many digits, in a base
unfoldable pub digits_to : ℕ → ℕ → ℕ → List ℕ
digits_to base zero v = []
digits_to base (suc most) v = cond (ltb v base) ((48 + v) ∷ []) (digits_to base most (v / base) ++ ((48 + v % base) ∷ []))

-- a number below 2 ^ 64 has 20 digits at most
unfoldable pub text : ℕ → List ℕ
text v = digits_to 10 20 v
