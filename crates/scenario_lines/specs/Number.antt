-- Plain decimal numbers below 2^64 without needless zeros.
use Rattle.std.specs.Prelude.{ℕ, ◌+◌, ◌*◌, ◌-◌, ◌^◌, Bool, true, false, ◌&&◌, not, cond, List, [], ◌∷◌, eqb, ltb, leb, Option, Some, None}

abbrev pub digit : ℕ → Bool
digit b = leb 48 b && leb b 57

unfoldable pub digits : List ℕ → Bool
digits [] = true
digits (b ∷ l) = digit b && digits l

-- at least one digit, and no 0 in front of another
unfoldable pub plainly : List ℕ → Bool
plainly [] = false
plainly (b ∷ []) = digit b
plainly (b ∷ c ∷ l) = not (eqb b 48) && digits (b ∷ c ∷ l)

-- the value of digits after those that make v
unfoldable pub decimal : ℕ → List ℕ → ℕ
decimal v [] = v
decimal v (b ∷ l) = decimal (v * 10 + (b - 48)) l

abbrev pub fits : ℕ → Option ℕ
fits v = cond (ltb v (2 ^ 64)) (Some v) None

unfoldable pub number : List ℕ → Option ℕ
number l = cond (plainly l) (fits (decimal 0 l)) None

-- the same, a digit at a time
unfoldable pub more : ℕ → ℕ → Option ℕ
more v b = cond (digit b) (fits (v * 10 + (b - 48))) None

abbrev pub onward : Option ℕ → (ℕ → Option ℕ) → Option ℕ
onward None k = None
onward (Some x) k = k x

unfoldable pub scan : ℕ → List ℕ → Option ℕ
scan v [] = Some v
scan v (b ∷ l) = onward (more v b) (λ x. scan x l)
