-- A number by its bits: bit k of x says whether 2 ^ k is among the powers of two whose sum is x.
use Rattle.std.specs.Prelude.{ℕ, zero, suc, ◌+◌, ◌*◌, ◌/◌, ◌%◌, ◌^◌, Bool, not, ◌&&◌, ◌||◌, cond, eqb}

abbrev pub bit : ℕ → ℕ → Bool
bit k x = eqb (x / 2 ^ k % 2) 1

-- the number of w bits whose bit k is f k
unfoldable pub word : ℕ → (ℕ → Bool) → ℕ
word zero f = 0
word (suc k) f = word k f + cond (f k) 1 0 * 2 ^ k

-- the number of w bits whose bit k is f of the two numbers' bits k
abbrev pub bitwise : ℕ → (Bool → Bool → Bool) → ℕ → ℕ → ℕ
bitwise w f x y = word w (λ k. f (bit k x) (bit k y))

abbrev pub both : Bool → Bool → Bool
both a b = a && b

abbrev pub either : Bool → Bool → Bool
either a b = a || b

-- in the source's words: the first and not the second, or the second and not the first
abbrev pub differ : Bool → Bool → Bool
differ a b = (a && not b) || (not a && b)

abbrev pub not_both : Bool → Bool → Bool
not_both a b = not (a && b)
