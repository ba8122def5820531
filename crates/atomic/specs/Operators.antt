-- That the machine's operators on numbers of w bits are the bitwise definitions: `&`, `|`, `^`, and `!` of `&`.
use Rattle.std.specs.Prelude.{ℕ, ◌-◌, ◌^◌, ◌<◌, Bool, ◌≡◌}
use Rattle.std.specs.Int.Bits.{bit_and, bit_or, bit_xor}
use Rattle.atomic.specs.Bits.{bitwise, both, either, differ, not_both}

abbrev pub Is : (ℕ → ℕ → ℕ → ℕ) → (Bool → Bool → Bool) → Type 0
Is operator f = (w a b : ℕ) → a < 2 ^ w → b < 2 ^ w → operator w a b ≡ bitwise w f a b

abbrev pub AndIs : Type 0
AndIs = Is (λ w. bit_and) both

abbrev pub OrIs : Type 0
OrIs = Is (λ w. bit_or) either

abbrev pub XorIs : Type 0
XorIs = Is (λ w. bit_xor) differ

abbrev pub NandIs : Type 0
NandIs = Is (λ w a b. (2 ^ w - 1) - bit_and a b) not_both
