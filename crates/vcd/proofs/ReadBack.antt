-- A number in binary is the number, of digits 0 and 1, and begins with 1 unless it is zero. Assumes nothing.
use Prim.Native.Nat.{ℕ, zero, suc, ◌+◌, ◌*◌, ◌-◌, ◌<◌}
use mathlib.Core.Bool.{true, ◌||◌}
use mathlib.Core.Path.{◌≡◌, refl}
use mathlib.Core.List.{List, ◌∷◌}
use native.Mathlib.Omega.{arith}
use lib.Dec.{eqb}
use Rattle.scenario_text.proofs.Values.{value, all_passed, leads}
use Rattle.vcd.specs.Binary.{binary}
use Rattle.vcd.specs.ReadBack.{bits_value, all_bits, IsBinary, OfBits, NoLeadingZero}

value_step : (a d : ℕ) (l : List ℕ) → bits_value a ((48 + d) ∷ l) ≡ bits_value (a * 2 + d) l
unfolding bits_value
value_step a d l = let e : 48 + d - 48 ≡ d = omega arith in rw e

pub is_binary : IsBinary
unfolding binary bits_value
is_binary v h = value 2 (omega arith) (suc v) bits_value (λ a d l small g. value_step a d l) 63 v h (omega arith)

is_bit_lem : (d : ℕ) → d < 2 → (eqb (48 + d) 48 || eqb (48 + d) 49) ≡ true
is_bit_lem zero h = refl
is_bit_lem (suc zero) h = refl
is_bit_lem (suc (suc d)) h = absurd (omega arith)

bits_step : (d : ℕ) (l : List ℕ) → d < 2 → all_bits ((48 + d) ∷ l) ≡ all_bits l
unfolding all_bits
bits_step d l h = rw (is_bit_lem d h)

pub of_bits : OfBits
unfolding binary all_bits
of_bits v = all_passed 2 (omega arith) all_bits bits_step 64 v

pub no_leading_zero : NoLeadingZero
unfolding binary
no_leading_zero v g h = leads 2 (omega arith) (λ (c : ℕ). c ≡ 49) (λ d some e. omega arith) 63 v h g
