-- A number is gathered from its own text, in decimal and in binary, whatever stands behind it. Assumes nothing.
use Prim.Native.Nat.{ℕ, zero, suc, ◌+◌, ◌*◌, ◌-◌, ◌^◌, ◌<◌}
use mathlib.Core.Bool.{true}
use mathlib.Core.Path.{◌≡◌, refl, ◌∙◌}
use mathlib.Core.List.{List, ◌∷◌, ◌++◌}
use native.Mathlib.Omega.{arith}
use borrow.Author.Tests.{lt-ltb, le-leb}
use Rattle.std.specs.Prelude.{Some}
use Rattle.scenario_lines.specs.Number.{more}
use Rattle.scenario_text.specs.Number.{text}
use Rattle.scenario_text.proofs.Values.{taken}
use Rattle.vcd.specs.Binary.{is_bit, binary}
use Rattle.vcd.specs.Read.{digits_ahead, bits_ahead}

-- ---- decimal
less_48 : (d : ℕ) → 48 + d - 48 ≡ d
less_48 d = omega arith

more_is : (a d : ℕ) → d < 10 → a * 10 + d < 2 ^ 64 → more a (48 + d) ≡ Some (a * 10 + d)
unfolding more
more_is a d h g = rw (le-leb 48 (48 + d) (omega arith), le-leb (48 + d) 57 (omega arith), less_48 d, lt-ltb (a * 10 + d) (2 ^ 64) g)

digit_ahead : (a d : ℕ) (l : List ℕ) → d < 10 → a * 10 + d < 2 ^ 64 → digits_ahead a ((48 + d) ∷ l) ≡ digits_ahead (a * 10 + d) l
unfolding digits_ahead
digit_ahead a d l h g = rw (more_is a d h g)

-- a line's end is no digit
digits_end : (v : ℕ) (l : List ℕ) → digits_ahead v (10 ∷ l) ≡ v
unfolding digits_ahead more
digits_end v l = refl

pub text_ahead : (v : ℕ) (l : List ℕ) → v < 2 ^ 64 → digits_ahead 0 (text v ++ (10 ∷ l)) ≡ v
unfolding text
text_ahead v l h = taken 10 (omega arith) (2 ^ 64) digits_ahead digit_ahead 19 v (omega arith) h (10 ∷ l) ∙ digits_end v l

-- ---- binary
is_bit_lem : (d : ℕ) → d < 2 → is_bit (48 + d) ≡ true
is_bit_lem zero h = refl
is_bit_lem (suc zero) h = refl
is_bit_lem (suc (suc d)) h = absurd (omega arith)

bit_ahead : (a d : ℕ) (l : List ℕ) → d < 2 → a * 2 + d < 2 ^ 64 → bits_ahead a ((48 + d) ∷ l) ≡ bits_ahead (a * 2 + d) l
unfolding bits_ahead
bit_ahead a d l h g = rw (is_bit_lem d h, lt-ltb a (2 ^ 63) (omega arith), less_48 d)

-- a blank is no digit
bits_end : (v : ℕ) (l : List ℕ) → bits_ahead v (32 ∷ l) ≡ v
unfolding bits_ahead
bits_end v l = refl

pub binary_ahead : (v : ℕ) (l : List ℕ) → v < 2 ^ 64 → bits_ahead 0 (binary v ++ (32 ∷ l)) ≡ v
unfolding binary
binary_ahead v l h = taken 2 (omega arith) (2 ^ 64) bits_ahead bit_ahead 63 v h h (32 ∷ l) ∙ bits_end v l
