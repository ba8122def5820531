-- What is claimed of a number in binary: it is the number, of digits 0 and 1, and begins with 1 unless it is zero.
use Rattle.std.specs.Prelude.{ℕ, ◌+◌, ◌*◌, ◌-◌, ◌^◌, ◌<◌, ◌≡◌, Bool, true, ◌&&◌, List, [], ◌∷◌, get_or}
use Rattle.vcd.specs.Binary.{is_bit, binary}

-- the value of digits behind those that make v
unfoldable pub bits_value : ℕ → List ℕ → ℕ
bits_value v [] = v
bits_value v (b ∷ l) = bits_value (v * 2 + (b - 48)) l

unfoldable pub all_bits : List ℕ → Bool
all_bits [] = true
all_bits (b ∷ l) = is_bit b && all_bits l

abbrev pub IsBinary : Type 0
IsBinary = (v : ℕ) → v < 2 ^ 64 → bits_value 0 (binary v) ≡ v

abbrev pub OfBits : Type 0
OfBits = (v : ℕ) → all_bits (binary v) ≡ true

abbrev pub NoLeadingZero : Type 0
NoLeadingZero = (v : ℕ) → 0 < v → v < 2 ^ 64 → get_or (binary v) 0 0 ≡ 49
