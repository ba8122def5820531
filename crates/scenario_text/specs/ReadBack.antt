-- What is claimed of a number's text: it is the decimal, digits alone without a needless zero, and it reads back as the number.
use Rattle.std.specs.Prelude.{ℕ, ◌-◌, ◌^◌, ◌<◌, ◌≡◌, true, Some}
use Rattle.scenario_lines.specs.Ascii.{bytes}
use Rattle.scenario_lines.specs.Number.{plainly, decimal, fits, number}
use Rattle.scenario_text.specs.Number.{text}

-- 20 digits are enough below this; of what is larger the first digits are lost
abbrev pub twenty_digits : ℕ
twenty_digits = 10 ^ 20

abbrev pub IsDecimal : Type 0
IsDecimal = (v : ℕ) → v < twenty_digits → decimal 0 (text v) ≡ v

abbrev pub IsPlain : Type 0
IsPlain = (v : ℕ) → v < twenty_digits → plainly (text v) ≡ true

-- read as a field of a line: the number, or none from 2 ^ 64 on
abbrev pub ReadAs : Type 0
ReadAs = (v : ℕ) → v < twenty_digits → number (text v) ≡ fits v

abbrev pub ReadsBack : Type 0
ReadsBack = (v : ℕ) → v < 2 ^ 64 → number (text v) ≡ Some v

-- the edges, computed
abbrev pub TextEdges : Type 0
TextEdges = (text 0 ≡ bytes "0") × (text 9 ≡ bytes "9") × (text 10 ≡ bytes "10") × (text (2 ^ 64 - 1) ≡ bytes "18446744073709551615")
