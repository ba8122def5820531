-- Rows and lines have their own numbers in what is printed, below 2 ^ 64: rows counted from 0, lines from 1.
use Rattle.std.specs.Prelude.{ℕ, ◌+◌, ◌^◌, ◌<◌, ◌≡◌, ◌≢◌, List, [], ◌∷◌, ◌++◌, length, get_or}
use Rattle.machine.specs.declared.Row.{Row}
use Rattle.scenario_text.specs.Lines.{row_text, refusal}
use Rattle.scenario_lines.specs.Lines.{lines, whole}
use Rattle.scenario_lines.specs.Judge.{judge}
use Rattle.scenario.specs.Refused.{refusal_of}
use Rattle.scenario.specs.Printed.{Reading, start, next, rows_text, refusal_text}
use Rattle.scenario.specs.Named.{taken_of}

-- the first row is printed with the number n, and the rows after it from n + 1 on
abbrev pub RowsNumbered : Type 0
RowsNumbered = (n : ℕ) (row : Row) (rows : List Row) → n < 2 ^ 64 → rows_text n (row ∷ rows) ≡ row_text n row ++ rows_text (n + 1) rows

-- a refusal is printed with the number of lines that were read
abbrev pub LinesNumbered : Type 0
LinesNumbered = (r : Reading) → r.refused ≢ 0 → r.line < 2 ^ 64 → refusal_text r ≡ refusal r.refused r.line

-- and the last of these is the line that is refused, with that number, after the lines before it (`Named.AsNamed` says what was taken of
-- those)
abbrev pub LineRefused : Type 0
LineRefused =
    (file : List ℕ) → let r = whole next start file in r.refused ≢ 0
    → (r.line ≡ taken_of r + 1)
    × (taken_of r < length (lines file))
    × (refusal_of r.scenario (judge (get_or (lines file) (taken_of r) [])) ≡ r.refused)

-- where no line is refused, all are taken and counted
abbrev pub AllTaken : Type 0
AllTaken =
    (file : List ℕ) → let r = whole next start file in r.refused ≡ 0
    → (taken_of r ≡ length (lines file)) × (r.line ≡ length (lines file))
