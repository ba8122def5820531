-- What is told of a refused line: how far the scenario was read, how long the line is, and its bytes.
use Rattle.std.specs.Option.{is_none}
use Rattle.std.specs.Prelude.{ℕ, min, Bool, false, cond, not, List, [], ◌∷◌, ◌++◌, take, ◌==◌}
use Rattle.scenario_lines.specs.Ascii.{bytes}
use Rattle.scenario_lines.specs.Bytes.{longest}
use Rattle.scenario_lines.specs.Judge.{comma}
use Rattle.scenario_lines.specs.Held.{unheld, held_after, held_end}
use Rattle.scenario_lines.specs.declared.bytes.Held.{Held}
use Rattle.scenario_text.specs.Number.{text}
use Rattle.scenario_text.specs.Lines.{break}
use Rattle.scenario.specs.Refused.{stage_no}
use Rattle.scenario_stages.specs.Kept.{counted_on}
use Rattle.scenario_stages.specs.declared.Read.{Read}

-- ---- how long it is
-- behind a break nothing is held
abbrev pub anew : Held → Held
anew h = cond h.done unheld h

-- what is held after these bytes, line after line
unfoldable pub through : Held → List ℕ → Held
through h [] = h
through h (b ∷ bs) = through (held_after (anew h) b) bs

-- how many bytes the line has that was read last: the one that the last of these bytes ends, or, where the input ends behind them, what is left; 81
-- stands for more than 80, and 0 for no line too
abbrev pub last_length : Held → List ℕ → Bool → ℕ
last_length h bs closed = cond closed (held_end (anew (through h bs))).len (through h bs).len

-- the file has ended before the refused line: at its end more is counted than one line, the one that was left and the one that is missing
abbrev pub missing : ℕ → ℕ → Bool → Bool
missing before after closed = cond closed (not (after == counted_on before)) false

-- how many bytes the refused line has that was read in this turn, where `earlier` and h are what was read and held before it; 0 where none is
-- refused, and where it is missing
abbrev pub refused_length : Read → Held → Read → Bool → List ℕ → ℕ
refused_length earlier h r closed bs =
    cond (is_none r.refused) 0 (cond (missing earlier.line r.line closed) 0 (last_length h bs closed))

-- ---- the text
-- numbers, each with a comma before it
unfoldable pub listed : List ℕ → List ℕ
listed [] = []
listed (v ∷ more) = comma ∷ (text v ++ listed more)

-- which lines may come next, M, the first value, the threads, the thread of the last op line, and how long the refused line is
abbrev pub read_numbers : Read → ℕ → List ℕ
read_numbers r len = stage_no r.stage ∷ r.top ∷ r.first ∷ r.threads ∷ r.thread ∷ len ∷ []

-- the bytes of the refused line, or the first 80 of them
abbrev pub refused_bytes : ℕ → List ℕ → List ℕ
refused_bytes len line = take (min len longest) line

unfoldable pub read_text : Read → ℕ → List ℕ → List ℕ
read_text r len line = (bytes "read" ++ listed (read_numbers r len)) ++ (listed (refused_bytes len line) ++ break)
