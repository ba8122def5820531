-- What a scenario file prints: the header, the rows of its whole schedule, and, where it is refused, the refusal with its line.
use Rattle.std.specs.Prelude.{ℕ, ◌+◌, ◌%◌, cond, List, [], ◌∷◌, ◌++◌, eqb, ltb}
use Rattle.machine.specs.Words.{unused}
use Rattle.machine.specs.Lists.{scripts_of}
use Rattle.machine.specs.Setup.{fresh}
use Rattle.machine.specs.Run.{run}
use Rattle.machine.specs.declared.Row.{Row}
use Rattle.scenario_text.specs.Lines.{header, row_text, refusal}
use Rattle.scenario_lines.specs.Lines.{whole}
use Rattle.scenario_lines.specs.Judge.{judge}
use Rattle.scenario.specs.Names.{wrong_line, counted_to}
use Rattle.scenario.specs.Scenario.{Scenario, nothing, taken}
use Rattle.scenario.specs.Refused.{stage_no, refusal_of}

-- ---- reading
pub record Reading : Type 0 where
  -- how many lines were read
  pub line : ℕ
  -- the number of the refusal, 0 for none; it is at the line counted
  pub refused : ℕ
  -- what was read before it
  pub scenario : Scenario

abbrev pub reading : ℕ → ℕ → Scenario → Reading
reading line refused s = record { line = line; refused = refused; scenario = s }

abbrev pub start : Reading
start = reading 0 0 nothing

-- after a line with the refusal k, 0 for none
abbrev pub after_line : ℕ → ℕ → Scenario → Scenario → Reading
after_line k line before after = reading (line + 1) k (cond (eqb k 0) after before)

-- a refusal ends the file
unfoldable pub next : Reading → List ℕ → Reading
next r l =
    let s = r.scenario in
    cond (eqb r.refused 0) (after_line (refusal_of s (judge l)) r.line s (taken s (judge l))) r

-- a missing header, lock or pred line is refused at the line after the last
unfoldable pub ended : Reading → Reading
ended r = cond (eqb r.refused 0) (cond (ltb (stage_no r.scenario.stage) 3) (reading (r.line + 1) wrong_line r.scenario) r) r

-- ---- printing
-- the rows of the whole schedule, from setup
abbrev pub rows_of : Scenario → List Row
rows_of s = (run (scripts_of s.lent) (unused s.pred s.top s.first) (fresh s.threads) s.schedule).rows

-- rows as text, numbered from n on
unfoldable pub rows_text : ℕ → List Row → List ℕ
rows_text n [] = []
rows_text n (row ∷ rows) = row_text (n % counted_to) row ++ rows_text (n + 1) rows

abbrev pub refusal_text : Reading → List ℕ
refusal_text r = cond (eqb r.refused 0) [] (refusal r.refused (r.line % counted_to))

unfoldable pub output : Reading → List ℕ
output r = header ++ (rows_text 0 (rows_of r.scenario) ++ refusal_text r)

-- ---- a file
-- its bytes, and the reading that they come to
unfoldable pub reading_of : List ℕ → Reading
reading_of file = ended (whole next start file)

-- its rows
abbrev pub rows_in : List ℕ → List Row
rows_in file = rows_of (reading_of file).scenario

-- and the bytes that it prints
unfoldable pub printed : List ℕ → List ℕ
printed file = output (reading_of file)
