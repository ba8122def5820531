-- The lines that are printed: the header, a row, a refusal.
use Rattle.std.specs.Prelude.{ℕ, List, [], ◌∷◌, ◌++◌}
use Rattle.scenario_lines.specs.Ascii.{bytes}
use Rattle.scenario_lines.specs.Judge.{comma}
use Rattle.machine.specs.declared.Row.{Row}
use Rattle.scenario_text.specs.Number.{text}

abbrev pub break : List ℕ
break = bytes "\r\n"

-- numbers, each with a comma after it
unfoldable pub fields : List ℕ → List ℕ
fields [] = []
fields (v ∷ more) = text v ++ (comma ∷ fields more)

-- the last number of a line
unfoldable pub last_field : ℕ → List ℕ
last_field v = text v ++ break

unfoldable pub header : List ℕ
header = bytes "n,thread,access,answer,got,exc,rc\r\n"

-- row n
unfoldable pub row_text : ℕ → Row → List ℕ
row_text n row = fields (n ∷ row.thread ∷ row.access ∷ row.answer ∷ row.got ∷ row.exc ∷ []) ++ last_field row.rc

-- a line of four numbers
unfoldable pub four_text : ℕ → ℕ → ℕ → ℕ → List ℕ
four_text a b c d = fields (a ∷ b ∷ c ∷ []) ++ last_field d

-- the refusal's number, and the line at which it is given
unfoldable pub refusal : ℕ → ℕ → List ℕ
refusal number line = bytes "refused," ++ (fields (number ∷ []) ++ last_field line)
