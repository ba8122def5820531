-- What is claimed of the length: the bytes may be cut anywhere, and what is held after them is what the reader holds, line after line.
use Rattle.std.specs.Prelude.{◌≡◌, ℕ, false, List, ◌++◌, drop}
use Rattle.scenario_lines.specs.Held.{took}
use Rattle.scenario_lines.specs.declared.bytes.Held.{Held}
use Rattle.program_told.specs.Told.{through}

abbrev pub CutAnywhere : Type 0
CutAnywhere = (h : Held) (a b : List ℕ) → through h (a ++ b) ≡ through (through h a) b

-- bytes that the reader takes for a line, whatever its places hold, and then the others
abbrev pub AsTaken : Type 0
AsTaken = (h : Held) (l bs : List ℕ) → h.done ≡ false → let t = took bs l h in through h bs ≡ through t.held (drop t.used bs)
