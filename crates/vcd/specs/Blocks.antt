-- A waveform's lines and blocks, as a four-state VCD has them. docs/DECISIONS.md gives the clause of IEEE Std 1364-2005 that each follows.
use Rattle.std.specs.Prelude.{ℕ, Bool, ◌&&◌, cond, List, [], ◌++◌, eqb}
use Rattle.scenario_lines.specs.Ascii.{bytes}
use Rattle.scenario_text.specs.Number.{text}
use Rattle.vcd.specs.Binary.{binary}
use Rattle.vcd.specs.declared.Signals.{Signals}

-- ---- lines
unfoldable pub time_line : ℕ → List ℕ
time_line t = bytes "#" ++ (text t ++ bytes "\n")

-- one bit
unfoldable pub exc_line : ℕ → List ℕ
exc_line v = cond (eqb v 0) (bytes "0e\n") (bytes "1e\n")

-- 64 bits
unfoldable pub rc_line : ℕ → List ℕ
rc_line v = bytes "b" ++ (binary v ++ bytes " r\n")

-- ---- the opening, and both signals at time 0
unfoldable pub opening : List ℕ
opening =
    bytes "$timescale 1 ns $end\n$scope module lock $end\n$var wire 1 e exc $end\n$var wire 64 r rc $end\n$upscope $end\n$enddefinitions $end\n"

unfoldable pub dump : Signals → List ℕ
dump s = bytes "#0\n$dumpvars\n" ++ (exc_line s.exc ++ (rc_line s.rc ++ bytes "$end\n"))

unfoldable pub front : Signals → List ℕ
front s = opening ++ dump s

-- ---- a row
abbrev pub same : Signals → Signals → Bool
same s x = eqb s.exc x.exc && eqb s.rc x.rc

-- the signals after a row, those alone that changed
unfoldable pub changed : Signals → Signals → List ℕ
changed s x = cond (eqb s.exc x.exc) [] (exc_line x.exc) ++ cond (eqb s.rc x.rc) [] (rc_line x.rc)

-- a row that changes nothing writes nothing, not its time either
unfoldable pub change : ℕ → Signals → Signals → List ℕ
change t s x = cond (same s x) [] (time_line t ++ changed s x)

-- ---- the most bytes of each
abbrev pub time_bytes : ℕ
time_bytes = 22

abbrev pub changed_bytes : ℕ
changed_bytes = 71

abbrev pub change_bytes : ℕ
change_bytes = 93

abbrev pub front_bytes : ℕ
front_bytes = 215
