-- The trace of case A as a waveform, byte for byte; files that are no waveform by one line or byte; and the numbers at their limits. All computed.
use Rattle.std.specs.Prelude.{ℕ, ◌+◌, true, ◌≡◌, List, [], ◌∷◌, ◌++◌, drop, None, Some, is_some, Ok, Err}
use Rattle.scenario_lines.specs.Ascii.{bytes}
use Rattle.vcd.specs.Blocks.{time_line, opening, front}
use Rattle.vcd.specs.Wave.{waveform}
use Rattle.vcd.specs.Trace.{most_rows}
use Rattle.vcd.specs.Write.{wrong, file_of, written, written_in}
use Rattle.vcd.specs.Read.{block_at, found, read, read_in}
use Rattle.vcd.specs.declared.Signals.{Signals}
use Rattle.vcd.specs.declared.Refusal.TheVariants.{NoRoom, NoTrace}

abbrev pub none : Signals
none = record { exc = 0; rc = 0 }

abbrev pub five : Signals
five = record { exc = 0; rc = 5 }

-- ---- case A
-- its six rows: thread, access, answer, got, exc, rc
abbrev pub trace_a : List ℕ
trace_a =
    0 ∷ 1 ∷ 0 ∷ 0 ∷ 0 ∷ 0
    ∷ 0 ∷ 2 ∷ 0 ∷ 0 ∷ 0 ∷ 1
    ∷ 0 ∷ 3 ∷ 0 ∷ 0 ∷ 0 ∷ 1
    ∷ 0 ∷ 5 ∷ 0 ∷ 5 ∷ 0 ∷ 1
    ∷ 0 ∷ 6 ∷ 0 ∷ 1 ∷ 0 ∷ 0
    ∷ 0 ∷ 0 ∷ 12 ∷ 0 ∷ 0 ∷ 0
    ∷ []

-- rows 1 and 4 change the count, at the times 2 and 5; row 5 changes nothing, and its time is the last
abbrev pub CaseA : Type 0
CaseA =
    file_of trace_a none
    ≡ bytes "$timescale 1 ns $end\n$scope module lock $end\n$var wire 1 e exc $end\n$var wire 64 r rc $end\n$upscope $end\n$enddefinitions $end\n"
    ++ bytes "#0\n$dumpvars\n0e\nb0 r\n$end\n#2\nb1 r\n#5\nb0 r\n#6\n"

-- ---- found
-- behind the opening and the signals none
abbrev pub behind_front : List ℕ → List ℕ
behind_front l = front none ++ l

-- in this order: the signals of time 0 are those that stand there; a row, and a last time without a change; then what is refused: a time for the second
-- time, a time without a change in the middle, another first byte, no signals of time 0
abbrev pub FoundEdges : Type 0
FoundEdges =
    (found (waveform five []) ≡ Some (five ∷ []))
    × (found (behind_front (bytes "#1\nb101 r\n#3\n")) ≡ Some (none ∷ five ∷ five ∷ five ∷ []))
    × (found (behind_front (bytes "#1\nb101 r\n#1\nb0 r\n")) ≡ None)
    × (found (behind_front (bytes "#1\n#2\nb101 r\n")) ≡ None)
    × (found (bytes " " ++ drop 1 (front none)) ≡ None)
    × (found opening ≡ None)

-- the last time that a trace has, and the next
abbrev pub LastTime : Type 0
LastTime = (is_some (block_at 0 none (time_line most_rows)) ≡ true) × (block_at 0 none (time_line (most_rows + 1)) ≡ None)

-- a row's flag is its fifth word, its count the sixth: access 7 puts the flag up while two readers are counted
abbrev pub FlagUp : Type 0
FlagUp = file_of (3 ∷ 7 ∷ 0 ∷ 0 ∷ 1 ∷ 2 ∷ []) (record { exc = 0; rc = 2 }) ≡ front (record { exc = 0; rc = 2 }) ++ bytes "#1\n1e\n"

-- ---- read: two words are room for the signals of time 0 alone, which are no row, and the word behind them stays; in a refusal all stay
abbrev pub ReadEdges : Type 0
ReadEdges =
    (read (waveform five []) 2 ≡ Ok 0)
    × (read_in (waveform (record { exc = 1; rc = 5 }) []) (7 ∷ 7 ∷ 7 ∷ []) ≡ 1 ∷ 5 ∷ 7 ∷ [])
    × (read (waveform five []) 1 ≡ Err NoRoom)
    × (read_in (waveform five []) (7 ∷ []) ≡ 7 ∷ [])

-- ---- written: 152 bytes are just room for no rows; a flag of 2, no whole row in a list without room; in a refusal the list stays
abbrev pub WrittenEdges : Type 0
WrittenEdges =
    (written [] none 152 ≡ Ok 152)
    × (written [] none 151 ≡ Err NoRoom)
    × (wrong [] (record { exc = 2; rc = 0 }) ≡ true)
    × (written (1 ∷ []) none 0 ≡ Err NoTrace)
    × (written_in (1 ∷ []) none (7 ∷ []) ≡ 7 ∷ [])
