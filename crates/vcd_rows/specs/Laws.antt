-- What is claimed: rows may be cut anywhere; where there is room none is lost; and what the rows of a scenario file write is the waveform of them,
-- however the reader came to them.
use Rattle.std.specs.Prelude.{ℕ, ◌+◌, ◌*◌, ◌/◌, ◌^◌, ◌<◌, ◌≤◌, ◌≡◌, List, [], ◌∷◌, ◌++◌, length, Some}
use Rattle.std.proofs.lemmas.List.Edits.{sets}
use Rattle.machine.specs.Names.{row_words}
use Rattle.machine.specs.Run.{words_of}
use Rattle.machine.specs.declared.Row.{Row}
use Rattle.scenario.specs.Printed.{rows_in}
use Rattle.scenario_read.specs.Feed.{World}
use Rattle.scenario_promises.specs.Piped.{ComesTo}
use Rattle.vcd.specs.Blocks.{front, change_bytes}
use Rattle.vcd.specs.Wave.{at_first, close, waveform}
use Rattle.vcd.specs.Trace.{most_rows, row_signals, of_rows}
use Rattle.vcd.specs.Read.{found}
use Rattle.vcd.specs.declared.Signals.{Signals}
use Rattle.vcd.specs.declared.Wave.{Wave}
use Rattle.vcd_rows.specs.Waves.{left_by, text_by, left_of, stored_of}

-- the signals of rows, out of their words
abbrev pub SignalsOfRows : Type 0
SignalsOfRows = (rows : List Row) (rest : List ℕ) → row_signals (length rows) (words_of rows ++ rest) ≡ of_rows rows

-- however the rows are cut, they write the same
abbrev pub CutAnywhere : Type 0
CutAnywhere =
    (w : Wave) (a b : List Row)
    → (text_by w (of_rows (a ++ b)) ≡ text_by w (of_rows a) ++ text_by (left_by w (of_rows a)) (of_rows b))
    × (left_by w (of_rows (a ++ b)) ≡ left_by (left_by w (of_rows a)) (of_rows b))

-- where there are so many rows and what they change has room, all of it is stored
abbrev pub NoneLost : Type 0
NoneLost =
    (w : Wave) (rows : List ℕ) (n : ℕ) (out : List ℕ) (at : ℕ) → row_words * n ≤ length rows → at + change_bytes * n ≤ length out
    → (left_of w rows n out at ≡ record { wave = left_by w (row_signals n rows); at = at + length (text_by w (row_signals n rows)) })
    × (stored_of w rows n out at ≡ sets out at (text_by w (row_signals n rows)))

-- ---- a scenario file
-- as the lock is after setup
abbrev pub unlocked : Signals
unlocked = record { exc = 0; rc = 0 }

-- exc is 0 or 1 and rc is below 2 ^ 64
unfoldable pub Fit : List Row → Type 0
Fit [] = Unit {0}
Fit (row ∷ rows) = (row.exc ≤ 1) × (row.rc < 2 ^ 64) × Fit rows

abbrev pub FileFits : Type 0
FileFits = (file : List ℕ) → Fit (rows_in file)

-- the opening, what the rows write, and the close
abbrev pub wave_of : List ℕ → List ℕ
wave_of file = let w = at_first unlocked in let xs = of_rows (rows_in file) in front unlocked ++ (text_by w xs ++ close (left_by w xs))

-- they are the waveform of the file's rows
abbrev pub WaveOfFile : Type 0
WaveOfFile = (file : List ℕ) → length (rows_in file) < 2 ^ 64 → wave_of file ≡ waveform unlocked (of_rows (rows_in file))

-- so it is with the words that the reader stored, in whatever chunks the file came
abbrev pub WaveByReader : Type 0
WaveByReader =
    (file words : List ℕ) (w : World) → ComesTo file words w
    → let first = at_first unlocked in
    let xs = row_signals (length words / row_words) words in
    wave_of file ≡ front unlocked ++ (text_by first xs ++ close (left_by first xs))

-- and the reader of waveforms finds the flag and the count of every row in it
abbrev pub FoundInWave : Type 0
FoundInWave = (file : List ℕ) → length (rows_in file) ≤ most_rows → found (wave_of file) ≡ Some (unlocked ∷ of_rows (rows_in file))
