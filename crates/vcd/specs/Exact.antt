-- What is claimed of the writer and the reader: the reader takes exactly what the writer writes for some signals, and gives them back.
use Rattle.std.specs.Prelude.{ℕ, ◌+◌, ◌*◌, ◌/◌, ◌%◌, ◌^◌, ◌<◌, ◌≤◌, ◌≡◌, ◌≢◌, ◌⊎◌, ◌↔◌, true, false, List, [], ◌∷◌, length, get_or, take, drop, Some, Ok, Err, MatchResult}
use Rattle.machine.specs.Names.{row_words}
use Rattle.machine.specs.Run.{words_of}
use Rattle.machine.specs.declared.Row.{Row}
use Rattle.vcd.specs.Wave.{waveform}
use Rattle.vcd.specs.Trace.{signals_in, of_rows, Lendable, words}
use Rattle.vcd.specs.Write.{wrong, file_of, written, written_in}
use Rattle.vcd.specs.Read.{found, read, read_in}
use Rattle.vcd.specs.Refusals.{number_of}
use Rattle.vcd.specs.declared.Signals.{Signals}
use Rattle.vcd.specs.declared.Refusal.{Refusal}
use Rattle.vcd.specs.declared.Refusal.TheVariants.{NoRoom, NoWave, NoTrace}

-- ---- exactly the files
-- every waveform is found, with its signals
abbrev pub FindsAll : Type 0
FindsAll = (s : Signals) (xs : List Signals) → Lendable s xs → found (waveform s xs) ≡ Some (s ∷ xs)

-- whatever is found, the file is its waveform
abbrev pub FindsOnly : Type 0
FindsOnly =
    (file : List ℕ) (all : List Signals) → found file ≡ Some all
    → (s : Signals) × (xs : List Signals) × (all ≡ s ∷ xs) × Lendable s xs × (file ≡ waveform s xs)

-- different signals have different texts
abbrev pub Different : Type 0
Different =
    (s s' : Signals) (xs xs' : List Signals) → Lendable s xs → Lendable s' xs' → waveform s xs ≡ waveform s' xs' → (s ≡ s') × (xs ≡ xs')

-- ---- traces and signals
-- the signals of the words that a run writes are the flag and the count of its rows
abbrev pub OfWords : Type 0
OfWords = (rows : List Row) → signals_in (words_of rows) ≡ of_rows rows

-- the signals of a trace that the writer takes can be lent; words are below 2 ^ 64, and a list has fewer than 2 ^ 64 of them
abbrev pub AllBelow : List ℕ → Type 0
AllBelow [] = Unit {0}
AllBelow (v ∷ l) = (v < 2 ^ 64) × AllBelow l

abbrev pub TraceLendable : Type 0
TraceLendable =
    (trace : List ℕ) (s : Signals) → length trace < 2 ^ 64 → AllBelow trace → s.rc < 2 ^ 64 → wrong trace s ≡ false → Lendable s (signals_in trace)

-- and all signals that can be lent are those of such a trace
abbrev pub EachHasTrace : Type 0
EachHasTrace =
    (s : Signals) (xs : List Signals) → Lendable s xs
    → (trace : List ℕ) × (length trace < 2 ^ 64) × AllBelow trace × (wrong trace s ≡ false) × (signals_in trace ≡ xs)

-- ---- written, then read
-- the text that was written is read back as the signals, for every trace that the writer takes: out is the list before it, and the reader is given
-- what was written and any list with room
abbrev pub WrittenIsRead : Type 0
WrittenIsRead =
    (trace : List ℕ) (s : Signals) (out into : List ℕ) → length trace < 2 ^ 64 → AllBelow trace → s.rc < 2 ^ 64
    → (n : ℕ) → written trace s (length out) ≡ Ok n
    → let file = take n (written_in trace s out) in
    2 * (length (signals_in trace) + 1) ≤ length into
    → (file ≡ waveform s (signals_in trace))
    × (read file (length into) ≡ Ok (length (signals_in trace)))
    × (take (2 * (length (signals_in trace) + 1)) (read_in file into) ≡ words (s ∷ signals_in trace))

-- ---- the refusals, each exactly where it is due
-- the numbers that are printed for them
abbrev pub Numbers : Type 0
Numbers = (number_of NoRoom ≡ 41) × (number_of NoWave ≡ 42) × (number_of NoTrace ≡ 43)

-- so a number tells which refusal it was
abbrev pub NumbersDiffer : Type 0
NumbersDiffer = (a b : Refusal) → number_of a ≡ number_of b → a ≡ b

-- what is wrong with a trace: no whole rows, a starting flag above 1, or a row's
abbrev pub Wrong : List ℕ → Signals → Type 0
Wrong trace s =
    (length trace % row_words ≢ 0)
    ⊎ ((1 < s.exc) ⊎ ((k : ℕ) × (k < length trace / row_words) × (1 < get_or trace (row_words * k + 4) 0)))

abbrev pub WrongExactly : Type 0
WrongExactly = (trace : List ℕ) (s : Signals) → (wrong trace s ≡ true → Wrong trace s) × (Wrong trace s → wrong trace s ≡ true)

abbrev pub Writer43 : Type 0
Writer43 = (trace : List ℕ) (s : Signals) (room : ℕ) → (written trace s room ≡ Err NoTrace) ↔ (wrong trace s ≡ true)

abbrev pub Writer41 : Type 0
Writer41 =
    (trace : List ℕ) (s : Signals) (room : ℕ)
    → (written trace s room ≡ Err NoRoom → (wrong trace s ≡ false) × (room < length (file_of trace s)))
    × (wrong trace s ≡ false → room < length (file_of trace s) → written trace s room ≡ Err NoRoom)

-- otherwise it is written: so many bytes, and they are the text
abbrev pub WriterTakes : Type 0
WriterTakes =
    (trace : List ℕ) (s : Signals) (out : List ℕ) → wrong trace s ≡ false → length (file_of trace s) ≤ length out
    → let n = length (file_of trace s) in
    (written trace s (length out) ≡ Ok n) × (take n (written_in trace s out) ≡ file_of trace s)

-- the file has no signals
abbrev pub NoSignals : List ℕ → Type 0
NoSignals file = (s : Signals) (xs : List Signals) → Lendable s xs → file ≢ waveform s xs

abbrev pub Reader42 : Type 0
Reader42 = (file : List ℕ) (room : ℕ) → (read file room ≡ Err NoWave) ↔ NoSignals file

-- it has signals, and they have no room
abbrev pub TooMany : List ℕ → ℕ → Type 0
TooMany file room = (s : Signals) × (xs : List Signals) × Lendable s xs × (file ≡ waveform s xs) × (room < 2 * (length xs + 1))

abbrev pub Reader41 : Type 0
Reader41 = (file : List ℕ) (room : ℕ) → (read file room ≡ Err NoRoom) ↔ TooMany file room

-- otherwise it is read: so many rows, and their signals in the first words
abbrev pub ReaderTakes : Type 0
ReaderTakes =
    (s : Signals) (xs : List Signals) (into : List ℕ) → Lendable s xs → 2 * (length xs + 1) ≤ length into
    → let file = waveform s xs in
    (read file (length into) ≡ Ok (length xs))
    × (take (2 * (length xs + 1)) (read_in file into) ≡ words (s ∷ xs))
    × (drop (2 * (length xs + 1)) (read_in file into) ≡ drop (2 * (length xs + 1)) into)

-- and whatever is read is the text of the signals that are given: so many rows, and these words
abbrev pub ReaderOnly : Type 0
ReaderOnly =
    (file into : List ℕ) (n : ℕ) → read file (length into) ≡ Ok n
    → (s : Signals) × (xs : List Signals)
    × Lendable s xs
    × (file ≡ waveform s xs)
    × (n ≡ length xs)
    × (take (2 * (length xs + 1)) (read_in file into) ≡ words (s ∷ xs))

-- in a refusal nothing is written
abbrev pub RefusedWriter : Type 0
RefusedWriter = (trace : List ℕ) (s : Signals) (out : List ℕ) (why : Refusal) → written trace s (length out) ≡ Err why → written_in trace s out ≡ out

abbrev pub RefusedReader : Type 0
RefusedReader = (file : List ℕ) (out : List ℕ) (why : Refusal) → read file (length out) ≡ Err why → read_in file out ≡ out

-- and behind what is written the bytes stay; all of them in a refusal
abbrev pub BytesBehind : Type 0
BytesBehind =
    (trace : List ℕ) (s : Signals) (out : List ℕ)
    → MatchResult (written trace s (length out)) (λ n. drop n (written_in trace s out) ≡ drop n out) (λ why. written_in trace s out ≡ out)
