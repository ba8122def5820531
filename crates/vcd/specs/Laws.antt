-- What is claimed of the text of a waveform: it can be written in pieces, and nothing is written that need not be.
use Rattle.std.specs.Prelude.{ℕ, ◌+◌, ◌<◌, ◌≤◌, ◌^◌, ◌≡◌, ◌≢◌, List, [], ◌∷◌, ◌++◌, length, replicate}
use Rattle.scenario_lines.specs.Ascii.{bytes}
use Rattle.vcd.specs.Binary.{binary}
use Rattle.vcd.specs.Blocks.{time_line, exc_line, rc_line, front, changed, time_bytes, changed_bytes, change_bytes, front_bytes, change}
use Rattle.vcd.specs.Wave.{at_first, next, time_of, counted, after, changes, close, waveform}
use Rattle.vcd.specs.declared.Signals.{Signals}
use Rattle.vcd.specs.declared.Wave.{Wave}

-- ---- pieces
-- what rows write is what the first of them write, followed by what the others write from where those ended
abbrev pub TwoPieces : Type 0
TwoPieces = (p : Wave) (xs ys : List Signals) → changes p (xs ++ ys) ≡ changes p xs ++ changes (after p xs) ys

abbrev pub AfterBoth : Type 0
AfterBoth = (p : Wave) (xs ys : List Signals) → after p (xs ++ ys) ≡ after (after p xs) ys

-- so the whole text is its opening, the pieces one behind the other, and the close from where the last ended
abbrev pub InPieces : Type 0
InPieces =
    (s : Signals) (xs ys : List Signals) → let p = after (at_first s) xs in
    waveform s (xs ++ ys) ≡ front s ++ (changes (at_first s) xs ++ (changes p ys ++ close (after p ys)))

-- ---- where the rows end
abbrev pub TimeIsRows : Type 0
TimeIsRows = (p : Wave) (xs : List Signals) → (after p xs).time ≡ p.time + length xs

-- a row more, as code counts it, is the next row as long as its time is a number of 64 bits
abbrev pub CountedIsNext : Type 0
CountedIsNext = (p : Wave) (x : Signals) → p.time + 1 < 2 ^ 64 → (counted p x ≡ next p x) × (time_of p ≡ p.time + 1)

-- rows that change nothing write nothing
abbrev pub StillRows : Type 0
StillRows =
    (p : Wave) (n : ℕ) → (changes p (replicate n p.signals) ≡ [])
    × (after p (replicate n p.signals) ≡ record { time = p.time + n; written = p.written; signals = p.signals })

-- the last time is not written again after a row that changed a signal, and is the close after one that did not
abbrev pub ClosedByChange : Type 0
ClosedByChange = (p : Wave) (xs : List Signals) (x : Signals) → x ≢ (after p xs).signals → close (after p (xs ++ (x ∷ []))) ≡ []

abbrev pub ClosedByTime : Type 0
ClosedByTime =
    (s : Signals) (xs : List Signals) (x : Signals) → x ≡ (after (at_first s) xs).signals
    → close (after (at_first s) (xs ++ (x ∷ []))) ≡ time_line (length xs + 1)

-- no row, no time but the first
abbrev pub ClosedAtFirst : Type 0
ClosedAtFirst = (s : Signals) → close (after (at_first s) []) ≡ []

-- ---- the most bytes
abbrev pub Short : Type 0
Short =
    ((t : ℕ) → length (time_line t) ≤ time_bytes)
    × ((s x : Signals) → length (changed s x) ≤ changed_bytes)
    × ((t : ℕ) (s x : Signals) → length (change t s x) ≤ change_bytes)
    × ((s : Signals) → length (front s) ≤ front_bytes)

-- ---- the edges, computed
abbrev pub Edges : Type 0
Edges =
    (binary 0 ≡ bytes "0") × (binary 1 ≡ bytes "1") × (binary 2 ≡ bytes "10")
    × (binary (2 ^ 63) ≡ bytes "1000000000000000000000000000000000000000000000000000000000000000")
    × (rc_line 0 ≡ bytes "b0 r\n") × (rc_line 5 ≡ bytes "b101 r\n") × (exc_line 0 ≡ bytes "0e\n") × (exc_line 1 ≡ bytes "1e\n")
    × (time_line 10 ≡ bytes "#10\n")
    -- where both change, exc comes first
    × (changed (record { exc = 0; rc = 0 }) (record { exc = 1; rc = 5 }) ≡ bytes "1e\nb101 r\n")
