-- Call after call: the bytes that were taken and the rows, as words, that were stored so far. Once all is out, the rows are those of the bytes as a file.
use Rattle.std.specs.Prelude.{ℕ, ◌+◌, ◌-◌, ◌%◌, ◌≤◌, ◌≡◌, ◌⊎◌, Bool, true, false, List, [], ◌++◌, length, take, drop}
use Rattle.scenario_lines.specs.Bytes.{longest}
use Rattle.machine.specs.Run.{words_of}
use Rattle.scenario.specs.Printed.{reading_of, rows_in}
use Rattle.scenario.specs.Names.{counted_to}
use Rattle.scenario.specs.Pieces.{at_first, after_piece}
use Rattle.scenario_stages.specs.Means.{Room, noted}
use Rattle.scenario_pieces.specs.Piece.{most_entries}
use Rattle.scenario_pieces.specs.Stands.{listed}
use Rattle.scenario_read.specs.Feed.{World, fresh, most_words, lent_in, next_of, feed, over}
use Rattle.scenario_read.specs.declared.Move.TheVariants.{Close, Rest}

-- a line of 80 bytes, places for 16 scripts of 64 operations, and for a whole piece
pub record Roomy (w : World) : Type 0 where
  pub line : length w.line ≡ longest
  pub lists : Room w.lens w.ops w.vals
  pub schedule : most_entries ≤ length w.schedule

-- what is handed to a call: any chunk, from a place on, and any list for the rows, from a place on; all else is as the call before left it
abbrev pub handed : World → ℕ → List ℕ → ℕ → World
handed w from out at =
    record {
      state = w.state;
      standing = w.standing;
      line = w.line;
      lens = w.lens;
      ops = w.ops;
      vals = w.vals;
      schedule = w.schedule;
      from = from;
      out = out;
      at = at;
    }

-- what a call took of the chunk, and the words that it stored
abbrev pub took : List ℕ → ℕ → World → List ℕ
took chunk from after = take (after.from - from) (drop from chunk)

abbrev pub wrote : ℕ → World → List ℕ
wrote at after = take (after.at - at) (drop at after.out)

-- the bytes taken and the words stored so far, and what the calls left
pub data Session : List ℕ → List ℕ → World → Type 0 where
  begins : (w : World) → w.state ≡ fresh → Roomy w → Session [] [] w
  calls : {bytes words : List ℕ} {w : World} → Session bytes words w
      → (chunk : List ℕ) (final : Bool) (turns from : ℕ) (out : List ℕ) (at : ℕ) (after : World) → after ≡ feed chunk final turns (handed w from out at)
      → Session (bytes ++ took chunk from after) (words ++ wrote at after) after

-- ---- what is claimed
-- what may come after the bytes so far: after the end of the input nothing
abbrev pub MayCome : World → List ℕ → Type 0
MayCome w others = w.state.closed ≡ true → others ≡ []

-- the rows of a file, as words
abbrev pub file_words : List ℕ → List ℕ
file_words file = words_of (rows_in file)

-- once all is out, the words are those of the bytes' rows, whatever comes after them
abbrev pub RowsAll : Type 0
RowsAll =
    (bytes words : List ℕ) (w : World) → Session bytes words w → over w.state ≡ true → (others : List ℕ) → MayCome w others
    → words ≡ file_words (bytes ++ others)

-- then the refusal is that of the file, with its line
abbrev pub RefusedSo : Type 0
RefusedSo =
    (bytes words : List ℕ) (w : World) → Session bytes words w → over w.state ≡ true → (others : List ℕ) → MayCome w others
    → let r = w.state.read in
    (r.refused ≡ noted (reading_of (bytes ++ others)).refused) × (r.line ≡ (reading_of (bytes ++ others)).line % counted_to)

-- and the lock and the records are what the whole schedule leaves of them, where there is a run line
abbrev pub StandsSo : Type 0
StandsSo =
    (bytes words : List ℕ) (w : World) → Session bytes words w → over w.state ≡ true → (others : List ℕ) → MayCome w others
    → w.state.stood ≡ true
    → let s = (reading_of (bytes ++ others)).scenario in
    listed (lent_in w) w.standing ≡ after_piece s.lent (at_first s) s.schedule

-- so however the bytes of a file are cut, how many of them were taken, and wherever the rows go, they are the same rows
abbrev pub CutAlike : Type 0
CutAlike =
    (bytes bytes' words words' : List ℕ) (w w' : World) → Session bytes words w → Session bytes' words' w' → over w.state ≡ true → over w'.state ≡ true
    → (others others' : List ℕ) → MayCome w others → MayCome w' others' → bytes ++ others ≡ bytes' ++ others'
    → words ≡ words'

-- at any time the words are the beginning of those, whatever comes after the bytes
abbrev pub RowsOn : Type 0
RowsOn =
    (bytes words : List ℕ) (w : World) → Session bytes words w → (others : List ℕ) → MayCome w others
    → (rest : List ℕ) × (file_words (bytes ++ others) ≡ words ++ rest)

-- where there is room, a call rests only when all is out, or when it has taken the whole chunk and another may come
abbrev pub RestsLate : Type 0
RestsLate =
    (chunk : List ℕ) (final : Bool) (w : World) → next_of chunk final w ≡ Rest → w.at + most_words ≤ length w.out
    → (over w.state ≡ true) ⊎ ((length chunk ≤ w.from) × (final ≡ false))

-- the end of the input is taken only where the chunk is all taken and `final` is said
abbrev pub ClosesLast : Type 0
ClosesLast = (chunk : List ℕ) (final : Bool) (w : World) → next_of chunk final w ≡ Close → (length chunk ≤ w.from) × (final ≡ true)

-- so a call that does not say it does not take the end
abbrev pub StaysOpen : Type 0
StaysOpen =
    (chunk : List ℕ) (turns : ℕ) (w after : World) → after ≡ feed chunk false turns w → after.state.closed ≡ w.state.closed

-- a call never goes back in the chunk or in the rows, nor beyond their ends, and what stands before its place in the rows, and
-- behind the place that it leaves, stays
abbrev pub GoesOn : Type 0
GoesOn =
    (chunk : List ℕ) (final : Bool) (turns : ℕ) (w after : World) → after ≡ feed chunk final turns w
    → (w.from ≤ after.from)
    × (w.at ≤ after.at)
    × (length after.out ≡ length w.out)
    × (take w.at after.out ≡ take w.at w.out)
    × (w.from ≤ length chunk → after.from ≤ length chunk)
    × (w.at ≤ length w.out → after.at ≤ length after.out)
    × (drop after.at after.out ≡ drop after.at w.out)
