-- A call with turns enough comes to rest, and one call has the rows of a whole file.
use Rattle.std.specs.Prelude.{ℕ, ◌+◌, ◌-◌, ◌*◌, ◌^◌, ◌≤◌, ◌≡◌, Bool, true, List, length, take}
use Rattle.scenario_read.specs.Feed.{World, fresh, most_words, next_of, feed, over}
use Rattle.scenario_read.specs.declared.Move.TheVariants.{Rest}
use Rattle.scenario_promises.specs.Session.{Roomy, handed, file_words, Session}

-- ---- how many moves are enough
-- the most entries that a line adds
abbrev pub most_times : ℕ
most_times = 65535

-- a line, or the end of the input, is one move, and each of its entries at most two: it is gathered, and it is run
abbrev pub line_moves : ℕ
line_moves = 1 + 2 * most_times

-- a line may end at each byte that is left, and the end of the input comes after them; entries of the line before may be left. Two moves come once
-- each: the setting up, and the run of entries that wait
abbrev pub enough : List ℕ → World → ℕ
enough chunk w = (length chunk - w.from + 1) * line_moves + 2 * w.state.read.run_left + 2

-- the turns of a call in code
abbrev pub all_turns : ℕ
all_turns = 2 ^ 64 - 1

-- a chunk, or a file, for which they are enough
abbrev pub most_bytes : ℕ
most_bytes = 2 ^ 46

-- ---- what is claimed
-- with turns enough nothing comes next, from every state and with all lists
abbrev pub ComesToRest : Type 0
ComesToRest = (chunk : List ℕ) (final : Bool) (turns : ℕ) (w : World) → enough chunk w ≤ turns → next_of chunk final (feed chunk final turns w) ≡ Rest

-- what the calls leave has no more entries than one line adds
abbrev pub FewLeft : Type 0
FewLeft = (bytes words : List ℕ) (w : World) → Session bytes words w → w.state.read.run_left ≤ most_times

-- so every call in code comes to rest
abbrev pub CallsRest : Type 0
CallsRest =
    (bytes words : List ℕ) (w : World) → Session bytes words w → (chunk : List ℕ) (final : Bool) (from : ℕ) (out : List ℕ) (at : ℕ) → length chunk ≤ most_bytes
    → next_of chunk final (feed chunk final all_turns (handed w from out at)) ≡ Rest

-- places for the rows of the file, and behind them for what a move may store
abbrev pub RoomFor : List ℕ → List ℕ → Type 0
RoomFor file out = length (file_words file) + most_words ≤ length out

-- all is out, and the list begins with the words of the file's rows
abbrev pub Whole : List ℕ → World → Type 0
Whole file after = (over after.state ≡ true) × (after.at ≡ length (file_words file)) × (take after.at after.out ≡ file_words file)

-- the whole file in one call, with turns enough
abbrev pub OneCall : Type 0
OneCall =
    (file : List ℕ) (turns : ℕ) (w : World) (out : List ℕ) → w.state ≡ fresh → Roomy w → RoomFor file out
    → enough file (handed w 0 out 0) ≤ turns
    → Whole file (feed file true turns (handed w 0 out 0))

-- and so in code
abbrev pub OneCallInCode : Type 0
OneCallInCode =
    (file : List ℕ) (w : World) (out : List ℕ) → w.state ≡ fresh → Roomy w → RoomFor file out → length file ≤ most_bytes
    → Whole file (feed file true all_turns (handed w 0 out 0))
