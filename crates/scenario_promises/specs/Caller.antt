-- A caller who hands over a file chunk after chunk, and empties one list for the words of each call: after so many turns all is out, and it has what the file comes to.
use Rattle.std.specs.Prelude.{ℕ, zero, suc, ◌+◌, ◌≤◌, ◌≡◌, Bool, true, false, cond, leb, length}
use mathlib.Core.List.{List, [], ◌∷◌, ◌++◌, flatten}
use Rattle.scenario_read.specs.Feed.{World, fresh, most_words, feed, over}
use Rattle.scenario_promises.specs.Session.{Roomy, handed, wrote, file_words}
use Rattle.scenario_promises.specs.Whole.{all_turns, most_bytes}
use Rattle.scenario_promises.specs.Piped.{ComesTo}

-- the chunk in hand and those that come after it, the words of all calls, and what the last of them left
pub record Caller : Type 0 where
  pub chunk : List ℕ
  pub later : List (List ℕ)
  pub words : List ℕ
  pub left : World

-- the chunk in hand is said to be the last where none comes after it
abbrev pub is_last : List (List ℕ) → Bool
is_last [] = true
is_last (chunk ∷ later) = false

-- a call for a chunk, from a place on
abbrev pub called : List ℕ → List ℕ → List (List ℕ) → List ℕ → World → ℕ → Caller
called out chunk later words w from =
    let after = feed chunk (is_last later) all_turns (handed w from out 0) in
    record { chunk = chunk; later = later; words = words ++ wrote 0 after; left = after }

abbrev pub next : List ℕ → Caller → List (List ℕ) → Caller
next out c [] = c
next out c (chunk ∷ later) = called out chunk later c.words c.left 0

-- a turn: none where all is out; the next chunk where the call before left room; or the same again
abbrev pub turn : List ℕ → Caller → Caller
turn out c =
    cond (over c.left.state) c
    (cond (leb (c.left.at + most_words) (length c.left.out)) (next out c c.later)
    (called out c.chunk c.later c.words c.left c.left.from))

unfoldable pub turns : ℕ → List ℕ → Caller → Caller
turns zero out c = c
turns (suc n) out c = turns n out (turn out c)

-- chunks for which the turns of a call are enough
unfoldable pub Short : List (List ℕ) → Type 0
Short [] = Unit {0}
Short (chunk ∷ chunks) = (length chunk ≤ most_bytes) × Short chunks

-- all is out, and it is what the chunks come to as one file: the words of its rows, its refusal with its line or its end, the scripts, the lock and the records
abbrev pub Ended : List (List ℕ) → Caller → Type 0
Ended file c = (over c.left.state ≡ true) × ComesTo (flatten file) c.words c.left

-- ---- what is claimed
-- however a file is cut, and with any list that has room for what a move may store, as many turns are enough as there are chunks and words
abbrev pub CallerEnds : Type 0
CallerEnds =
    (w : World) (chunk : List ℕ) (later : List (List ℕ)) (out : List ℕ) (n : ℕ) → w.state ≡ fresh → Roomy w → Short (chunk ∷ later) → most_words ≤ length out
    → length (chunk ∷ later) + length (file_words (flatten (chunk ∷ later))) ≤ n
    → Ended (chunk ∷ later) (turns n out (called out chunk later [] w 0))
