-- A scenario that arrives through a pipe, in the words of the request: whatever way its bytes are cut, chunks of no bytes among them, it comes to the
-- same rows, the same refusal with its line, and the same end as the file read at once; and after a refusal nothing changes any more.
use Rattle.std.specs.Prelude.{ℕ, suc, ◌+◌, ◌%◌, ◌≤◌, ◌≡◌, ◌≢◌, Bool, true, false, ◌&&◌, not, cond, eqb, leb, length, None, unwrap_or}
use mathlib.Core.List.{List, [], ◌++◌, flatten}
use Rattle.scenario_lines.specs.Bytes.{longest, feed as feed_bytes}
use Rattle.scenario_lines.specs.Laws.{means}
use Rattle.scenario.specs.Names.{counted_to}
use Rattle.scenario.specs.Refused.{at as is_at, stage_no}
use Rattle.scenario.specs.Printed.{Reading, next, reading_of}
use Rattle.scenario.specs.ByBytes.{unread}
use Rattle.scenario.specs.Pieces.{Standing as Listed, at_first, after_piece}
use Rattle.scenario.specs.declared.Stage.TheVariants.{Runs}
use Rattle.scenario_stages.specs.Kept.{outline}
use Rattle.scenario_pieces.specs.Piece.{first_of}
use Rattle.scenario_pieces.specs.Stands.{listed}
use Rattle.scenario_pieces.specs.declared.Standing.{Standing}
use Rattle.scenario_read.specs.Feed.{World, fresh, most_words, lent_in, next_of, feed, over, stop_of, is_end, is_full}
use Rattle.scenario_read.specs.declared.State.{State}
use Rattle.scenario_read.specs.declared.Move.TheVariants.{Rest}
use Rattle.scenario_read.specs.declared.Stop.{Stop}
use Rattle.scenario_read.specs.declared.Stop.TheVariants.{Wants, Full, Refused, Over}
use Rattle.scenario_promises.specs.Session.{Roomy, handed, wrote, file_words, Session}
use Rattle.scenario_promises.specs.Whole.{all_turns, most_bytes, RoomFor}
use Rattle.scenario_promises.specs.Chunks.{RoomLeft, Stopped, HandedOver, MayFollow}

-- ---- what a file comes to
-- how its reading ends: refused with a number at a line, or over
abbrev pub end_of_file : List ℕ → Stop
end_of_file file = cond (eqb (reading_of file).refused 0) Over (Refused (reading_of file).refused ((reading_of file).line % counted_to))

-- the lock and the records as its whole schedule leaves them
abbrev pub left_by_file : List ℕ → Listed
left_by_file file = let s = (reading_of file).scenario in after_piece s.lent (at_first s) s.schedule

-- the standing, or, before the first entry, the one that the lock is set up with
abbrev pub standing_of : State → Standing → Standing
standing_of s p = cond s.stood p (first_of s.read.pred s.read.top s.read.first)

abbrev pub standing_in : World → Standing
standing_in w = standing_of w.state w.standing

-- `words` are the words of all its rows, and w is what they leave
pub record ComesTo (file words : List ℕ) (w : World) : Type 0 where
  pub rows : words ≡ file_words file
  -- why the last call rests, whatever room is left
  pub end : (room at : ℕ) → stop_of w.state room at ≡ end_of_file file
  -- from the pred line on the scripts stand in the first places of the lists
  pub scripts : 3 ≤ stage_no (reading_of file).scenario.stage → lent_in w ≡ (reading_of file).scenario.lent
  -- a lock was set up where there is a run line, and it and the records are what the schedule leaves
  pub stood : w.state.stood ≡ is_at (reading_of file).scenario.stage Runs
  pub left : w.state.stood ≡ true → listed (lent_in w) w.standing ≡ left_by_file file
  -- with and without a run line, from the pred line on
  pub stands : 3 ≤ stage_no (reading_of file).scenario.stage → listed (lent_in w) (standing_in w) ≡ left_by_file file

-- ---- any cutting of the same bytes
-- chunk after chunk: once all is out, the file is the chunks so far and whatever may come after them. A file that is refused early is told here before its
-- last chunk is handed over, so nothing is asked of `final`
abbrev pub ByChunks : Type 0
ByChunks =
    (chunks : List (List ℕ)) (chunk : List ℕ) (final : Bool) (n : ℕ) (words : List ℕ) (w : World) → HandedOver chunks chunk final n words w
    → over w.state ≡ true → (later : List (List ℕ)) → MayFollow final later
    → ComesTo (flatten (chunks ++ later)) words w

-- and all is out once the last chunk is said to be it and the call leaves room
abbrev pub LastChunk : Type 0
LastChunk =
    (chunks : List (List ℕ)) (chunk : List ℕ) (n : ℕ) (words : List ℕ) (w : World) → HandedOver chunks chunk true n words w → RoomLeft w
    → (over w.state ≡ true) × ComesTo (flatten chunks) words w

-- at once, into one list
abbrev pub AtOnce : Type 0
AtOnce =
    (file : List ℕ) (w : World) (out : List ℕ) → w.state ≡ fresh → Roomy w → RoomFor file out → length file ≤ most_bytes
    → let after = feed file true all_turns (handed w 0 out 0) in ComesTo file (wrote 0 after) after

-- so two cuttings of a file come to the same
pub record Alike (file words words' : List ℕ) (w w' : World) : Type 0 where
  pub rows : words ≡ words'
  pub end : (room at : ℕ) → stop_of w.state room at ≡ stop_of w'.state room at
  -- before the pred line there are no scripts, and the lists are as they were lent
  pub scripts : 3 ≤ stage_no (reading_of file).scenario.stage → lent_in w ≡ lent_in w'
  pub stood : w.state.stood ≡ w'.state.stood
  pub left : w.state.stood ≡ true → listed (lent_in w) w.standing ≡ listed (lent_in w') w'.standing
  pub stands : 3 ≤ stage_no (reading_of file).scenario.stage → listed (lent_in w) (standing_in w) ≡ listed (lent_in w') (standing_in w')

-- each may have stopped at another chunk, where the file is refused: what is left of it counts as handed over
abbrev pub AnyCutting : Type 0
AnyCutting =
    (chunks chunks' : List (List ℕ)) (chunk chunk' : List ℕ) (final final' : Bool) (n n' : ℕ) (words words' : List ℕ) (w w' : World)
    → HandedOver chunks chunk final n words w → HandedOver chunks' chunk' final' n' words' w' → over w.state ≡ true → over w'.state ≡ true
    → (later later' : List (List ℕ)) → MayFollow final later → MayFollow final' later' → flatten (chunks ++ later) ≡ flatten (chunks' ++ later')
    → Alike (flatten (chunks ++ later)) words words' w w'

-- a chunk of no bytes changes nothing, whatever the state is from which nothing came next
abbrev pub EmptyChunk : Type 0
EmptyChunk =
    (chunk : List ℕ) (w : World) (turns : ℕ) (out : List ℕ) (at : ℕ) → next_of chunk false w ≡ Rest → RoomLeft w
    → feed [] false turns (handed w 0 out at) ≡ handed w 0 out at

-- ---- between chunks
-- the places of the line that is carried are 80, no more than 81 bytes of it are counted (81 stands for too long), and until the end they mean the bytes
-- since the last break
abbrev pub CarriesLine : Type 0
CarriesLine =
    (bytes words : List ℕ) (w : World) → Session bytes words w
    → (length w.line ≡ longest)
    × (w.state.held.len ≤ suc longest)
    × (w.state.closed ≡ false → (q : Reading) × (feed_bytes next unread bytes ≡ means w.line w.state.held q))

-- lines are counted on from chunk to chunk: a refusal has the number of its line in the file
abbrev pub CountsOn : Type 0
CountsOn =
    (chunks : List (List ℕ)) (chunk : List ℕ) (final : Bool) (n : ℕ) (words : List ℕ) (w : World) → HandedOver chunks chunk final n words w
    → over w.state ≡ true → (later : List (List ℕ)) → MayFollow final later
    → w.state.read.line ≡ (reading_of (flatten (chunks ++ later))).line % counted_to

-- ---- after a refusal
-- where all rows are out, no chunk and no end changes anything
abbrev pub NothingChanges : Type 0
NothingChanges = (chunk : List ℕ) (final : Bool) (turns : ℕ) (w : World) → over w.state ≡ true → feed chunk final turns w ≡ w

-- where rows are still to come, nothing of the input is taken, and all that was read stays but the entries that are still to come: the refusal, its line, the
-- scenario so far, what is held and the scripts
pub record KeepsRefusal (w after : World) : Type 0 where
  pub number : after.state.read.refused ≡ w.state.read.refused
  pub at_line : after.state.read.line ≡ w.state.read.line
  pub scenario : outline after.state.read ≡ outline w.state.read
  pub count : after.state.read.count ≡ w.state.read.count
  pub from : after.from ≡ w.from
  pub held : after.state.held ≡ w.state.held
  pub closed : after.state.closed ≡ w.state.closed
  pub line : after.line ≡ w.line
  pub lens : after.lens ≡ w.lens
  pub ops : after.ops ≡ w.ops
  pub vals : after.vals ≡ w.vals

abbrev pub RefusalStays : Type 0
RefusalStays =
    (chunk : List ℕ) (final : Bool) (turns : ℕ) (w : World) → w.state.read.refused ≢ None → KeepsRefusal w (feed chunk final turns w)

-- so once its rows are out, it is told as the same refusal, whatever room is left
abbrev pub SameRefusal : Type 0
SameRefusal =
    (chunk : List ℕ) (final : Bool) (turns : ℕ) (w : World) → w.state.read.refused ≢ None
    → let after = feed chunk final turns w in
    over after.state ≡ true → (room at : ℕ) → stop_of after.state room at ≡ Refused (unwrap_or w.state.read.refused 0) w.state.read.line

-- ---- what a call tells
-- a caller asks the stop itself: it is an end exactly where all is out, and full exactly where rows are still to come and have no room
abbrev pub EndsWhenOver : Type 0
EndsWhenOver = (s : State) (room at : ℕ) → is_end (stop_of s room at) ≡ over s

abbrev pub FullWithoutRoom : Type 0
FullWithoutRoom = (s : State) (room at : ℕ) → is_full (stop_of s room at) ≡ (not (over s) && not (leb (at + most_words) room))

abbrev pub told : World → Stop
told w = stop_of w.state (length w.out) w.at

-- another chunk is wanted only where this one is all taken and was not the last; a full list has no room for a piece; a refusal and the end are those of
-- the file, and its rows are all out, whatever comes after the chunks so far
pub record TellsWhy (chunks : List (List ℕ)) (chunk : List ℕ) (final : Bool) (words : List ℕ) (w : World) : Type 0 where
  pub wants : told w ≡ Wants → (length chunk ≤ w.from) × (final ≡ false)
  pub full : told w ≡ Full → Stopped w
  pub refused : (number line : ℕ) → told w ≡ Refused number line → (later : List (List ℕ)) → MayFollow final later
      → (words ≡ file_words (flatten (chunks ++ later))) × (Refused number line ≡ end_of_file (flatten (chunks ++ later))) × (number ≢ 0)
  pub over : told w ≡ Over → (words ≡ file_words (flatten chunks)) × (end_of_file (flatten chunks) ≡ Over) × (final ≡ true)

abbrev pub WhyItRests : Type 0
WhyItRests =
    (chunks : List (List ℕ)) (chunk : List ℕ) (final : Bool) (n : ℕ) (words : List ℕ) (w : World) → HandedOver chunks chunk final n words w
    → TellsWhy chunks chunk final words w
