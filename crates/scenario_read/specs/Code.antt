-- What the code's contracts say in the words of Feed: a world made of what is lent and handed over, what a call returns of it, and the
-- moves in two kinds: those of the lock, which alone have to do with the standing, and the others.
use Rattle.std.specs.Prelude.{◌≡◌, ℕ, ◌+◌, ◌-◌, Bool, true, false, cond, not, ◌&&◌, List, [], nat_lt}
use Rattle.cell.specs.declared.pred.Pred.TheVariants.{Any}
use Rattle.scenario_lines.specs.Held.{unheld}
use Rattle.scenario_stages.specs.Kept.{at_end}
use Rattle.scenario_stages.specs.Means.{with_entries}
use Rattle.scenario_stages.specs.declared.Read.{Read}
use Rattle.scenario_pieces.specs.Piece.{first_of}
use Rattle.scenario_pieces.specs.declared.Standing.{Standing}
use Rattle.scenario_read.specs.declared.State.{State}
use Rattle.scenario_read.specs.declared.Fed.{Fed}
use Rattle.scenario_read.specs.declared.Move.{Move}
use Rattle.scenario_read.specs.declared.Move.TheVariants.{Stand, Piece, Gather, Line, Close, Rest}
use Rattle.scenario_read.specs.Feed.{World, state_with, flagged, more, moved}

-- ---- worlds
abbrev pub world_of : State → Standing → List ℕ → List ℕ → List ℕ → List ℕ → List ℕ → ℕ → List ℕ → ℕ → World
world_of s p line lens ops vals schedule from out at =
    record {
      state = s;
      standing = p;
      line = line;
      lens = lens;
      ops = ops;
      vals = vals;
      schedule = schedule;
      from = from;
      out = out;
      at = at;
    }

-- what the moves of the lock have to do with: all but the line
abbrev pub lock_world : State → Standing → List ℕ → List ℕ → List ℕ → List ℕ → ℕ → List ℕ → ℕ → World
lock_world s p lens ops vals schedule from out at = world_of s p [] lens ops vals schedule from out at

-- what the other moves have to do with: all but the standing, for which any one stands here, and the rows
abbrev pub other_world : State → List ℕ → List ℕ → List ℕ → List ℕ → List ℕ → ℕ → World
other_world s line lens ops vals schedule from = world_of s (first_of Any 0 0) line lens ops vals schedule from [] 0

-- what a line has to do with
abbrev pub line_world : State → List ℕ → List ℕ → List ℕ → List ℕ → ℕ → World
line_world s line lens ops vals from = other_world s line lens ops vals [] from

abbrev pub fed_of : World → Fed
fed_of w = record { state = w.state; standing = w.standing; from = w.from; at = w.at }

-- what is returned and left is this world, in parts
abbrev pub Parts : Fed → List ℕ → List ℕ → List ℕ → List ℕ → List ℕ → List ℕ → World → Type 0
Parts r line lens ops vals schedule rows w =
    (r ≡ fed_of w)
    × ((line ≡ w.line)
    × ((lens ≡ w.lens) × ((ops ≡ w.ops) × ((vals ≡ w.vals) × ((schedule ≡ w.schedule) × (rows ≡ w.out))))))

-- ---- two kinds of moves
abbrev pub of_lock : Move → Bool
of_lock Stand = true
of_lock Piece = true
of_lock Gather = false
of_lock Line = false
of_lock Close = false
of_lock Rest = false

-- a move of the lock; others change nothing
abbrev pub lock_moved : World → Move → World
lock_moved w m = cond (of_lock m) (moved [] w m) w

-- a move of another kind; those of the lock change nothing
abbrev pub other_moved : List ℕ → World → Move → World
other_moved chunk w m = cond (of_lock m) w (moved chunk w m)

-- ---- what comes next
-- the lock is to be set up
abbrev pub to_stand : State → Bool
to_stand s = not s.stood && nat_lt 0 s.read.run_left

-- ---- what the moves leave of a state
abbrev pub now_stood : State → State
now_stood s = flagged s true s.closed

-- the end was taken, and the last line was read into r
abbrev pub closed_with : State → Read → State
closed_with s r = flagged (state_with s unheld (at_end r) s.gathered) s.stood true

abbrev pub gathered_in : State → State
gathered_in s =
    state_with s s.held (with_entries s.read s.read.run_thread (s.read.run_left - more s)) (s.gathered + more s)
