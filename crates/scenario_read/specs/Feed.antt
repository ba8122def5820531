-- One move after another: what comes next, what each move does, and what a call does with a chunk and a list for rows.
use Rattle.std.specs.Option.{is_none}
use Rattle.std.specs.Prelude.{ℕ, zero, suc, ◌+◌, ◌-◌, ◌*◌, min, Bool, true, false, cond, not, ◌&&◌, ◌||◌, List, length, take, drop, replicate, ◌==◌, nat_le, nat_lt, unwrap_or}
use Rattle.std.proofs.lemmas.List.Edits.{sets}
use Rattle.machine.specs.Names.{row_words}
use Rattle.machine.specs.Lists.{Lent, lists}
use Rattle.scenario_lines.specs.Judge.{judge}
use Rattle.scenario_lines.specs.Held.{unheld, took, view, held_end, line_end}
use Rattle.scenario_lines.specs.declared.Line.{Line}
use Rattle.scenario_lines.specs.declared.bytes.Held.{Held}
use Rattle.scenario_stages.specs.Kept.{nothing_read, on_line, lens_after, ops_after, vals_after, at_end}
use Rattle.scenario_stages.specs.Means.{with_entries}
use Rattle.scenario_stages.specs.declared.Read.{Read}
use Rattle.scenario_pieces.specs.Piece.{most_entries, first_of, left_of, stored_of}
use Rattle.scenario_pieces.specs.declared.Standing.{Standing}
use Rattle.scenario_read.specs.declared.State.{State}
use Rattle.scenario_read.specs.declared.Stop.{Stop}
use Rattle.scenario_read.specs.declared.Stop.TheVariants.{Wants, Full, Refused, Over}
use Rattle.scenario_read.specs.declared.Move.{Move}
use Rattle.scenario_read.specs.declared.Move.TheVariants.{Stand, Piece, Gather, Line as ALine, Close, Rest}

-- all that a move may change: the state, the standing, the lists, the place in the chunk, the rows as words and the place in them
pub record World : Type 0 where
  pub state : State
  pub standing : Standing
  pub line : List ℕ
  pub lens : List ℕ
  pub ops : List ℕ
  pub vals : List ℕ
  pub schedule : List ℕ
  pub from : ℕ
  pub out : List ℕ
  pub at : ℕ

-- before the first byte
abbrev pub fresh : State
fresh = record { held = unheld; read = nothing_read; gathered = 0; stood = false; closed = false }

-- ---- what comes next
-- the most words that a move stores: the rows of a whole piece
abbrev pub most_words : ℕ
most_words = row_words * most_entries

-- all that was gathered is run: a whole piece, or what there is where no entry comes after it
abbrev pub ready : State → Bool
ready s =
    nat_le most_entries s.gathered
    || (nat_lt 0 s.gathered && (s.read.run_left == 0 && (not (is_none s.read.refused) || s.closed)))

-- where there is room for what a move may store; len is the chunk's length, and `final` says that no chunk comes after it. The lock is set up for the
-- first entry
unfoldable pub roomy_move : State → ℕ → ℕ → Bool → Move
roomy_move s len from final =
    cond (not s.stood && nat_lt 0 s.read.run_left) Stand
    (cond (ready s) Piece
    (cond (nat_lt 0 s.read.run_left) Gather
    (cond (not (is_none s.read.refused)) Rest
    (cond s.closed Rest
    (cond (nat_lt from len) ALine
    (cond final Close Rest))))))

unfoldable pub what : State → ℕ → ℕ → Bool → ℕ → ℕ → Move
what s len from final room at = cond (nat_le (at + most_words) room) (roomy_move s len from final) Rest

-- ---- what each move does
-- the scripts, in the first places of the lists
abbrev pub lent_in : World → Lent
lent_in w = lists (take w.state.read.threads w.lens) (take w.state.read.count w.ops) (take w.state.read.count w.vals)

-- a state with another line held, another reading, or other entries gathered
abbrev pub state_with : State → Held → Read → ℕ → State
state_with s held read gathered =
    record { held = held; read = read; gathered = gathered; stood = s.stood; closed = s.closed }

abbrev pub flagged : State → Bool → Bool → State
flagged s stood closed = record { held = s.held; read = s.read; gathered = s.gathered; stood = stood; closed = closed }

-- the lock is set up
abbrev pub stands : World → World
stands w =
    let r = w.state.read in
    record {
      state = flagged w.state true w.state.closed;
      standing = first_of r.pred r.top r.first;
      line = w.line;
      lens = w.lens;
      ops = w.ops;
      vals = w.vals;
      schedule = w.schedule;
      from = w.from;
      out = w.out;
      at = w.at;
    }

-- the entries that wait are run, and their rows stored
abbrev pub runs : World → World
runs w =
    let entries = take w.state.gathered w.schedule in
    let r = left_of (lent_in w) w.standing entries w.out w.at in
    record {
      state = state_with w.state w.state.held w.state.read 0;
      standing = r.standing;
      line = w.line;
      lens = w.lens;
      ops = w.ops;
      vals = w.vals;
      schedule = w.schedule;
      from = w.from;
      out = stored_of (lent_in w) w.standing entries w.out w.at;
      at = r.at;
    }

-- how many entries are gathered: as many as have room
abbrev pub more : State → ℕ
more s = min s.read.run_left (most_entries - s.gathered)

abbrev pub gathers : World → World
gathers w =
    let r = w.state.read in
    let n = more w.state in
    record {
      state = state_with w.state w.state.held (with_entries r r.run_thread (r.run_left - n)) (w.state.gathered + n);
      standing = w.standing;
      line = w.line;
      lens = w.lens;
      ops = w.ops;
      vals = w.vals;
      schedule = sets w.schedule w.state.gathered (replicate n r.run_thread);
      from = w.from;
      out = w.out;
      at = w.at;
    }

-- a line is taken, where `there` says that there is one; the lists follow it
abbrev pub reads : World → State → Bool → Line → List ℕ → ℕ → World
reads w s there l line from =
    let r = w.state.read in
    record {
      state = s;
      standing = w.standing;
      line = line;
      lens = cond there (lens_after r l w.lens) w.lens;
      ops = cond there (ops_after r l w.lens w.ops) w.ops;
      vals = cond there (vals_after r l w.lens w.vals) w.vals;
      schedule = w.schedule;
      from = from;
      out = w.out;
      at = w.at;
    }

-- bytes until one completes a line, or the chunk ends
abbrev pub takes : List ℕ → World → World
takes chunk w =
    let s = w.state in
    let t = took (drop w.from chunk) w.line s.held in
    let l = judge (view t.line t.held.len) in
    reads w
    (cond t.held.done (state_with s unheld (on_line s.read l w.lens) s.gathered) (state_with s t.held s.read s.gathered))
    t.held.done l t.line (w.from + t.used)

-- the end of the input: the last line, if there is one, and a missing line
abbrev pub ends : World → World
ends w =
    let s = w.state in
    let h = held_end s.held in
    let l = judge (view (line_end w.line s.held) h.len) in
    let r = cond h.done (on_line s.read l w.lens) s.read in
    reads w (flagged (state_with s unheld (at_end r) s.gathered) s.stood true) h.done l (line_end w.line s.held) w.from

abbrev pub moved : List ℕ → World → Move → World
moved chunk w Stand = stands w
moved chunk w Piece = runs w
moved chunk w Gather = gathers w
moved chunk w ALine = takes chunk w
moved chunk w Close = ends w
moved chunk w Rest = w

-- ---- a call: moves, until nothing comes next or so many are made
abbrev pub rests : Move → Bool
rests Stand = false
rests Piece = false
rests Gather = false
rests ALine = false
rests Close = false
rests Rest = true

abbrev pub next_of : List ℕ → Bool → World → Move
next_of chunk final w = what w.state (length chunk) w.from final (length w.out) w.at

unfoldable pub feed : List ℕ → Bool → ℕ → World → World
feed chunk final zero w = w
feed chunk final (suc turns) w = cond (rests (next_of chunk final w)) w (feed chunk final turns (moved chunk w (next_of chunk final w)))

-- ---- why a call rests
-- all rows of the input are out: nothing waits, and it was refused or its end was taken
unfoldable pub over : State → Bool
over s = s.gathered == 0 && (s.read.run_left == 0 && (not (is_none s.read.refused) || s.closed))

-- then it was refused, with its number and its line, or it has ended
abbrev pub end_of : State → Stop
end_of s = cond (is_none s.read.refused) Over (Refused (unwrap_or s.read.refused 0) s.read.line)

-- where not all is out, another chunk is wanted, or there is no room for a piece in the list of `room` words
unfoldable pub stop_of : State → ℕ → ℕ → Stop
stop_of s room at = cond (over s) (end_of s) (cond (nat_le (at + most_words) room) Wants Full)

-- nothing comes any more
abbrev pub is_end : Stop → Bool
is_end Wants = false
is_end Full = false
is_end (Refused number line) = true
is_end Over = true

-- the list was full: rows may still come of what was read
abbrev pub is_full : Stop → Bool
is_full Wants = false
is_full Full = true
is_full (Refused number line) = false
is_full Over = false
