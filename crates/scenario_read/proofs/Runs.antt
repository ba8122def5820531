-- A run line whose entries have room is two moves, whatever chunk it is in: it is read, and its entries are gathered. So code may read such lines in
-- a loop of its own, two turns a line. Assumes nothing.
use Rattle.std.proofs.Common.{◌≡◌, ℕ, suc, ◌+◌, ◌-◌, ◌<◌, ◌≤◌, min, Bool, true, false, ◌&&◌, ◌||◌, ltb, leb, List, length, drop, replicate, refl, ap, ◌∙◌, arith, lt-ltb, ne_eqb, le-leb, None}
use borrow.Author.Tests.{lt-leb}
use lib.Seq.{sets}
use Rattle.scenario_lines.specs.Judge.{judge}
use Rattle.scenario_lines.specs.Held.{unheld, Took, took, view}
use Rattle.scenario_lines.specs.declared.Line.TheVariants.{Run}
use Rattle.scenario.specs.Scenario.{with_run, taken}
use Rattle.scenario.specs.declared.Stage.TheVariants.{Runs}
use Rattle.scenario_stages.specs.Kept.{outline, keeping, counted_on, on_line, lens_after, ops_after, vals_after}
use Rattle.scenario_stages.specs.declared.Read.{Read}
use Rattle.scenario_pieces.specs.Piece.{most_entries}
use Rattle.scenario_read.specs.declared.State.{State}
use Rattle.scenario_read.specs.declared.Move.{Move}
use Rattle.scenario_read.specs.declared.Move.TheVariants.{Gather, Line as ALine}
use Rattle.scenario_read.specs.Feed.{World, most_words, ready, roomy_move, what, state_with, gathers, takes, moved, rests, next_of, feed}

-- ---- what a run line leaves of what is read
abbrev pub run_read : Read → ℕ → ℕ → Read
run_read r t n = keeping (counted_on r.line) None (with_run (outline r) t n) r.count t n

module _ (r : Read) (fine : r.refused ≡ None) (stage : r.stage ≡ Runs) (t n : ℕ) (lens ops vals : List ℕ) where
  pub on_run : on_line r (Run t n) lens ≡ run_read r t n
  unfolding on_line taken
  on_run = rw (fine, stage) refl

  pub lists_stay : (lens_after r (Run t n) lens ≡ lens) × (ops_after r (Run t n) lens ops ≡ ops) × (vals_after r (Run t n) lens vals ≡ vals)
  unfolding lens_after ops_after vals_after
  lists_stay = rw (fine, stage) (refl, refl, refl)

-- ---- what comes next
unready_by : (g : ℕ) (x : Bool) → g < most_entries → x ≡ false → (leb most_entries g || (ltb 0 g && x)) ≡ false
unready_by g x few e = rw (lt-leb most_entries g few, e) (go (ltb 0 g))
  where
    go : (b : Bool) → (b && false) ≡ false
    go true = refl
    go false = refl

-- run lines may come, and there is room
pub record AtRuns (w : World) : Type 0 where
  pub wide : w.at + most_words ≤ length w.out
  pub stood : w.state.stood ≡ true
  pub fine : w.state.read.refused ≡ None
  pub stage : w.state.read.stage ≡ Runs
  pub unclosed : w.state.closed ≡ false
  pub few : w.state.gathered < most_entries

module _ (chunk : List ℕ) (final : Bool) (w : World) (a : AtRuns w) where
  abbrev s : State
  s = w.state

  pub next_line : s.read.run_left ≡ 0 → w.from < length chunk → next_of chunk final w ≡ ALine
  unfolding what roomy_move
  next_line left there =
      let unready : ready s ≡ false = unready_by s.gathered _ a.few (rw (left, a.fine, a.unclosed) refl) in
      rw (le-leb (w.at + most_words) (length w.out) a.wide, a.stood, unready, left, a.fine, a.unclosed, lt-ltb w.from (length chunk) there) refl

  pub next_gather : 0 < s.read.run_left → next_of chunk final w ≡ Gather
  unfolding what roomy_move
  next_gather some =
      let none = ne_eqb s.read.run_left 0 (λ e. omega (arith, some, e)) in
      let unready : ready s ≡ false = unready_by s.gathered _ a.few (rw none refl) in
      rw (le-leb (w.at + most_words) (length w.out) a.wide, a.stood, unready, lt-ltb 0 s.read.run_left some) refl

-- ---- the two moves
one_move : (chunk : List ℕ) (final : Bool) (turns : ℕ) (w : World) (m : Move) → next_of chunk final w ≡ m → rests m ≡ false
    → feed chunk final (suc turns) w ≡ feed chunk final turns (moved chunk w m)
unfolding feed
one_move chunk final turns w m e f = rw (e, f) refl

module _ (chunk : List ℕ) (final : Bool) (w : World) (a : AtRuns w) (left : w.state.read.run_left ≡ 0) (there : w.from < length chunk) where
  abbrev here : Took
  here = took (drop w.from chunk) w.line w.state.held

  -- the line is completed in this chunk, and says that the thread t runs n times; they have room
  module _
      (t n : ℕ) (done : here.held.done ≡ true) (says : judge (view here.line here.held.len) ≡ Run t n) (some : 0 < n)
      (fits : n ≤ most_entries - w.state.gathered) where
    abbrev r : Read
    r = w.state.read

    -- the world with this state, line, schedule and place in the chunk
    abbrev later : ℕ → Read → List ℕ → World
    later gathered read schedule =
        record {
          state = state_with w.state unheld read gathered;
          standing = w.standing;
          line = here.line;
          lens = w.lens;
          ops = w.ops;
          vals = w.vals;
          schedule = schedule;
          from = w.from + here.used;
          out = w.out;
          at = w.at;
        }

    read_so : takes chunk w ≡ later w.state.gathered (run_read r t n) w.schedule
    read_so =
        let (lens, ops, vals) = lists_stay r a.fine a.stage t n w.lens w.ops w.vals in
        rw (done, says, on_run r a.fine a.stage t n w.lens w.ops w.vals, lens, ops, vals) refl

    still_at : AtRuns (later w.state.gathered (run_read r t n) w.schedule)
    still_at = record { wide = a.wide; stood = a.stood; fine = refl; stage = refl; unclosed = a.unclosed; few = a.few }

    all : min n (most_entries - w.state.gathered) ≡ n
    all = omega arith

    none : n - n ≡ 0
    none = omega arith

    gathers_so : gathers (later w.state.gathered (run_read r t n) w.schedule)
        ≡ later (w.state.gathered + n) (keeping (counted_on r.line) None (with_run (outline r) t n) r.count t 0)
        (sets w.schedule w.state.gathered (replicate n t))
    gathers_so = rw (all, none) refl

    pub two_moves : (turns : ℕ)
        → feed chunk final (suc (suc turns)) w
        ≡ feed chunk final turns
        (later (w.state.gathered + n) (keeping (counted_on r.line) None (with_run (outline r) t n) r.count t 0)
        (sets w.schedule w.state.gathered (replicate n t)))
    two_moves turns =
        one_move chunk final (suc turns) w ALine (next_line chunk final w a left there) refl
        ∙ ap (feed chunk final (suc turns)) read_so
        ∙ one_move chunk final turns _ Gather (next_gather chunk final _ still_at some) refl
        ∙ ap (feed chunk final turns) gathers_so
