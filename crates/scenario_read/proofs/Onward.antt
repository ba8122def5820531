-- Run lines that stand whole in a chunk, one after another, are the moves that they are one by one. Assumes nothing.
use Rattle.std.proofs.Common.{◌≡◌, ℕ, suc, ◌+◌, ◌-◌, ◌<◌, ◌≤◌, true, false, List, length, drop, replicate, sym, refl, ap, ◌∙◌, arith, take_at, lt-ltb}
use lib.Seq.{slice, sets, sets-eq, length-slice}
use Rattle.scenario_lines.specs.Bytes.{longest}
use Rattle.scenario_lines.specs.Judge.{judge}
use Rattle.scenario_lines.specs.Held.{unheld, held, took, taking, view}
use Rattle.scenario_lines.specs.declared.Line.TheVariants.{Run}
use Rattle.scenario_stages.specs.Kept.{counted_on}
use Rattle.scenario_pieces.specs.Piece.{most_entries}
use Rattle.scenario_read.specs.declared.State.{State}
use Rattle.scenario_read.specs.declared.run_lines.Runs.{Runs}
use Rattle.scenario_read.specs.Feed.{feed, most_words}
use Rattle.scenario_read.specs.Code.{world_of}
use Rattle.scenario_read.specs.RunAt.{RunAt}
use Rattle.scenario_read.specs.Ahead.{AtLine, runs_here, ran_on, ran_in, Ahead, Onward}
use Rattle.scenario_read.proofs.RunLine.{took_whole}
use Rattle.scenario_read.proofs.Runs.{AtRuns, two_moves}

-- ---- one line
abbrev pub next : Runs → ℕ → ℕ → ℕ → Runs
next a t n at = record { turns = a.turns - 2; line = counted_on a.line; thread = t; gathered = a.gathered + n; at = at }

module _ (chunk : List ℕ) (from t n at : ℕ) (run : RunAt chunk from t n at) (line : List ℕ) (wide : length line ≡ longest) where
  abbrev text : List ℕ
  text = slice from (at - 2) chunk

  so_long : length text ≡ at - 2 - from
  so_long = length-slice from (at - 2) chunk (omega (arith, run.inside))

  took_so : took (drop from chunk) line unheld ≡ taking (held (at - 2 - from) false true) (sets line 0 text) (at - from)
  took_so =
      let used : at - 2 - from + 2 ≡ at - from = omega (arith, run.onward) in
      let all : 0 + (at - 2 - from) ≡ at - 2 - from = omega arith in
      let whole = took_whole text (drop at chunk) line 0 run.unbroken (omega (arith, so_long, run.short)) in
      ap (λ (x : List ℕ). took x line unheld) run.whole ∙ whole ∙ rw (so_long, all, used) refl

  viewed : view (sets line 0 text) (at - 2 - from) ≡ text
  unfolding view
  viewed =
      let room : 0 + length text ≤ length line = omega (arith, so_long, wide, run.short) in
      rw (lt-ltb (at - 2 - from) 81 (omega (arith, run.short)), sets-eq text line 0 room) (take_at text (drop (0 + length text) line) (at - 2 - from) so_long)

module _
    (chunk : List ℕ) (a : Runs) (line schedule : List ℕ) (wide : length line ≡ longest) (t n at : ℕ) (run : RunAt chunk a.at t n at)
    (some : 0 < n) (few : a.gathered < most_entries) (fits : n ≤ most_entries - a.gathered) (turns : 3 ≤ a.turns) where
  pub one_line : Ahead chunk a line schedule (next a t n at) (sets line 0 (slice a.at (at - 2) chunk)) (sets schedule a.gathered (replicate n t))
  one_line =
      record {
        same = λ final s p lens ops vals out k stood unclosed room.
            let w = world_of (ran_in s a) p line lens ops vals schedule a.at out k in
            let here : AtRuns w = record { wide = room; stood = stood; fine = refl; stage = refl; unclosed = unclosed; few = few } in
            let taken = took_so chunk a.at t n at run line wide in
            let done : (took (drop a.at chunk) line unheld).held.done ≡ true = rw taken refl in
            let says : judge (view (took (drop a.at chunk) line unheld).line (took (drop a.at chunk) line unheld).held.len) ≡ Run t n = rw (taken, viewed chunk a.at t n at run line wide) run.says in
            let two : suc (suc (a.turns - 2)) ≡ a.turns = omega arith in
            let place : a.at + (at - a.at) ≡ at = omega (arith, run.onward) in
            let there : a.at < length chunk = omega (arith, run.onward, run.inside) in
            rw two at (two_moves chunk final w here refl there t n done says some fits (a.turns - 2)) ∙ rw (taken, place) refl;
        fewer = omega arith;
        some = λ _. omega arith;
      }

-- ---- lines one after another
pub ahead_none : (chunk : List ℕ) (a : Runs) (line schedule : List ℕ) → Ahead chunk a line schedule a line schedule
ahead_none chunk a line schedule =
    record { same = λ final s p lens ops vals out k stood unclosed room. refl; fewer = omega arith; some = λ h. h }

pub ahead_then : {chunk : List ℕ} {a b c : Runs} {line line' line'' schedule schedule' schedule'' : List ℕ} → Ahead chunk a line schedule b line' schedule'
    → Ahead chunk b line' schedule' c line'' schedule'' → Ahead chunk a line schedule c line'' schedule''
ahead_then x y =
    record {
      same = λ final s p lens ops vals out k stood unclosed room.
          x.same final s p lens ops vals out k stood unclosed room ∙ y.same final s p lens ops vals out k stood unclosed room;
      fewer = omega (arith, x.fewer, y.fewer);
      some = λ h. y.some (x.some h);
    }

-- ---- of whole states
module _ (s : State) (l : AtLine s) where
  pub same_in : (r : Runs) → ran_on s r ≡ ran_in s r
  same_in r = rw (l.held, l.fine, l.left, l.stage) refl

  pub same_here : (from turns : ℕ) → s ≡ ran_in s (runs_here s from turns)
  same_here from turns = same_in (runs_here s from turns)

pub onward_by : {chunk line schedule line' schedule' : List ℕ} (room at turns : ℕ) (s : State) (from : ℕ) {a b : Runs} {s' : State}
    → AtLine s → at + most_words ≤ room → a ≡ runs_here s from turns
    → Ahead chunk a line schedule b line' schedule' → s' ≡ ran_on s b
    → Onward chunk room at turns s line schedule from b.turns s' line' schedule' b.at
onward_by {chunk} {line} {schedule} {line'} {schedule'} room at turns s from {a} {b} {s'} l wide start x e =
    let y = rw start at x in
    record {
      same = λ final p lens ops vals out r.
          ap (λ (z : State). feed chunk final turns (world_of z p line lens ops vals schedule from out at)) (same_here s l from turns)
          ∙ y.same final s p lens ops vals out at l.stood l.unclosed (rw r wide)
          ∙ ap (λ (z : State). feed chunk final b.turns (world_of z p line' lens ops vals schedule' b.at out at)) (sym (e ∙ same_in s l b));
      fewer = y.fewer;
      some = y.some;
    }
