-- What the code keeps means what a reading of the file has: at the start, after each line, and at the end. The schedule stands apart: of it the
-- code keeps only what the last line added.
use Rattle.std.specs.Option.{is_none}
use Rattle.std.specs.Prelude.{◌≡◌, ℕ, ◌%◌, ◌<◌, ◌≤◌, cond, List, [], ◌++◌, length, take, replicate, ◌==◌, Option, Some, None, unwrap_or, zero, suc}
use Rattle.machine.specs.Names.{most_threads}
use Rattle.machine.specs.Lists.{lists}
use Rattle.scenario_text.specs.Lines.{refusal}
use Rattle.scenario_lines.specs.Judge.{judge}
use Rattle.scenario.specs.Names.{counted_to}
use Rattle.scenario.specs.Scenario.{Scenario}
use Rattle.scenario.specs.Refused.{stage_no}
use Rattle.scenario.specs.Setup.{Accepted}
use Rattle.scenario.specs.Printed.{Reading, start, next, ended, refusal_text}
use Rattle.scenario_stages.specs.declared.Read.{Read}
use Rattle.scenario_stages.specs.Kept.{outline, keeping, nothing_read, on_line, lens_after, ops_after, vals_after, at_end}

-- 16 scripts of 64 operations
abbrev pub most_ops : ℕ
most_ops = 1024

-- the lists have room for all that a file may say
abbrev pub Room : List ℕ → List ℕ → List ℕ → Type 0
Room lens ops vals = (most_threads ≤ length lens) × (most_ops ≤ length ops) × (most_ops ≤ length vals)

-- a scenario without its lists and its schedule
abbrev pub bare : Scenario → Scenario
bare s =
    record {
      stage = s.stage;
      top = s.top;
      first = s.first;
      threads = s.threads;
      pred = s.pred;
      lent = lists [] [] [];
      thread = s.thread;
      schedule = [];
    }

-- a refusal's number, as it is kept: 0 is none
abbrev pub noted : ℕ → Option ℕ
noted zero = None
noted (suc k) = Some (suc k)

pub record Means (r : Read) (lens ops vals : List ℕ) (q : Reading) : Type 0 where
  pub line : r.line ≡ q.line % counted_to
  pub refused : r.refused ≡ noted q.refused
  pub outlined : outline r ≡ bare q.scenario
  pub counted : r.count ≡ length q.scenario.lent.ops
  -- from the pred line on
  pub lent : 3 ≤ stage_no q.scenario.stage → q.scenario.lent ≡ lists (take r.threads lens) (take r.count ops) (take r.count vals)
  pub accepted : 3 ≤ stage_no q.scenario.stage → Accepted q.scenario
  pub room : Room lens ops vals

-- ---- the start, a line, the end
abbrev pub BeginMeans : Type 0
BeginMeans = (lens ops vals : List ℕ) → Room lens ops vals → Means nothing_read lens ops vals start

-- the schedule grows by the entries that are kept
abbrev pub LineMeans : Type 0
LineMeans =
    (r : Read) (lens ops vals : List ℕ) (q : Reading) (l : List ℕ) → Means r lens ops vals q → r.run_left ≡ 0
    → let s = on_line r (judge l) lens in
    Means s (lens_after r (judge l) lens) (ops_after r (judge l) lens ops) (vals_after r (judge l) lens vals) (next q l)
    × ((next q l).scenario.schedule ≡ q.scenario.schedule ++ replicate s.run_left s.run_thread)

abbrev pub EndMeans : Type 0
EndMeans =
    (r : Read) (lens ops vals : List ℕ) (q : Reading) → Means r lens ops vals q
    → Means (at_end r) lens ops vals (ended q) × ((ended q).scenario ≡ q.scenario)

-- ---- what whoever runs the entries needs
-- entries are counted down without a change of the meaning
abbrev pub with_entries : Read → ℕ → ℕ → Read
with_entries r t times = keeping r.line r.refused (outline r) r.count t times

abbrev pub EntriesApart : Type 0
EntriesApart =
    (r : Read) (lens ops vals : List ℕ) (q : Reading) (t times : ℕ) → Means r lens ops vals q → Means (with_entries r t times) lens ops vals q

-- from the pred line on the first places of the lists are the scripts, and setup accepts them
abbrev pub LentMeans : Type 0
LentMeans =
    (r : Read) (lens ops vals : List ℕ) (q : Reading) → Means r lens ops vals q → 3 ≤ stage_no r.stage
    → (q.scenario.lent ≡ lists (take r.threads lens) (take r.count ops) (take r.count vals))
    × Accepted q.scenario
    × (0 < r.threads)
    × (r.threads ≤ most_threads)
    × (r.count ≤ most_ops)

-- the lock and the records are made of these
abbrev pub LockMeans : Type 0
LockMeans =
    (r : Read) (lens ops vals : List ℕ) (q : Reading) → Means r lens ops vals q
    → (q.scenario.stage ≡ r.stage)
    × (q.scenario.pred ≡ r.pred)
    × (q.scenario.top ≡ r.top)
    × (q.scenario.first ≡ r.first)
    × (q.scenario.threads ≡ r.threads)

-- the refusal that is printed
abbrev pub RefusalMeans : Type 0
RefusalMeans =
    (r : Read) (lens ops vals : List ℕ) (q : Reading) → Means r lens ops vals q
    → refusal_text q ≡ cond (is_none r.refused) [] (refusal (unwrap_or r.refused 0) r.line)
