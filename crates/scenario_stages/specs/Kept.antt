-- What the code keeps of a scenario file that is read, and what one more line, or the file's end, makes of it.
use Rattle.std.specs.Option.{is_none}
use Rattle.std.specs.Prelude.{ℕ, zero, suc, ◌+◌, ◌%◌, cond, ◌&&◌, List, [], ◌∷◌, ◌==◌, nat_le, nat_lt, slice_index, slice_set, Option, Some, None}
use Rattle.cell.specs.Pred.{of_kind}
use Rattle.machine.specs.Names.{script_too_long, wrong_code, longest_script}
use Rattle.machine.specs.Lists.{lists, wrong}
use Rattle.scenario_lines.specs.declared.Line.{Line}
use Rattle.scenario_lines.specs.declared.Line.TheVariants.{Broken, Header, BadNumber, Lock, Pred as PredLine, Op, Run, NoKind}
use Rattle.scenario.specs.Names.{broken_line, wrong_line, counted_to}
use Rattle.scenario.specs.Scenario.{Scenario, nothing, pred_of, with_pred, taken}
use Rattle.scenario.specs.Refused.{stage_no, broken, misplaced, asked}
use Rattle.scenario_stages.specs.declared.Read.{Read}

-- ---- what is kept, and the scenario
-- all of the scenario but the lists and the schedule
abbrev pub outline : Read → Scenario
outline r =
    record {
      stage = r.stage;
      top = r.top;
      first = r.first;
      threads = r.threads;
      pred = r.pred;
      lent = lists [] [] [];
      thread = r.thread;
      schedule = [];
    }

-- line, refusal and scenario, the number of operations, and the entries that the last line added: the thread, and how often
abbrev pub keeping : ℕ → Option ℕ → Scenario → ℕ → ℕ → ℕ → Read
keeping line refused s count t times =
    record {
      line = line;
      refused = refused;
      stage = s.stage;
      top = s.top;
      first = s.first;
      threads = s.threads;
      pred = s.pred;
      thread = s.thread;
      count = count;
      run_thread = t;
      run_left = times;
    }

-- before the first line
abbrev pub nothing_read : Read
nothing_read = keeping 0 None nothing 0 0 0

-- lines and operations are counted modulo 2 ^ 64
abbrev pub counted_on : ℕ → ℕ
counted_on n = (n + 1) % counted_to

-- ---- the refusal of a line
-- of an op line, where the thread has n operations
abbrev pub op_number : ℕ → ℕ → ℕ → ℕ
op_number n code value = cond (nat_le longest_script n) script_too_long (cond (wrong code value) wrong_code 0)

-- setup's numbers: at the pred line what setup answers, at an op line 5 and 7
abbrev pub setup_no : Scenario → List ℕ → Line → ℕ
setup_no s lens Broken = 0
setup_no s lens Header = 0
setup_no s lens BadNumber = 0
setup_no s lens (Lock m v n) = 0
setup_no s lens (PredLine kind a b) = asked (with_pred s (pred_of (of_kind kind a b)))
setup_no s lens (Op t code value) = op_number (slice_index lens t) code value
setup_no s lens (Run t times) = 0
setup_no s lens NoKind = 0

-- 0 for none; 31 and 32 are scenario's
abbrev pub refusal_in : Scenario → List ℕ → Line → ℕ
refusal_in s lens l = cond (broken s.stage l) broken_line (cond (misplaced s l) wrong_line (setup_no s lens l))

abbrev pub refusal_at : Read → List ℕ → Line → ℕ
refusal_at r lens l = refusal_in (outline r) lens l

-- ---- what is kept after a line
abbrev pub count_with : Read → Line → ℕ
count_with r Broken = r.count
count_with r Header = r.count
count_with r BadNumber = r.count
count_with r (Lock m v n) = r.count
count_with r (PredLine kind a b) = 0
count_with r (Op t code value) = counted_on r.count
count_with r (Run t times) = r.count
count_with r NoKind = r.count

-- the entries that a line adds to the schedule: of which thread, and how many
abbrev pub run_thread : Line → ℕ
run_thread Broken = 0
run_thread Header = 0
run_thread BadNumber = 0
run_thread (Lock m v n) = 0
run_thread (PredLine kind a b) = 0
run_thread (Op t code value) = 0
run_thread (Run t times) = t
run_thread NoKind = 0

abbrev pub run_left : Line → ℕ
run_left Broken = 0
run_left Header = 0
run_left BadNumber = 0
run_left (Lock m v n) = 0
run_left (PredLine kind a b) = 0
run_left (Op t code value) = 0
run_left (Run t times) = times
run_left NoKind = 0

abbrev pub taken_by : Read → Line → Read
taken_by r l = keeping (counted_on r.line) None (taken (outline r) l) (count_with r l) (run_thread l) (run_left l)

-- what was read before it stays
abbrev pub refused_by : Read → ℕ → Read
refused_by r k = keeping (counted_on r.line) (Some k) (outline r) r.count 0 0

-- after a line with the refusal k, 0 for none
abbrev pub after_line : ℕ → Read → Line → Read
after_line k r l = cond (k == 0) (taken_by r l) (refused_by r k)

-- a refusal ends the file
unfoldable pub on_line : Read → Line → List ℕ → Read
on_line r l lens = cond (is_none r.refused) (after_line (refusal_at r lens l) r l) r

-- ---- the lists after a line
-- the first n places are 0, as far as there are places
unfoldable pub cleared : ℕ → List ℕ → List ℕ
cleared zero l = l
cleared (suc n) [] = []
cleared (suc n) (x ∷ l) = 0 ∷ cleared n l

abbrev pub lens_with : Read → Line → List ℕ → List ℕ
lens_with r Broken lens = lens
lens_with r Header lens = lens
lens_with r BadNumber lens = lens
lens_with r (Lock m v n) lens = lens
lens_with r (PredLine kind a b) lens = cleared r.threads lens
lens_with r (Op t code value) lens = slice_set lens t (slice_index lens t + 1)
lens_with r (Run t times) lens = lens
lens_with r NoKind lens = lens

-- an operation and its value stand after all others; where there is no place nothing is stored
abbrev pub ops_with : Read → Line → List ℕ → List ℕ
ops_with r Broken ops = ops
ops_with r Header ops = ops
ops_with r BadNumber ops = ops
ops_with r (Lock m v n) ops = ops
ops_with r (PredLine kind a b) ops = ops
ops_with r (Op t code value) ops = slice_set ops r.count code
ops_with r (Run t times) ops = ops
ops_with r NoKind ops = ops

abbrev pub vals_with : Read → Line → List ℕ → List ℕ
vals_with r Broken vals = vals
vals_with r Header vals = vals
vals_with r BadNumber vals = vals
vals_with r (Lock m v n) vals = vals
vals_with r (PredLine kind a b) vals = vals
vals_with r (Op t code value) vals = slice_set vals r.count value
vals_with r (Run t times) vals = vals
vals_with r NoKind vals = vals

-- a list is changed where the line is not refused
abbrev pub unless_refused : Read → Line → List ℕ → List ℕ → List ℕ → List ℕ
unless_refused r l lens changed before = cond (refusal_at r lens l == 0) changed before

-- and no line before it was
abbrev pub if_taken : Read → Line → List ℕ → List ℕ → List ℕ → List ℕ
if_taken r l lens changed before = cond (is_none r.refused && refusal_at r lens l == 0) changed before

unfoldable pub lens_after : Read → Line → List ℕ → List ℕ
lens_after r l lens = if_taken r l lens (lens_with r l lens) lens

unfoldable pub ops_after : Read → Line → List ℕ → List ℕ → List ℕ
ops_after r l lens ops = if_taken r l lens (ops_with r l ops) ops

unfoldable pub vals_after : Read → Line → List ℕ → List ℕ → List ℕ
vals_after r l lens vals = if_taken r l lens (vals_with r l vals) vals

-- ---- the end of the file
-- a missing header, lock or pred line is refused at the line after the last
unfoldable pub at_end : Read → Read
at_end r = cond (is_none r.refused) (cond (nat_lt (stage_no r.stage) 3) (refused_by r wrong_line) r) r
