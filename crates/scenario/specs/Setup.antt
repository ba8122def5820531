-- Setup's numbers where the lines are read: 1 to 4 at the pred line, 5 and 7 at the op line, and none anywhere else, since what is read is
-- always what setup accepts.
use Rattle.std.specs.Prelude.{ℕ, ◌<◌, ◌≤◌, ◌≡◌, cond, List, leb, get_or}
use Rattle.cell.specs.declared.pred.Pred.{Pred}
use Rattle.machine.specs.Names.{bad_predicate, first_value, script_too_long, wrong_code, most_threads, longest_script}
use Rattle.machine.specs.Lists.{wrong}
use Rattle.scenario_lines.specs.Lines.{whole}
use Rattle.scenario_lines.specs.declared.Line.{Line}
use Rattle.scenario_lines.specs.declared.Line.TheVariants.{Pred as PredLine}
use Rattle.scenario.specs.Scenario.{Scenario, with_pred, with_op, taken}
use Rattle.scenario.specs.Refused.{stage_no, asked, setup_number, refusal_of}
use Rattle.scenario.specs.Printed.{start, next}

-- at the pred line no number above 4 is given
abbrev pub AtPredLine : Type 0
AtPredLine = (s : Scenario) (q : Pred) → asked (with_pred s q) ≤ first_value

-- a kind above 2 is 3, where neither 1 nor 2 applies
abbrev pub UnknownKind : Type 0
UnknownKind =
    (s : Scenario) (kind a b : ℕ) → 2 < kind → 0 < s.threads → s.threads ≤ most_threads → 0 < s.top
    → setup_number s (PredLine kind a b) ≡ bad_predicate

-- what is read, from the pred line on: setup accepts it, and no thread after the last op line's has an operation
pub record Accepted (s : Scenario) : Type 0 where
  pub none : asked s ≡ 0
  pub later : (i : ℕ) → s.thread < i → get_or s.lent.lens i 0 ≡ 0

-- at an op line: 5 where the thread has 64 operations already, then 7 for a wrong code or value, and nothing else
abbrev pub AtOpLine : Type 0
AtOpLine =
    (s : Scenario) (t code value : ℕ) → Accepted s → t < s.threads → s.thread ≤ t
    → asked (with_op s t code value) ≡ cond (leb longest_script (get_or s.lent.lens t 0)) script_too_long (cond (wrong code value) wrong_code 0)

-- a line that is not refused keeps what is read accepted
abbrev pub KeepsAccepted : Type 0
KeepsAccepted =
    (s : Scenario) (l : Line) → (3 ≤ stage_no s.stage → Accepted s) → refusal_of s l ≡ 0 → 3 ≤ stage_no (taken s l).stage → Accepted (taken s l)

-- whatever is read of a file is accepted
abbrev pub AlwaysAccepted : Type 0
AlwaysAccepted = (file : List ℕ) → let s = (whole next start file).scenario in 3 ≤ stage_no s.stage → Accepted s
