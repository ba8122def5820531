-- A file's lock is the one that its lock line and its pred line name, the script of a thread is the op lines that name it, and the schedule
-- is the entries of the run lines, each in their order. The rows that a file prints are those of that lock, those scripts and that schedule.
use Rattle.std.specs.Prelude.{ℕ, zero, suc, ◌-◌, ◌<◌, ◌≤◌, ◌≡◌, cond, List, [], ◌∷◌, ◌++◌, map, eqb, take, replicate}
use Rattle.cell.specs.Pred.{of_kind}
use Rattle.std.specs.Prelude.{Some}
use Rattle.machine.specs.ListLaws.{Op, lent_for}
use Rattle.machine.specs.Lists.{scripts_of}
use Rattle.machine.specs.Run.{run}
use Rattle.machine.specs.Setup.{fresh}
use Rattle.machine.specs.Words.{unused}
use Rattle.machine.specs.declared.Row.{Row}
use Rattle.scenario_text.specs.Lines.{header}
use Rattle.scenario_lines.specs.Lines.{lines, whole}
use Rattle.scenario_lines.specs.Judge.{judge}
use Rattle.scenario_lines.specs.declared.Line.{Line}
use Rattle.scenario_lines.specs.declared.Line.TheVariants.{Broken, Header, BadNumber, Lock, Pred as PredLine, Op as OpLine, Run as RunLine, NoKind}
use Rattle.scenario.specs.declared.Stage.{Stage}
use Rattle.scenario.specs.declared.Stage.TheVariants.{Header as AtHeader, Lock as AtLock, Pred as AtPred, Ops as AtOps, Runs as AtRuns}
use Rattle.scenario.specs.Scenario.{Scenario}
use Rattle.scenario.specs.Refused.{stage_no}
use Rattle.scenario.specs.Printed.{Reading, start, next, ended, rows_text, refusal_text, rows_in, printed}

-- ---- what lines name
-- the script of thread t: its op lines, in order
unfoldable pub script_of : ℕ → List Line → List Op
script_of t [] = []
script_of t (Broken ∷ more) = script_of t more
script_of t (Header ∷ more) = script_of t more
script_of t (BadNumber ∷ more) = script_of t more
script_of t (Lock m v n ∷ more) = script_of t more
script_of t (PredLine kind a b ∷ more) = script_of t more
script_of t (OpLine u code value ∷ more) = cond (eqb u t) (record { code = code; value = value } ∷ script_of t more) (script_of t more)
script_of t (RunLine u times ∷ more) = script_of t more
script_of t (NoKind ∷ more) = script_of t more

-- those of the threads from t on, n of them
unfoldable pub scripts_from : ℕ → ℕ → List Line → List (List Op)
scripts_from t zero ls = []
scripts_from t (suc n) ls = script_of t ls ∷ scripts_from (suc t) n ls

-- the entries of the run lines, in order
unfoldable pub entries_of : List Line → List ℕ
entries_of [] = []
entries_of (Broken ∷ more) = entries_of more
entries_of (Header ∷ more) = entries_of more
entries_of (BadNumber ∷ more) = entries_of more
entries_of (Lock m v n ∷ more) = entries_of more
entries_of (PredLine kind a b ∷ more) = entries_of more
entries_of (OpLine u code value ∷ more) = entries_of more
entries_of (RunLine t times ∷ more) = replicate times t ++ entries_of more
entries_of (NoKind ∷ more) = entries_of more

-- the lines after the pred line: op lines of threads below n, which never descend, t the last of them; then run lines; and no other
pub data InOrder (n : ℕ) : ℕ → Stage → List Line → Type 0 where
  no_line : InOrder n 0 AtOps []
  op_line : {t : ℕ} {ls : List Line} → InOrder n t AtOps ls → (u code value : ℕ) → t ≤ u → u < n → InOrder n u AtOps (ls ++ (OpLine u code value ∷ []))
  run_line : {t : ℕ} {p : Stage} {ls : List Line} → InOrder n t p ls → (u times : ℕ) → InOrder n t AtRuns (ls ++ (RunLine u times ∷ []))

-- what is read is what these lines name: the header, the lock line, the pred line, and more lines in their order
pub record NamedBy (ls : List Line) (s : Scenario) : Type 0 where
  pub kind : ℕ
  pub a : ℕ
  pub b : ℕ
  pub more : List Line
  pub lines : ls ≡ Header ∷ Lock s.top s.first s.threads ∷ PredLine kind a b ∷ more
  pub pred : of_kind kind a b ≡ Some s.pred
  pub in_order : InOrder s.threads s.thread s.stage more
  pub scripts : s.lent ≡ lent_for (scripts_from 0 s.threads more)
  pub schedule : s.schedule ≡ entries_of more

-- ---- of every file
-- how many lines were taken: all that were read, but for the one that is refused
abbrev pub taken_of : Reading → ℕ
taken_of r = r.line - cond (eqb r.refused 0) 0 1

-- the lines of a file that were taken, each as it is judged
abbrev pub lines_taken : List ℕ → List Line
lines_taken file = map judge (take (taken_of (whole next start file)) (lines file))

-- from the pred line on: what is read is what the lines name that were taken
abbrev pub AsNamed : Type 0
AsNamed = (file : List ℕ) → let s = (whole next start file).scenario in 3 ≤ stage_no s.stage → NamedBy (lines_taken file) s

-- before it: the header and the lock line alone were taken
abbrev pub TakenBefore : Type 0
TakenBefore =
    (file : List ℕ) → let s = (whole next start file).scenario in
    (s.stage ≡ AtHeader → lines_taken file ≡ [])
    × (s.stage ≡ AtLock → lines_taken file ≡ Header ∷ [])
    × (s.stage ≡ AtPred → lines_taken file ≡ Header ∷ Lock s.top s.first s.threads ∷ [])

-- the rows of the lock, the scripts and the schedule that lines name
abbrev pub rows_named : {ls : List Line} {s : Scenario} → NamedBy ls s → List Row
rows_named {ls} {s} named =
    (run (scripts_of (lent_for (scripts_from 0 s.threads named.more))) (unused s.pred s.top s.first) (fresh s.threads)
    (entries_of named.more)).rows

-- these are the file's rows
abbrev pub RowsAsNamed : Type 0
RowsAsNamed = (file : List ℕ) → (named : NamedBy (lines_taken file) (whole next start file).scenario) → rows_in file ≡ rows_named named

-- where the pred line was not taken it has none
abbrev pub NoRow : Type 0
NoRow = (file : List ℕ) → stage_no (whole next start file).scenario.stage ≤ 2 → rows_in file ≡ []

-- and so these are the rows that are printed
abbrev pub PrintsNamed : Type 0
PrintsNamed =
    (file : List ℕ) → let r = whole next start file in (named : NamedBy (lines_taken file) r.scenario)
    → printed file ≡ header ++ (rows_text 0 (rows_named named) ++ refusal_text (ended r))

abbrev pub PrintsNoRow : Type 0
PrintsNoRow = (file : List ℕ) → let r = whole next start file in stage_no r.scenario.stage ≤ 2 → printed file ≡ header ++ refusal_text (ended r)
