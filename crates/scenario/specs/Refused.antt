-- The refusal of a line: 31 comes first, then 32, then setup's. Setup's numbers are what setup answers to all that is read, this line included.
use Rattle.std.specs.Prelude.{ℕ, Bool, true, false, ◌||◌, not, cond, ltb, leb, eqb}
use Rattle.machine.specs.Setup.{setup_refusal}
use Rattle.scenario_lines.specs.declared.Line.{Line}
use Rattle.scenario_lines.specs.declared.Line.TheVariants.{Broken, Header, BadNumber, Lock, Pred as PredLine, Op, Run, NoKind}
use Rattle.scenario.specs.Names.{broken_line, wrong_line}
use Rattle.scenario.specs.Scenario.{Scenario, taken}
use Rattle.scenario.specs.declared.Stage.{Stage}
use Rattle.scenario.specs.declared.Stage.TheVariants.{Header as AtHeader, Lock as AtLock, Pred as AtPred, Ops as AtOps, Runs as AtRuns}

abbrev pub stage_no : Stage → ℕ
stage_no AtHeader = 0
stage_no AtLock = 1
stage_no AtPred = 2
stage_no AtOps = 3
stage_no AtRuns = 4

-- the two stages are one
abbrev pub at : Stage → Stage → Bool
at p q = eqb (stage_no p) (stage_no q)

-- 31. On line 1 no number is read; after it the header's last three fields are broken numbers
abbrev pub broken : Stage → Line → Bool
broken p Broken = true
broken p Header = not (at p AtHeader)
broken p BadNumber = not (at p AtHeader)
broken p (Lock m v n) = false
broken p (PredLine kind a b) = false
broken p (Op t code value) = false
broken p (Run t times) = false
broken p NoKind = false

-- 32
abbrev pub misplaced : Scenario → Line → Bool
misplaced s Broken = false
misplaced s Header = false
misplaced s BadNumber = true
misplaced s (Lock m v n) = not (at s.stage AtLock)
misplaced s (PredLine kind a b) = not (at s.stage AtPred)
misplaced s (Op t code value) = not (at s.stage AtOps) || (leb s.threads t || ltb t s.thread)
misplaced s (Run t times) = ltb (stage_no s.stage) 3
misplaced s NoKind = true

-- what setup answers to what is read
abbrev pub asked : Scenario → ℕ
asked s = setup_refusal s.pred s.top s.first s.lent s.threads

abbrev pub setup_number : Scenario → Line → ℕ
setup_number s Broken = 0
setup_number s Header = 0
setup_number s BadNumber = 0
setup_number s (Lock m v n) = 0
setup_number s (PredLine kind a b) = asked (taken s (PredLine kind a b))
setup_number s (Op t code value) = asked (taken s (Op t code value))
setup_number s (Run t times) = 0
setup_number s NoKind = 0

-- 0 for none
unfoldable pub refusal_of : Scenario → Line → ℕ
refusal_of s l = cond (broken s.stage l) broken_line (cond (misplaced s l) wrong_line (setup_number s l))
