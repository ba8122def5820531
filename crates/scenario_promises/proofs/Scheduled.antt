-- A reading that has come to the run lines has entries: a run line adds at least one. Assumes nothing.
use Prim.Native.Nat.{ℕ, ◌+◌, ◌<◌}
use mathlib.Core.Bool.{Bool, true, false, cond}
use mathlib.Core.Path.{◌≡◌, ap}
use mathlib.Core.List.{List}
use native.Mathlib.Omega.{arith}
use lib.Dec.{eqb}
use lib.ListN.{length, replicate, length-append, length-replicate}
use Rattle.scenario_lines.specs.Bytes.{feed, finish}
use Rattle.scenario_lines.specs.Judge.{judge}
use Rattle.scenario_lines.specs.declared.Line.{Line}
use Rattle.scenario_lines.specs.declared.Line.TheVariants.{Broken, Header, BadNumber, Lock, Pred as PredLine, Op, Run, NoKind}
use Rattle.scenario.specs.Scenario.{Scenario, taken}
use Rattle.scenario.specs.Refused.{stage_no, refusal_of}
use Rattle.scenario.specs.Printed.{Reading, reading, next, reading_of}
use Rattle.scenario.specs.ByBytes.{unread}
use Rattle.scenario.specs.declared.Stage.TheVariants.{Runs as AtRuns}
use Rattle.scenario.proofs.ByBytes.{read_by_bytes}
use Rattle.scenario_promises.proofs.Onward.{all_keep, ended_same}
use Rattle.scenario_promises.proofs.Times.{judge_by}

-- how many entries a run line adds
abbrev times : Line → ℕ
times Broken = 1
times Header = 1
times BadNumber = 1
times (Lock a b c) = 1
times (PredLine a b c) = 1
times (Op a b c) = 1
times (Run t n) = n
times NoKind = 1

abbrev Some : Line → Type 0
Some l = 0 < times l

judge_some : (l : List ℕ) → Some (judge l)
judge_some =
    judge_by Some (omega arith) (omega arith) (omega arith) (λ a b c. omega arith) (λ a b c. omega arith) (λ a b c. omega arith) (λ t n some most. some)
    (omega arith)

abbrev pub Scheduled : Scenario → Type 0
Scheduled s = s.stage ≡ AtRuns → 0 < length s.schedule

taken_scheduled : (s : Scenario) (l : Line) → Some l → Scheduled s → Scheduled (taken s l)
unfolding taken
taken_scheduled s Broken some h = h
taken_scheduled s Header some h = λ e. let n = ap stage_no e in absurd (omega arith)
taken_scheduled s BadNumber some h = h
taken_scheduled s (Lock a b c) some h = λ e. let n = ap stage_no e in absurd (omega arith)
taken_scheduled s (PredLine a b c) some h = λ e. let n = ap stage_no e in absurd (omega arith)
taken_scheduled s (Op a b c) some h = h
taken_scheduled s (Run t n) some h = λ e. omega (arith, length-append s.schedule (replicate n t), length-replicate n t)
taken_scheduled s NoKind some h = h

next_scheduled : (q : Reading) (l : List ℕ) → Scheduled q.scenario → Scheduled (next q l).scenario
unfolding next
next_scheduled q l h = go (eqb q.refused 0) (eqb (refusal_of q.scenario (judge l)) 0)
  where
    go : (b c : Bool) → let s = q.scenario in
        Scheduled (cond b (reading (q.line + 1) (refusal_of s (judge l)) (cond c (taken s (judge l)) s)) q).scenario
    go true true = taken_scheduled q.scenario (judge l) (judge_some l) h
    go true false = h
    go false c = h

pub file_scheduled : (file : List ℕ) → Scheduled (reading_of file).scenario
file_scheduled file =
    rw (read_by_bytes file, ended_same (finish next (feed next unread file)))
    (all_keep (λ (q : Reading). Scheduled q.scenario) next_scheduled unread file (λ e. let n = ap stage_no e in absurd (omega arith)))
