-- What is answered when it is called: the refusals of a run, then those of the next step, then the reason; and the same in numbers.
use Rattle.std.specs.Prelude.{ℕ, cond, List, ◌++◌, eqb, Err, Ok, Result}
use Rattle.machine.specs.Refusals.{Check, lowest}
use Rattle.machine.specs.Lists.{Lent, scripts_of, beside}
use Rattle.machine.specs.Step.{entry_checks}
use Rattle.machine.specs.Run.{run_checks}
use Rattle.machine.specs.declared.Lock.{Lock}
use Rattle.machine.specs.declared.Rec.{Rec}
use Rattle.why.specs.Why.{why, reason_no, who_no}
use Rattle.why.specs.declared.Reason.{Reason}
use Rattle.machine.specs.declared.Refusal.{Refusal}
use Rattle.why.specs.declared.Numbers.{Numbers}

-- by the refusal k, 0 for none, and the reason
unfoldable pub told_by : Lent → ℕ → Reason → Result Reason Refusal
told_by s k y = cond (eqb k 0) (Ok y) (Err (beside s k))

-- ---- over a list of records, of the thread i
abbrev pub why_checks : Lent → Lock → List Rec → ℕ → List Check
why_checks s L l i = run_checks s L l ++ entry_checks (scripts_of s) L l i

unfoldable pub why_refusal : Lent → Lock → List Rec → ℕ → ℕ
why_refusal s L l i = lowest (why_checks s L l i)

abbrev pub told_lent : Lent → Lock → List Rec → ℕ → Result Reason Refusal
told_lent s L l i = told_by s (why_refusal s L l i) (why (scripts_of s) L l i)

-- ---- in numbers: a refused step has no reason
abbrev pub numbers_of : Result Reason Refusal → Numbers
numbers_of (Err x) = record { answer = x.number; reason = 0; who = 0 }
numbers_of (Ok y) = record { answer = 0; reason = reason_no y; who = who_no y }
