-- What is answered with records by value: the records are the first `count` of an array of sixteen, and check 6 compares the count itself.
use Rattle.std.specs.Prelude.{ℕ, List, ◌++◌, take, Result}
use Rattle.machine.specs.Refusals.{Check, lowest}
use Rattle.machine.specs.Lists.{Lent, scripts_of}
use Rattle.machine.specs.Step.{entry_checks}
use Rattle.machine.specs.declared.Lock.{Lock}
use Rattle.machine.specs.declared.Rec.{Rec}
use Rattle.lock.specs.ByValue.{run_checks_of}
use Rattle.why.specs.Why.{why}
use Rattle.why.specs.Told.{told_by}
use Rattle.why.specs.declared.Reason.{Reason}
use Rattle.machine.specs.declared.Refusal.{Refusal}

abbrev pub why_checks_of : Lent → ℕ → Lock → List Rec → ℕ → List Check
why_checks_of s count L l i = run_checks_of s count L l ++ entry_checks (scripts_of s) L l i

unfoldable pub why_refusal_of : Lent → ℕ → Lock → List Rec → ℕ → ℕ
why_refusal_of s count L l i = lowest (why_checks_of s count L l i)

-- the array is recs, and the thread i
unfoldable pub told_of : Lent → ℕ → Lock → List Rec → ℕ → Result Reason Refusal
told_of s count L recs i =
    let l = take count recs in
    told_by s (why_refusal_of s count L l i) (why (scripts_of s) L l i)
