-- The checks of a run by value compare the count, and those over a list its length.
use mathlib.Core.Path.{sym, ap}
use Prim.Native.Nat.{ℕ}
use lib.ListN.{take}
use lib.Seq.{length-take-le}
use Rattle.machine.specs.Refusals.{lowest}
use Rattle.machine.specs.Lists.{scripts_of}
use Rattle.why.specs.Why.{why}
use Rattle.why.specs.Told.{told_by, why_refusal}
use Rattle.why_code.specs.ByValue.{why_checks_of, why_refusal_of, told_of}
use Rattle.why_code.specs.Laws.{AsLent}

pub as_lent : AsLent
unfolding told_of why_refusal_of why_refusal
as_lent s count L recs i few =
    let l = take count recs in
    ap (λ (n : ℕ). told_by s (lowest (why_checks_of s n L l i)) (why (scripts_of s) L l i)) (sym (length-take-le count recs few))
