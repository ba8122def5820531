-- What setup answers, as a number; and that more than 16 threads are 1, whatever else is wrong. Assumes nothing.
use Rattle.std.proofs.Common.{◌≡◌, ℕ, ◌<◌, Bool, true, false, cond, eqb, [], replicate, sym, refl, arith, lt-ltb, ne_eqb, eqb-true}
use lib.ListN.{length-replicate}
use Rattle.cell.specs.declared.pred.Pred.{Pred}
use Rattle.machine.specs.Names.{thread_count, most_threads}
use Rattle.machine.specs.Words.{unused}
use Rattle.machine.specs.Refusals.{lowest}
use Rattle.machine.specs.Lists.{Lent, lists, beside}
use Rattle.machine.specs.Setup.{setup_refusal, setup}
use Rattle.std.specs.Prelude.{Err, Ok, Result}
use Rattle.machine.specs.declared.Refusal.{Refusal}
use Rattle.machine.specs.declared.Lock.{Lock}

-- 0 for none
abbrev pub start_no : Result Lock Refusal → ℕ
start_no (Ok lock) = 0
start_no (Err why) = why.number

by_number : (b : Bool) (q : Pred) (m v : ℕ) (s : Lent) (k : ℕ) → eqb k 0 ≡ b → start_no (cond b (Ok (unused q m v)) (Err (beside s k))) ≡ k
unfolding beside
by_number true q m v s k e = sym (eqb-true k 0 e)
by_number false q m v s k e = refl

pub answered : (q : Pred) (m v : ℕ) (s : Lent) (n : ℕ) → start_no (setup q m v s n) ≡ setup_refusal q m v s n
unfolding setup
answered q m v s n = by_number (eqb (setup_refusal q m v s n) 0) q m v s (setup_refusal q m v s n) refl

pub too_many : (q : Pred) (m v n : ℕ) → most_threads < n → thread_count ≡ setup_refusal q m v (lists (replicate n 0) [] []) n
unfolding setup_refusal lowest
too_many q m v n h = rw (length-replicate, ne_eqb n 0 (λ z. omega arith), lt-ltb most_threads n h)
