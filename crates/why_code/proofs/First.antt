-- The search of the definition is the library's: the first record that passes, if there is one.
use Rattle.std.proofs.Common.{◌≡◌, ℕ, zero, suc, ◌+◌, ◌≤◌, Bool, true, false, cond, length, sym, ap, arith, List}
use lib.Dec.{ltb}
use Rattle.std.specs.Prelude.{None, Some}
use Rattle.std.specs.List.{position, position_or_len}
use Rattle.std.proofs.lemmas.List.Sums.{position_or_len_is}
use Rattle.machine.specs.Words.{unbegun}
use Rattle.machine.specs.Lists.{find}
use Rattle.machine.specs.Step.{here}
use Rattle.machine.specs.declared.Rec.{Rec}
use Rattle.machine.proofs.Find.{found, first}
use Rattle.machine.proofs.Refusals.{not_so}
use Rattle.why.specs.Why.{first_of, blocker_of}

-- a search among so many ends there at the latest
ends : (test : ℕ → Bool) (at left : ℕ) → find test at left ≤ at + left
unfolding find
ends test at zero = omega arith
ends test at (suc left) = go (test at) (ends test (at + 1) left)
  where
    go : (b : Bool) → find test (at + 1) left ≤ at + 1 + left → cond b at (find test (at + 1) left) ≤ at + suc left
    go true h = omega arith
    go false h = omega (arith, h)

module _ (test : Rec → Bool) (l : List Rec) where
  first_is : position_or_len test l ≡ first_of test l
  first_is =
      let at = λ (k : ℕ). test (here l k) in
      position_or_len_is test l (first_of test l) unbegun (omega (arith, ends at 0 (length l)))
      (λ k lt. not_so (test (here l k)) (λ e. omega (arith, lt, ends at 0 (length l), first at (length l) k (omega (arith, lt, ends at 0 (length l))) e)))
      (found at (length l))

  pub blocker_is : blocker_of test l ≡ position test l
  blocker_is = ap (λ (w : ℕ). cond (ltb w (length l)) (Some w) None) (sym first_is)
