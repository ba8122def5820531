-- What is answered with the records taken out is what is answered of the list. Where a run is refused, the refusal is the answer, also past
-- sixteen records; and where it is not, all records are in the array.
use Prim.Native.Nat.{ℕ}
use mathlib.Core.Path.{◌≡◌, refl, sym, ◌∙◌}
use mathlib.Core.Logic.{◌≢◌}
use mathlib.Core.Bool.{Bool, true, false}
use mathlib.Core.List.{List}
use lib.Dec.{eqb}
use lib.ListN.{length, take}
use package.borrow.Author.Tests.{eqb-true, eqb-false, ne_eqb}
use Rattle.machine.specs.Lists.{Lent}
use Rattle.machine.specs.Run.{run_refusal}
use Rattle.machine.specs.declared.Lock.{Lock}
use Rattle.machine.specs.declared.Rec.{Rec}
use Rattle.lock_lent.specs.Taken.{taken}
use Rattle.lock_lent.proofs.AnyLength.{taken_first, same_refusal, few_of_run}
use Rattle.why.specs.Told.{told_by, why_refusal, told_lent}
use Rattle.why_code.specs.ByValue.{why_refusal_of, told_of}
use Rattle.why_code.proofs.Calls.{run_first, run_first_of_list}
use Rattle.why_lent.specs.AnyLength.{ToldAnyLength}

module _ (s : Lent) (L : Lock) (l : List Rec) (i : ℕ) where
  -- the records as the one by value has them
  abbrev first : List Rec
  first = take (length l) (taken l)

  -- a refusal of the run is the answer's
  module _ (some : run_refusal s L l ≢ 0) where
    of_array : why_refusal_of s (length l) L first i ≡ run_refusal s L l
    of_array = run_first s (length l) L first i (λ z. some (sym (same_refusal s L l) ∙ z)) ∙ same_refusal s L l

  told : (b : Bool) → eqb (run_refusal s L l) 0 ≡ b → told_of s (length l) L (taken l) i ≡ told_lent s L l i
  unfolding told_of told_by why_refusal_of why_refusal
  told true e = rw (taken_first l (few_of_run s L l (eqb-true _ 0 e))) refl
  told false e = let some = eqb-false _ 0 e in rw (of_array some, run_first_of_list s L l i some, ne_eqb _ 0 some) refl

pub told_any_length : ToldAnyLength
told_any_length s L l i = told s L l i (eqb (run_refusal s L l) 0) refl
