-- Whether a refusal was found can be told from what is answered.
use Rattle.lock.proofs.Told.{is_none, number_beside}
use Rattle.lock_promises.specs.Given.{refusal_in}
use Rattle.std.specs.Prelude.{None, Some, Option}
use Prim.Native.Nat.{ℕ}
use mathlib.Core.Path.{◌≡◌, refl, sym, ap, ◌∙◌}
use mathlib.Core.Bool.{Bool, true, false, cond}
use mathlib.Core.List.{List}
use lib.Dec.{eqb}
use lib.ListN.{take}
use package.borrow.Author.Tests.{eqb-true, eq-eqb}
use Rattle.machine.specs.Lists.{Lent, beside, some_refusal}
use Rattle.machine.specs.Run.{run_refusal, RunLeft, run_lent}
use Rattle.machine.specs.Drain.{drain_refusal, DrainLeft, drain_lent}
use Rattle.machine.specs.declared.Lock.{Lock}
use Rattle.machine.specs.declared.Rec.{Rec}
use Rattle.machine.specs.declared.Refusal.{Refusal}
use Rattle.lock.specs.ByValue.{run_refusal_of, run_of, drain_refusal_of, drain_of}
use Rattle.lock.specs.Run.{ran_of}
use Rattle.lock.specs.Drain.{drained_of}
use Rattle.lock.specs.declared.run.RunReturn.{RunReturn}
use Rattle.lock.specs.declared.drain.DrainReturn.{DrainReturn}

-- the answer is x where the refusal k is 0, and y where it is not
refusal_told : {A : Type 0} (of : A → Refusal) (s : Lent) (k : ℕ) (x y : A) → of x ≡ beside s 0 → of y ≡ beside s k → of (cond (eqb k 0) x y) ≡ beside s k
refusal_told {A} of s k x y none some = go (eqb k 0) refl
  where
    go : (b : Bool) → eqb k 0 ≡ b → of (cond b x y) ≡ beside s k
    go true e = none ∙ ap (beside s) (sym (eqb-true k 0 e))
    go false e = some

-- ---- of run and drain, over a list of records
pub run_told : (s : Lent) (L : Lock) (l : List Rec) (schedule : List ℕ) (budget : ℕ) (trace : List ℕ) (left : RunLeft)
    → left ≡ run_lent s L l schedule budget trace → left.refusal ≡ beside s (run_refusal s L l)
unfolding run_lent
run_told s L l schedule budget trace left is = rw is (refusal_told (λ (x : RunLeft). x.refusal) s (run_refusal s L l) _ _ refl refl)

pub drain_told : (s : Lent) (L : Lock) (l : List Rec) (left : DrainLeft) → left ≡ drain_lent s L l → left.refusal ≡ beside s (drain_refusal s L l)
unfolding drain_lent
drain_told s L l left is = rw is (refusal_told (λ (x : DrainLeft). x.refusal) s (drain_refusal s L l) _ _ refl refl)

-- ---- with records by value
pub in_some : (s : Lent) (k : ℕ) → refusal_in (some_refusal (beside s k)) ≡ beside s k
unfolding beside
in_some s k = go (eqb k 0) refl
  where
    go : (b : Bool) → eqb k 0 ≡ b → refusal_in (cond b None (Some (beside s k))) ≡ beside s k
    go true e = rw (eqb-true k 0 e) refl
    go false e = refl

pub none_number : (x : Refusal) → some_refusal x ≡ None → x.number ≡ 0
none_number x e = go (eqb x.number 0) refl e
  where
    go : (b : Bool) → eqb x.number 0 ≡ b → cond b None (Some x) ≡ None → x.number ≡ 0
    go true q f = eqb-true x.number 0 q
    go false q f = absurd (cc f)

pub number_none : (x : Refusal) → x.number ≡ 0 → some_refusal x ≡ None
number_none x e = rw (eq-eqb x.number 0 e) refl

pub none_in : (s : Lent) (k : ℕ) (told : Option Refusal) → told ≡ some_refusal (beside s k) → (refusal_in told).number ≡ 0 → told ≡ None
none_in s k told is none = is ∙ is_none s k (sym (ap (λ (o : Option Refusal). (refusal_in o).number) is ∙ ap (λ (x : Refusal). x.number) (in_some s k) ∙ number_beside s k) ∙ none)

pub run_told_by_value : (s : Lent) (count : ℕ) (L : Lock) (recs : List Rec) (schedule : List ℕ) (budget : ℕ) (trace : List ℕ) (r : RunReturn)
    → r ≡ ran_of count recs (run_of s count L recs schedule budget trace) → r.ran.refusal ≡ some_refusal (beside s (run_refusal_of s count L (take count recs)))
unfolding run_of
run_told_by_value s count L recs schedule budget trace r is =
    rw is (ap some_refusal (refusal_told (λ (x : RunLeft). x.refusal) s (run_refusal_of s count L (take count recs)) _ _ refl refl))

pub drain_told_by_value : (s : Lent) (count : ℕ) (L : Lock) (recs : List Rec) (d : DrainReturn) → d ≡ drained_of count recs (drain_of s count L recs)
    → d.drained.refusal ≡ some_refusal (beside s (drain_refusal_of s count L (take count recs)))
unfolding drain_of
drain_told_by_value s count L recs d is =
    rw is (ap some_refusal (refusal_told (λ (x : DrainLeft). x.refusal) s (drain_refusal_of s count L (take count recs)) _ _ refl refl))
