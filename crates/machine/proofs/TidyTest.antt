-- The test `tidy` is true exactly at the tidy states: the rest of a script both ways by its length, then the lock and every record.
use Prim.Native.Nat.{ℕ, zero, suc, ◌+◌, ◌-◌, ◌<◌, ◌≤◌}
use mathlib.Core.Path.{◌≡◌, refl}
use mathlib.Core.Logic.Iff
use mathlib.Core.Logic.{◌⊎◌, inl, inr, ⊎_elim}
use mathlib.Core.Bool.{Bool, true, false, ◌&&◌, cond, false≢true}
use native.Mathlib.Omega.{arith}
use lib.Dec.{eqb}
use package.borrow.Author.Tests.{eqb-true}
use Rattle.cell.specs.Pred.{permits}
use Rattle.cell.specs.declared.pred.Pred.{Pred}
use Rattle.machine.specs.Names.{acquire_read, borrows, release_read, acquire_write, release_write}
use Rattle.machine.specs.Tidy.{Mode, Free, InRead, InWrite, mode_of, Rest, ends, reads, lends, returns, writes, puts, TidyRec, Clean, tidy_rest, test_rest, is_clean, tidy}
use Rattle.machine.specs.Tested.{TidyTested}
use Rattle.machine.specs.declared.Lock.{Lock}
use Rattle.machine.specs.declared.Rec.{Rec}
use Rattle.machine.proofs.Every.{Says, says_leb, says_eqb, says_so, says_not, and_both, and_three, every_says}

-- ---- the tests that a row of `tidy_rest` joins
-- one operation or else another, and what follows each
chosen : (o a b : ℕ) {x y : Bool} → cond (eqb o a) x (eqb o b && y) ≡ true → ((o ≡ a) × (x ≡ true)) ⊎ ((o ≡ b) × (y ≡ true))
chosen o a b {x} {y} t = go (eqb o a) refl t
  where
    go : (c : Bool) → eqb o a ≡ c → cond c x (eqb o b && y) ≡ true → ((o ≡ a) × (x ≡ true)) ⊎ ((o ≡ b) × (y ≡ true))
    go true e t = inl (eqb-true o a e, t)
    go false e t = inr ((and_both (says_eqb o b) (says_so y)).0 t)

module _ (q : Pred) (n : ℕ) (ops vals : ℕ → ℕ) where
  rest_of : (left : ℕ) (m : Mode) (at : ℕ) → at + left ≡ n → tidy_rest q ops vals m at left ≡ true → Rest q n ops vals m at
  unfolding tidy_rest
  rest_of zero Free at e t = let z : at ≡ n = omega arith in ends z
  rest_of zero InRead at e t = absurd (false≢true t)
  rest_of zero InWrite at e t = absurd (false≢true t)
  rest_of (suc k) Free at e t =
      let lt : at < n = omega arith in
      ⊎_elim (λ w. reads lt w.0 (rest_of k InRead (at + 1) (omega arith) w.1))
      (λ w. writes lt w.0 (rest_of k InWrite (at + 1) (omega arith) w.1)) (chosen (ops at) acquire_read acquire_write t)
  rest_of (suc k) InRead at e t =
      let lt : at < n = omega arith in
      ⊎_elim (λ w. lends lt w.0 (rest_of k InRead (at + 1) (omega arith) w.1))
      (λ w. returns lt w.0 (rest_of k Free (at + 1) (omega arith) w.1)) (chosen (ops at) borrows release_read t)
  rest_of (suc k) InWrite at e t =
      let lt : at < n = omega arith in
      let w = (and_three (says_eqb (ops at) release_write) (says_so (permits q (vals at))) (says_so _)).0 t in
      puts lt w.0 w.1 (rest_of k Free (at + 1) (omega arith) w.2)

  of_rest : (left : ℕ) (m : Mode) (at : ℕ) → at + left ≡ n → Rest q n ops vals m at → tidy_rest q ops vals m at left ≡ true
  unfolding tidy_rest
  of_rest zero Free at e t = refl
  of_rest zero InRead at e (lends h o t) = absurd (omega arith)
  of_rest zero InRead at e (returns h o t) = absurd (omega arith)
  of_rest zero InWrite at e (puts h o ok t) = absurd (omega arith)
  of_rest (suc k) Free at e (ends h) = absurd (omega arith)
  of_rest (suc k) Free at e (reads h o t) = rw o (of_rest k InRead (at + 1) (omega arith) t)
  of_rest (suc k) Free at e (writes h o t) = rw o (of_rest k InWrite (at + 1) (omega arith) t)
  of_rest (suc k) InRead at e (lends h o t) = rw o (of_rest k InRead (at + 1) (omega arith) t)
  of_rest (suc k) InRead at e (returns h o t) = rw o (of_rest k Free (at + 1) (omega arith) t)
  of_rest (suc k) InWrite at e (puts h o ok t) = rw (o, ok) (of_rest k Free (at + 1) (omega arith) t)

  -- a tidy rest starts inside the script
  rest_inside : {m : Mode} {at : ℕ} → Rest q n ops vals m at → at ≤ n
  rest_inside (ends h) = omega arith
  rest_inside (reads h o t) = omega arith
  rest_inside (lends h o t) = omega arith
  rest_inside (returns h o t) = omega arith
  rest_inside (writes h o t) = omega arith
  rest_inside (puts h o ok t) = omega arith

  says_rest : (r : Rec) → Says (test_rest q n ops vals r) (TidyRec q n ops vals r)
  says_rest r =
      Iff.trans (and_both (says_leb r.at n) (says_so _)) (
        λ p. let z : r.at ≤ n = p.0 in rest_of (n - r.at) (mode_of r.place) r.at (omega arith) p.1,
        λ t. (rest_inside t, let z : r.at ≤ n = rest_inside t in of_rest (n - r.at) (mode_of r.place) r.at (omega arith) t),
      )

says_clean : (L : Lock) → Says (is_clean L) (Clean L)
says_clean L = and_both (says_eqb _ 0) (says_not L.finished)

pub tidy_tested : TidyTested
unfolding tidy
tidy_tested S L l =
    Iff.trans (and_both (says_clean L) (every_says _ _ (λ j r. says_rest L.pred (S.len j) (S.op j) (S.val j) r) l))
    (λ p. record { clean = p.0; rest = p.1 }, λ h. (h.clean, h.rest))
