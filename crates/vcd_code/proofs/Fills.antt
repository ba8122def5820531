-- Signals stored as words, one row after another. Assumes nothing.
use Prim.Native.Nat.{ℕ, zero, suc, ◌+◌, ◌*◌}
use mathlib.Core.Path.{◌≡◌, refl, sym, ap, subst}
use mathlib.Core.List.{List, [], ◌∷◌, ◌++◌}
use native.Mathlib.Omega.{arith}
use lib.ListN.{length, set, replicate}
use lib.Seq.{sets}
use Rattle.scenario_text.specs.Put.{Put}
use Rattle.scenario_text.proofs.Stores.{puts, both}
use Rattle.vcd.specs.Trace.{words}
use Rattle.vcd.specs.declared.Signals.{Signals}

pub words_append : (xs ys : List Signals) → words (xs ++ ys) ≡ words xs ++ words ys
unfolding words
words_append [] ys = refl
words_append (x ∷ xs) ys = rw (words_append xs ys)

-- ---- the loop over rows that are alike
still_length : (n : ℕ) (s : Signals) → length (words (replicate n s)) ≡ 2 * n
unfolding words
still_length zero s = refl
still_length (suc n) s = omega (arith, still_length n s)

module _ (s : Signals) (out : List ℕ) (p left : ℕ) where
  pub one_still : (q m : ℕ) → left ≡ m + 1 → q ≡ p + 2 → sets out p (words (replicate left s)) ≡ sets (set (set out p s.exc) (p + 1) s.rc) q (words (replicate m s))
  unfolding words
  one_still q m h g =
      let e : left ≡ suc m = omega arith in
      let one : p + 1 ≡ suc p = omega arith in
      let two : q ≡ suc (suc p) = omega arith in
      rw (one, two) (ap (λ (m : ℕ). sets out p (words (replicate m s))) e)

  pub none_still : left ≡ 0 → sets out p (words (replicate left s)) ≡ out
  unfolding words
  none_still e = ap (λ (m : ℕ). sets out p (words (replicate m s))) e

pub all_still : (s : Signals) (before out : List ℕ) (at n p : ℕ) → p ≡ at + 2 * n → out ≡ sets before at (words (replicate n s))
    → Put before at (words (replicate n s)) (2 * n) p out
all_still s before out at n p e f =
    let len = still_length n s in
    puts before out (words (replicate n s)) at p (2 * n) (omega (arith, e, len)) f (omega (arith, len))

-- ---- a row behind others
pub then_one : {o p q : List ℕ} {at m r : ℕ} (n : ℕ) (s x : Signals) → Put o at (words (replicate n s)) (2 * n) m p
    → Put p m (words (replicate 1 x)) (2 * 1) r q → Put o at (words (replicate n s ++ (x ∷ []))) (2 * (n + 1)) r q
then_one {o} {p} {q} {at} {m} {r} n s x a b =
    let e : 2 * n + 2 * 1 ≡ 2 * (n + 1) = omega arith in
    let f = sym (words_append (replicate n s) (x ∷ [])) in
    subst (λ (k : ℕ). Put o at (words (replicate n s ++ (x ∷ []))) k r q) e
    (subst (λ (w : List ℕ). Put o at w (2 * n + 2 * 1) r q) f (both a b))
