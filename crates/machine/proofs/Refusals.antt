-- A list of checks whose numbers rise gives an exact answer, where each check that applies has its condition and each condition
-- has a check that applies.
use Prim.Native.Nat.{ℕ, ◌<◌, ◌≤◌}
use mathlib.Core.Path.{◌≡◌, refl, sym, ◌∙◌, subst}
use mathlib.Core.Logic.{◌≢◌, ◌⊎◌, inl, inr, ⊎_elim, ⊎_map}
use mathlib.Core.Bool.{Bool, true, false, ◌||◌, ◌&&◌, cond, false≢true}
use mathlib.Core.List.{List, [], ◌∷◌, ◌++◌}
use native.Mathlib.Omega.{arith}
use Rattle.machine.specs.Refusals.{Check, lowest, Lowest, Nothing, Exact}

-- some check with the number k applies
abbrev pub Applies : List Check → ℕ → Type 0
Applies [] k = ⊥
Applies (c ∷ more) k = ((c.number ≡ k) × (c.applies ≡ true)) ⊎ Applies more k

-- no check applies
abbrev pub Passed : List Check → Type 0
Passed [] = Unit {0}
Passed (c ∷ more) = (c.applies ≡ false) × Passed more

-- the numbers rise, from above b
abbrev pub Rising : ℕ → List Check → Type 0
Rising b [] = Unit {0}
Rising b (c ∷ more) = (b < c.number) × Rising c.number more

-- each check that applies has the condition of its number
abbrev pub Means : (ℕ → Type 0) → List Check → Type 0
Means When [] = Unit {0}
Means When (c ∷ more) = (c.applies ≡ true → When c.number) × Means When more

-- to write such a list out
infixr 3 ◌and◌
abbrev pub ◌and◌ : {A B : Type 0} → A → B → A × B
a and b = (a, b)

-- ---- a test put together of two, taken apart
pub either : {A : Type 0} (s t : Bool) → (s ≡ true → A) → (t ≡ true → A) → (s || t) ≡ true → A
either true t f g e = f refl
either false t f g e = g e

pub either_fails : {A : Type 0} (s t : Bool) → (s ≡ false → A) → (t ≡ false → A) → (s && t) ≡ false → A
either_fails true t f g e = g e
either_fails false t f g e = f refl

pub not_so : (b : Bool) → (b ≡ true → ⊥) → b ≡ false
not_so true h = absurd (h refl)
not_so false h = refl

-- ---- lists put together
pub applies_left : (xs ys : List Check) (k : ℕ) → Applies xs k → Applies (xs ++ ys) k
applies_left [] ys k a = absurd a
applies_left (c ∷ xs) ys k (inl h) = inl h
applies_left (c ∷ xs) ys k (inr a) = inr (applies_left xs ys k a)

pub means_append : (When : ℕ → Type 0) (xs ys : List Check) → Means When xs → Means When ys → Means When (xs ++ ys)
means_append When [] ys m n = n
means_append When (c ∷ xs) ys m n = (m.0, means_append When xs ys m.1 n)

pub means_map : (When More : ℕ → Type 0) → ((k : ℕ) → When k → More k) → (cs : List Check) → Means When cs → Means More cs
means_map When More f [] m = tt
means_map When More f (c ∷ cs) m = (λ t. f c.number (m.0 t), means_map When More f cs m.1)

-- ---- the answer 0
pub passed : (b : ℕ) (cs : List Check) → Rising b cs → lowest cs ≡ 0 → Passed cs
unfolding lowest
passed b [] r e = tt
passed b (c ∷ cs) r e = go c.applies refl e (passed c.number cs r.1)
  where
    go : (t : Bool) → c.applies ≡ t → cond t c.number (lowest cs) ≡ 0 → (lowest cs ≡ 0 → Passed cs) → Passed (c ∷ cs)
    go true a z more = absurd (omega (arith, r.0))
    go false a z more = (a, more z)

passed_none : (cs : List Check) (k : ℕ) → Passed cs → Applies cs k → ⊥
passed_none [] k p a = a
passed_none (c ∷ cs) k p (inl h) = false≢true (sym p.0 ∙ h.1)
passed_none (c ∷ cs) k p (inr a) = passed_none cs k p.1 a

pub none_applies : (cs : List Check) → Rising 0 cs → lowest cs ≡ 0 → (k : ℕ) → Applies cs k → ⊥
none_applies cs r e k = passed_none cs k (passed 0 cs r e)

-- ---- any other answer
-- the answer is 0, or the number of a check that applies
chosen : (cs : List Check) → (lowest cs ≡ 0) ⊎ Applies cs (lowest cs)
unfolding lowest
chosen [] = inl refl
chosen (c ∷ cs) = go c.applies refl (chosen cs)
  where
    go : (t : Bool) → c.applies ≡ t → (lowest cs ≡ 0) ⊎ Applies cs (lowest cs)
        → (cond t c.number (lowest cs) ≡ 0) ⊎ Applies (c ∷ cs) (cond t c.number (lowest cs))
    go true e more = inr (inl (refl, e))
    go false e (inl z) = inl z
    go false e (inr a) = inr (inr a)

above : (b : ℕ) (cs : List Check) (k : ℕ) → Rising b cs → Applies cs k → b < k
above b [] k r a = absurd a
above b (c ∷ cs) k r (inl h) = omega (arith, r.0, h.0)
above b (c ∷ cs) k r (inr a) = omega (arith, r.0, above c.number cs k r.1 a)

-- it is not past any check that applies
least : (b : ℕ) (cs : List Check) (k : ℕ) → Rising b cs → Applies cs k → lowest cs ≤ k
unfolding lowest
least b [] k r a = absurd a
least b (c ∷ cs) k r a = go c.applies refl a (least c.number cs k r.1)
  where
    go : (t : Bool) → c.applies ≡ t → Applies (c ∷ cs) k → (Applies cs k → lowest cs ≤ k) → cond t c.number (lowest cs) ≤ k
    go true e (inl h) more = omega (arith, h.0)
    go true e (inr h) more = omega (arith, above c.number cs k r.1 h)
    go false e (inl h) more = absurd (false≢true (sym e ∙ h.1))
    go false e (inr h) more = more h

-- ---- the answer is exact
means : (When : ℕ → Type 0) (cs : List Check) (k : ℕ) → Means When cs → Applies cs k → When k
means When [] k m a = absurd a
means When (c ∷ cs) k m (inl h) = subst When h.0 (m.0 h.1)
means When (c ∷ cs) k m (inr a) = means When cs k m.1 a

module _ (When : ℕ → Type 0) (cs : List Check) (r : Rising 0 cs) (m : Means When cs) (back : (k : ℕ) → When k → Applies cs k) where
  -- the answer's own condition holds, if the answer is not 0
  holds : (lowest cs ≡ 0) ⊎ When (lowest cs)
  holds = ⊎_map (λ z. z) (means When cs (lowest cs) m) (chosen cs)

  not_past : (k : ℕ) → When k → lowest cs ≤ k
  not_past k w = least 0 cs k r (back k w)

  not_zero : (k : ℕ) → When k → lowest cs ≡ 0 → ⊥
  not_zero k w e = none_applies cs r e k (back k w)

  answer_lowest : (k : ℕ) → k ≢ 0 → lowest cs ≡ k → Lowest When k
  answer_lowest k nz e = (subst When e (⊎_elim (λ z. absurd (omega arith)) (λ w. w) holds), λ j h w. omega (arith, not_past j w))

  lowest_answer : (k : ℕ) → Lowest When k → (lowest cs ≡ 0) ⊎ When (lowest cs) → lowest cs ≡ k
  lowest_answer k w (inl z) = absurd (not_zero k w.0 z)
  lowest_answer k w (inr v) = let no_lower : lowest cs < k → ⊥ = λ h. w.1 (lowest cs) h v in omega (arith, not_past k w.0)

  nothing_zero : Nothing When → (lowest cs ≡ 0) ⊎ When (lowest cs) → lowest cs ≡ 0
  nothing_zero none (inl z) = z
  nothing_zero none (inr w) = absurd (none (lowest cs) w)

  pub exact : Exact When (lowest cs)
  exact = (λ k nz. (answer_lowest k nz, λ w. lowest_answer k w holds), (λ e k w. not_zero k w e, λ none. nothing_zero none holds))
