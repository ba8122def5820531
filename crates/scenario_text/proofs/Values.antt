-- The digits of a number in any base read back as the number, each of them is a digit, and the first is not 0 but for zero. Assumes nothing.
use Prim.Native.Nat.{ℕ, zero, suc, ◌+◌, ◌*◌, ◌/◌, ◌%◌, ◌^◌, ◌<◌, ◌≤◌}
use mathlib.Core.Path.{◌≡◌, refl, ap, ◌∙◌}
use mathlib.Core.List.{List, [], ◌∷◌, ◌++◌, append_assoc, append-nil}
use native.Mathlib.Omega.{arith}
use native.Mathlib.Nat.{div-add-mod', div-le_self, mod-lt, le-div_iff_mul-le}
use lib.ListN.{get_or}
use Rattle.scenario_text.specs.Number.{digits_to}
use Rattle.scenario_text.proofs.Digits.{by_digits, all_digits}

module _ (b : ℕ) (pos : 0 < b) where
  -- ---- a reader K that takes a digit behind those that make a number, where it is then below m
  module _ (m : ℕ) (K : ℕ → List ℕ → ℕ) (step : (a d : ℕ) (l : List ℕ) → d < b → a * b + d < m → K a ((48 + d) ∷ l) ≡ K (a * b + d) l) where
    first : (v : ℕ) (l : List ℕ) → v < b → v < m → K 0 ((48 + v) ∷ l) ≡ K v l
    first v l h g =
        let e : 0 * b + v ≡ v = omega arith in
        step 0 v l h (omega arith) ∙ ap (λ (n : ℕ). K n l) e

    behind : (v : ℕ) (s l : List ℕ) → v < m → K 0 (s ++ ((48 + v % b) ∷ l)) ≡ K (v / b) ((48 + v % b) ∷ l) → K 0 ((s ++ ((48 + v % b) ∷ [])) ++ l) ≡ K v l
    behind v s l g e =
        let last = step (v / b) (v % b) l (mod-lt v pos) (omega (arith, div-add-mod' v b)) in
        rw (append_assoc s ((48 + v % b) ∷ []) l) (e ∙ last ∙ ap (λ (n : ℕ). K n l) (div-add-mod' v b))

    pub taken : (k v : ℕ) → v < b ^ suc k → v < m → (l : List ℕ) → K 0 (digits_to b (suc k) v ++ l) ≡ K v l
    taken = all_digits b pos (λ (k v : ℕ) (s : List ℕ). v < m → (l : List ℕ) → K 0 (s ++ l) ≡ K v l) (λ k v h g l. first v l h g)
        (λ k v s h ih g l. behind v s l g (ih (omega (arith, div-le_self v b)) ((48 + v % b) ∷ l)))

    pub value : (k v : ℕ) → v < b ^ suc k → v < m → K 0 (digits_to b (suc k) v) ≡ K v []
    value k v h g = rw append-nil at (taken k v h g [])

  -- ---- a test F that passes over a digit
  module _ {X : Type 0} (F : List ℕ → X) (step : (d : ℕ) (l : List ℕ) → d < b → F ((48 + d) ∷ l) ≡ F l) where
    passed : (k v : ℕ) (l : List ℕ) → F (digits_to b k v ++ l) ≡ F l
    unfolding digits_to
    passed zero v l = refl
    passed (suc k) v l =
        by_digits (λ (s : List ℕ). F (s ++ l) ≡ F l) b k v (λ h. step v l h)
        (λ h. rw (append_assoc (digits_to b k (v / b)) ((48 + v % b) ∷ []) l)
        (passed k (v / b) ((48 + v % b) ∷ l) ∙ step (v % b) l (mod-lt v pos)))

    pub all_passed : (k v : ℕ) → F (digits_to b k v) ≡ F []
    all_passed k v = rw append-nil at (passed k v [])

  -- ---- the first digit
  not_zero : (v : ℕ) → b ≤ v → 0 < v / b
  not_zero v h = (le-div_iff_mul-le {k = b} {x = 1} {y = v} pos).1 (omega arith)

  -- what holds of every digit but 0
  module _ (P : ℕ → Type 0) (each : (d : ℕ) → 0 < d → d < b → P (48 + d)) where
    in_front : (k v : ℕ) → v < b ^ suc k → 0 < v → (l : List ℕ) → P (get_or (digits_to b (suc k) v ++ l) 0 0)
    in_front = all_digits b pos (λ (k v : ℕ) (s : List ℕ). 0 < v → (l : List ℕ) → P (get_or (s ++ l) 0 0)) (λ k v h g l. each v g h)
        (λ k v s h ih g l. rw (append_assoc s ((48 + v % b) ∷ []) l) (ih (not_zero v h) ((48 + v % b) ∷ l)))

    pub leads : (k v : ℕ) → v < b ^ suc k → 0 < v → P (get_or (digits_to b (suc k) v) 0 0)
    leads k v h g = rw append-nil at (in_front k v h g [])
