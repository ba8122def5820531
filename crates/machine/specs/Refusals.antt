-- How a refusal is chosen: a list of checks in the order of their numbers, of which the first that applies gives the answer; and
-- what it means that an answer is exact.
use Rattle.std.specs.Prelude.{ℕ, ◌<◌, Bool, cond, List, [], ◌∷◌, ◌≡◌, ◌≢◌, ◌↔◌}

-- a refusal's number, and whether it applies
pub record Check : Type 0 where
  pub number : ℕ
  pub applies : Bool

abbrev pub gives : ℕ → Bool → Check
gives n b = record { number = n; applies = b }

-- the number of the first check that applies, 0 if none does
unfoldable pub lowest : List Check → ℕ
lowest [] = 0
lowest (c ∷ more) = cond c.applies c.number (lowest more)

-- `When k`: the condition of the number k, in the words of the table of refusals
module _ (When : ℕ → Type 0) where
  -- k's condition holds and no lower one does
  abbrev pub Lowest : ℕ → Type 0
  Lowest k = When k × ((j : ℕ) → j < k → When j → ⊥)

  abbrev pub Nothing : Type 0
  Nothing = (k : ℕ) → When k → ⊥

  -- the answer is k exactly if k's condition holds and no lower one does, and 0 exactly if none holds
  abbrev pub Exact : ℕ → Type 0
  Exact answer = ((k : ℕ) → k ≢ 0 → (answer ≡ k) ↔ Lowest k) × ((answer ≡ 0) ↔ Nothing)
