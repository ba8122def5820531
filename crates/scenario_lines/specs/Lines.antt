-- The lines of a file: it is split at each CR LF and nowhere else, and the last CR LF is optional.
use Rattle.std.specs.Prelude.{ℕ, Bool, ◌&&◌, cond, List, [], ◌∷◌, eqb}

abbrev pub cr : ℕ
cr = 13

abbrev pub lf : ℕ
lf = 10

-- the two bytes are a break
abbrev pub breaks : ℕ → ℕ → Bool
breaks b c = eqb b cr && eqb c lf

-- a byte in front of the first line
abbrev pub glue : ℕ → List (List ℕ) → List (List ℕ)
glue b [] = (b ∷ []) ∷ []
glue b (l ∷ ls) = (b ∷ l) ∷ ls

unfoldable pub lines : List ℕ → List (List ℕ)
lines [] = []
lines (b ∷ []) = (b ∷ []) ∷ []
lines (b ∷ c ∷ r) = cond (breaks b c) ([] ∷ lines r) (glue b (lines (c ∷ r)))

-- a reading of a file: from a state, each line in turn
module _ {S : Type 0} (next : S → List ℕ → S) where
  unfoldable pub across : S → List (List ℕ) → S
  across s [] = s
  across s (l ∷ ls) = across (next s l) ls

  abbrev pub whole : S → List ℕ → S
  whole s file = across s (lines file)
