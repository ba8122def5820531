-- Lists as the replays look at them: a part, the place of a byte, and a list that starts so and is one number behind.
use Rattle.std.specs.Prelude.{ℕ, suc, ◌+◌, ◌-◌, Bool, true, false, ◌&&◌, cond, List, [], ◌∷◌, eqb, leb, length, take, drop}

-- from a place up to another; none where that lies past the end
unfoldable pub part_of : {A : Type 0} → ℕ → ℕ → List A → List A
part_of from to l = cond (leb to (length l)) (take (to - from) (drop from l)) []

-- how many stand before the first b
unfoldable pub place_of : ℕ → List ℕ → ℕ
place_of b [] = 0
place_of b (x ∷ l) = cond (eqb x b) 0 (suc (place_of b l))

abbrev pub place_from : ℕ → ℕ → List ℕ → ℕ
place_from b from l = from + place_of b (drop from l)

-- a list starts with a front, and is the other number from there on
unfoldable pub front_then : ℕ → List ℕ → List ℕ → Bool
front_then other [] [] = true
front_then other [] (y ∷ front) = false
front_then other (x ∷ l) [] = eqb x other && front_then other l []
front_then other (x ∷ l) (y ∷ front) = eqb x y && front_then other l front
