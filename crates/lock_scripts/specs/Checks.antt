-- The second and the third of the checks of what is lent, each by itself, and a script's first wrong place from where the script starts.
use Rattle.std.specs.Prelude.{ℕ, ◌+◌, Bool, ◌&&◌, cond, List, Option, None, Some, eqb, ltb, length, get_or}
use Rattle.machine.specs.Names.{wrong_code}
use Rattle.machine.specs.Refusals.{Check, gives}
use Rattle.machine.specs.Lists.{Lent, total, scripts_of, find, wrong, wrong_thread}

-- the lengths sum up to the operations and to the values, and there is a record for each
abbrev pub fit : Lent → ℕ → Bool
fit s records = eqb (length s.ops) (total s.lens) && (eqb (length s.vals) (total s.lens) && eqb records (length s.lens))

abbrev pub code_check : Lent → Check
code_check s = gives wrong_code (ltb (wrong_thread (scripts_of s) (length s.lens)) (length s.lens))

-- the first wrong one of so many operations from a place of the lists on, counted from there
abbrev pub place_from : List ℕ → List ℕ → ℕ → ℕ → ℕ
place_from ops vals from len = find (λ k. wrong (get_or ops (from + k) 0) (get_or vals (from + k) 0)) 0 len

-- a number that a search has come to, where there are n
abbrev pub below : ℕ → ℕ → Option ℕ
below n k = cond (ltb k n) (Some k) None
