-- What the rows of a trace say of the value: the last finished release, and each thread's script place. Rows are given with the
-- latest first, since they are read backwards.
use Rattle.std.specs.Prelude.{ℕ, ◌+◌, ◌≡◌, Bool, ◌||◌, ◌&&◌, cond, List, [], ◌∷◌, eqb}
use Rattle.machine.specs.Names.{release_write, loads_exc, borrows_cell, releases_rc, takes_cell, puts_cell, stores_exc, drops_handle}
use Rattle.machine.specs.Words.{bit}
use Rattle.machine.specs.Step.{Scripts}
use Rattle.machine.specs.declared.Row.{Row}

-- what thread t put last
unfoldable pub put_by : ℕ → List Row → ℕ
put_by t [] = 0
put_by t (r ∷ past) = cond (eqb r.access puts_cell) (cond (eqb r.thread t) r.got (put_by t past)) (put_by t past)

-- what the last finished release put, or the first value v: the latest row 11, and the last row 10 of the same thread before it
unfoldable pub current : ℕ → List Row → ℕ
current v [] = v
current v (r ∷ past) = cond (eqb r.access stores_exc) (put_by r.thread past) (current v past)

-- the rows with which the script place moves on
abbrev pub moves_on : ℕ → ℕ → Bool
moves_on access got =
    (eqb access loads_exc && eqb got 0)
    || (eqb access borrows_cell || (eqb access releases_rc || (eqb access takes_cell || (eqb access stores_exc || eqb access drops_handle))))

-- thread t's script place
unfoldable pub place_of : ℕ → List Row → ℕ
place_of t [] = 0
place_of t (r ∷ past) = cond (eqb r.thread t) (place_of t past + bit (moves_on r.access r.got)) (place_of t past)

-- each borrow and each take got what the last finished release before it put, or the first value v; and each put put what the
-- script has there, which is a release
unfoldable pub Told : Scripts → ℕ → List Row → Type 0
Told S v [] = Unit {0}
Told S v (r ∷ past) =
    (r.access ≡ borrows_cell → r.got ≡ current v past)
    × (r.access ≡ takes_cell → r.got ≡ current v past)
    × (r.access ≡ puts_cell
    → (S.op r.thread (place_of r.thread past) ≡ release_write) × (r.got ≡ S.val r.thread (place_of r.thread past)))
    × Told S v past

-- every borrow of these rows got x
unfoldable pub Borrowed : ℕ → List Row → Type 0
Borrowed x [] = Unit {0}
Borrowed x (r ∷ rows) = (r.access ≡ borrows_cell → r.got ≡ x) × Borrowed x rows
