-- Schedules from setup in which the bounds are reached, so that neither can be lower. Each is computed, with its accesses written out.
use Rattle.std.specs.Prelude.{ℕ, ◌≡◌, List, [], ◌∷◌, ◌++◌, map, length, replicate}
use Rattle.cell.specs.declared.pred.Pred.TheVariants.{Any}
use Rattle.machine.specs.Words.{unused}
use Rattle.machine.specs.Lists.{Lent, lists, scripts_of}
use Rattle.machine.specs.Setup.{fresh, setup}
use Rattle.machine.specs.Run.{run}
use Rattle.retries.specs.Rows.{counted}
use Rattle.machine.specs.declared.Row.{Row}
use Rattle.std.specs.Prelude.{Ok}
use Rattle.retries.specs.Retries.{lost, changes, lost_by, changed_by, changed_by_others, most_lost}

-- a setup with these scripts is not refused: any value is permitted, the first is 5, M is 3
abbrev Begins : Lent → Type 0
Begins s = setup Any 3 5 s (length s.lens) ≡ Ok (unused Any 3 5)

-- the rows of a schedule behind it
abbrev rows_of : Lent → List ℕ → List Row
rows_of s schedule = (run (scripts_of s) (unused Any 3 5) (fresh (length s.lens)) schedule).rows

abbrev accesses : List Row → List ℕ
accesses rows = map (λ r. r.access) rows

-- ---- one thread
-- Thread 0 reads and releases. Thread 1 does so, then writes and drops its handle, so that the flag stays up, and reads again: it has to give back.
abbrev two : Lent
two = lists (2 ∷ 5 ∷ []) (1 ∷ 3 ∷ 1 ∷ 3 ∷ 4 ∷ 6 ∷ 1 ∷ []) (0 ∷ 0 ∷ 0 ∷ 0 ∷ 0 ∷ 0 ∷ 0 ∷ [])

-- thread 0 looks before each change that thread 1 makes, and tries behind it; at the end it comes through. One entry is refused
abbrev pub schedule_one : List ℕ
schedule_one =
    0 ∷ 1 ∷ 1 ∷ 0
    ∷ 0 ∷ 1 ∷ 1 ∷ 0
    ∷ 1 ∷ 1 ∷ 1 ∷ 1
    ∷ 0 ∷ 1 ∷ 1 ∷ 0
    ∷ 0 ∷ 1 ∷ 1 ∷ 0
    ∷ 9
    ∷ 0 ∷ 0
    ∷ []

-- its rows 13 are as many as the rows 2, 4 and 6 of the other, of which there is each kind; its own row 2 does not count among them
abbrev pub OneReached : Type 0
OneReached =
    let rows = rows_of two schedule_one in
    Begins two
    × (accesses rows
    ≡ 1 ∷ 1 ∷ 2 ∷ 13
    ∷ 1 ∷ 3 ∷ 6 ∷ 13
    ∷ 7 ∷ 8 ∷ 9 ∷ 12
    ∷ 1 ∷ 1 ∷ 2 ∷ 13
    ∷ 1 ∷ 3 ∷ 4 ∷ 13
    ∷ 0
    ∷ 1 ∷ 2
    ∷ [])
    × (lost_by 0 rows ≡ 4)
    × (changed_by_others 0 rows ≡ 4)
    × (changed_by 0 rows ≡ 1)

-- ---- all threads
-- Thread 0 does what thread 1 did, and threads 1 and 2 look before each of its changes and try behind it.
abbrev three : Lent
three = lists (5 ∷ 1 ∷ 1 ∷ []) (1 ∷ 3 ∷ 4 ∷ 6 ∷ 1 ∷ 1 ∷ 1 ∷ []) (0 ∷ 0 ∷ 0 ∷ 0 ∷ 0 ∷ 0 ∷ 0 ∷ [])

abbrev pub schedule_all : List ℕ
schedule_all =
    1 ∷ 2 ∷ 0 ∷ 0 ∷ 1 ∷ 2
    ∷ 1 ∷ 2 ∷ 0 ∷ 0 ∷ 1 ∷ 2
    ∷ 0 ∷ 0 ∷ 0 ∷ 0
    ∷ 1 ∷ 2 ∷ 0 ∷ 0 ∷ 1 ∷ 2
    ∷ 7
    ∷ 1 ∷ 2 ∷ 0 ∷ 0 ∷ 1 ∷ 2
    ∷ []

-- all rows 13 together are (3 - 1) times all rows 2, 4 and 6
abbrev pub AllReached : Type 0
AllReached =
    let rows = rows_of three schedule_all in
    Begins three
    × (accesses rows
    ≡ 1 ∷ 1 ∷ 1 ∷ 2 ∷ 13 ∷ 13
    ∷ 1 ∷ 1 ∷ 3 ∷ 6 ∷ 13 ∷ 13
    ∷ 7 ∷ 8 ∷ 9 ∷ 12
    ∷ 1 ∷ 1 ∷ 1 ∷ 2 ∷ 13 ∷ 13
    ∷ 0
    ∷ 1 ∷ 1 ∷ 3 ∷ 4 ∷ 13 ∷ 13
    ∷ [])
    × (counted lost rows ≡ 8)
    × (counted changes rows ≡ 4)
    × (most_lost 3 rows ≡ 8)

-- ---- sixteen threads
-- all of them read: fifteen look, the first gets in, and the fifteen fail
abbrev sixteen : Lent
sixteen = lists (replicate 16 1) (replicate 16 1) (replicate 16 0)

abbrev pub fifteen : List ℕ
fifteen = 1 ∷ 2 ∷ 3 ∷ 4 ∷ 5 ∷ 6 ∷ 7 ∷ 8 ∷ 9 ∷ 10 ∷ 11 ∷ 12 ∷ 13 ∷ 14 ∷ 15 ∷ []

abbrev pub SixteenReached : Type 0
SixteenReached =
    let rows = rows_of sixteen (fifteen ++ (0 ∷ 0 ∷ []) ++ fifteen) in
    Begins sixteen × (counted lost rows ≡ 15) × (counted changes rows ≡ 1) × (most_lost 16 rows ≡ 15)

abbrev pub Cases : Type 0
Cases = OneReached × AllReached × SixteenReached
