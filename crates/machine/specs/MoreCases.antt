-- More cases beside A to L: into_inner after a dropped write, drops, many readers, the order of a drain, an exchange above 1, the
-- value taken, the bound of a drain, what a failed exchange found. Locks, records and rows are written out.
use Rattle.std.specs.Prelude.{ℕ, ◌^◌, ◌-◌, ◌≡◌, true, false, List, [], ◌∷◌, map, replicate}
use Rattle.cell.specs.declared.pred.Pred.TheVariants.{Any, Either}
use Rattle.std.specs.Prelude.{None, Some}
use Rattle.machine.specs.Numbers.{lock_of, rec_of, idle, alone, two}
use Rattle.machine.specs.Lists.{Lent, lists, scripts_of}
use Rattle.machine.specs.Run.{run}
use Rattle.machine.specs.Tidy.{bound}
use Rattle.machine.specs.Drain.{drain}
use Rattle.machine.specs.Cases.{starving, lock_l, recs_l}
use Rattle.machine.specs.declared.Lock.{Lock}
use Rattle.machine.specs.declared.Row.{Row}
use Rattle.machine.specs.declared.Place.TheVariants.{Idle, ReadTry, ReadCheck, Reading, WriteWait, Writing, WritePut}

abbrev row : ℕ → ℕ → ℕ → ℕ → ℕ → ℕ → Row
row thread access answer got exc rc = record { thread = thread; access = access; answer = answer; got = got; exc = exc; rc = rc }

-- any value is permitted, and 5 is in the cell; M is m, and so many readers are counted
abbrev counting : ℕ → ℕ → Lock
counting m n = lock_of Any m false n (Some 5) 0 0 None false

-- ---- a: after a dropped write the first step of into_inner fails each time, and makes the mover all the same: the third thread is refused
abbrev after_drop : Lent
after_drop = lists (2 ∷ 1 ∷ 1 ∷ []) (4 ∷ 6 ∷ 7 ∷ 1 ∷ []) (0 ∷ 0 ∷ 0 ∷ 0 ∷ [])

abbrev pub FailedInto : Type 0
FailedInto =
    let w = run (scripts_of after_drop) (counting 3 0) (replicate 3 idle) (0 ∷ 0 ∷ 0 ∷ 0 ∷ 1 ∷ 2 ∷ 1 ∷ []) in
    (w.rows
    ≡ row 0 7 0 0 1 0
    ∷ row 0 8 0 0 1 0
    ∷ row 0 9 0 5 1 0
    ∷ row 0 12 0 0 1 0
    ∷ row 1 14 0 1 1 0
    ∷ row 2 0 13 0 1 0
    ∷ row 1 14 0 1 1 0
    ∷ [])
    × (w.lock ≡ lock_of Any 3 true 0 None 0 1 (Some 1) false)
    × (w.recs ≡ rec_of 2 Idle 0 0 ∷ idle ∷ idle ∷ [])

-- ---- b: a dropped read leaves the count, a dropped write the flag and the empty cell; the records are Idle, one operation on
abbrev pub DroppedRead : Type 0
DroppedRead =
    let w = run (scripts_of (alone (1 ∷ 6 ∷ []))) (counting 3 0) (idle ∷ []) (0 ∷ 0 ∷ 0 ∷ 0 ∷ []) in
    (w.rows ≡ row 0 1 0 0 0 0 ∷ row 0 2 0 0 0 1 ∷ row 0 3 0 0 0 1 ∷ row 0 12 0 0 0 1 ∷ [])
    × (w.lock ≡ lock_of Any 3 false 1 (Some 5) 1 0 None false)
    × (w.recs ≡ rec_of 2 Idle 0 0 ∷ [])

abbrev pub DroppedWrite : Type 0
DroppedWrite =
    let w = run (scripts_of (alone (4 ∷ 6 ∷ []))) (counting 3 0) (idle ∷ []) (0 ∷ 0 ∷ 0 ∷ 0 ∷ []) in
    (w.rows ≡ row 0 7 0 0 1 0 ∷ row 0 8 0 0 1 0 ∷ row 0 9 0 5 1 0 ∷ row 0 12 0 0 1 0 ∷ [])
    × (w.lock ≡ lock_of Any 3 true 0 None 0 1 None false)
    × (w.recs ≡ rec_of 2 Idle 0 0 ∷ [])

-- ---- c: five threads read at once; M is the source's
abbrev pub FiveReaders : Type 0
FiveReaders =
    let five = lists (replicate 5 1) (replicate 5 1) (replicate 5 0) in
    let schedule : List ℕ = 0 ∷ 0 ∷ 0 ∷ 1 ∷ 1 ∷ 1 ∷ 2 ∷ 2 ∷ 2 ∷ 3 ∷ 3 ∷ 3 ∷ 4 ∷ 4 ∷ 4 ∷ [] in
    let w = run (scripts_of five) (counting (2 ^ 64 - 1) 0) (replicate 5 idle) schedule in
    (w.rows
    ≡ row 0 1 0 0 0 0
    ∷ row 0 2 0 0 0 1
    ∷ row 0 3 0 0 0 1
    ∷ row 1 1 0 1 0 1
    ∷ row 1 2 0 1 0 2
    ∷ row 1 3 0 0 0 2
    ∷ row 2 1 0 2 0 2
    ∷ row 2 2 0 2 0 3
    ∷ row 2 3 0 0 0 3
    ∷ row 3 1 0 3 0 3
    ∷ row 3 2 0 3 0 4
    ∷ row 3 3 0 0 0 4
    ∷ row 4 1 0 4 0 4
    ∷ row 4 2 0 4 0 5
    ∷ row 4 3 0 0 0 5
    ∷ [])
    × (w.lock ≡ counting (2 ^ 64 - 1) 5)
    × (w.recs ≡ replicate 5 (rec_of 1 Reading 0 0))

-- ---- d: the entries of the drain of case L: the reader to Idle, the waiting writer to Idle, then each script to its end
abbrev pub DrainOfL : Type 0
DrainOfL = (drain (scripts_of starving) lock_l recs_l).made ≡ 0 ∷ 0 ∷ 2 ∷ 2 ∷ 2 ∷ 2 ∷ 0 ∷ 0 ∷ 0 ∷ 0 ∷ 1 ∷ 1 ∷ 1 ∷ 1 ∷ []

-- ---- e: two readers hold; a third sees 2, and its exchange from 2 to 3, which is M, is done
abbrev pub SeenTwo : Type 0
SeenTwo =
    let three = lists (1 ∷ 1 ∷ 1 ∷ []) (1 ∷ 1 ∷ 1 ∷ []) (0 ∷ 0 ∷ 0 ∷ []) in
    let holding = rec_of 1 Reading 0 0 in
    let a = run (scripts_of three) (counting 3 0) (replicate 3 idle) (0 ∷ 0 ∷ 0 ∷ 1 ∷ 1 ∷ 1 ∷ 2 ∷ []) in
    let b = run (scripts_of three) a.lock a.recs (2 ∷ []) in
    (a.lock ≡ counting 3 2)
    × (a.recs ≡ holding ∷ holding ∷ rec_of 0 ReadTry 2 0 ∷ [])
    × (b.rows ≡ row 2 2 0 2 0 3 ∷ [])
    × (b.lock ≡ counting 3 3)
    × (b.recs ≡ holding ∷ holding ∷ rec_of 0 ReadCheck 0 0 ∷ [])

-- ---- f: 13 is the first value; a writer takes it and releases 5; the next one takes 5, and its record keeps that
abbrev pub TakenFive : Type 0
TakenFive =
    let writers = lists (2 ∷ 2 ∷ []) (4 ∷ 5 ∷ 4 ∷ 5 ∷ []) (0 ∷ 5 ∷ 0 ∷ 13 ∷ []) in
    let a = run (scripts_of writers) (lock_of (Either 5 13) 3 false 0 (Some 13) 0 0 None false) (idle ∷ idle ∷ []) (0 ∷ 0 ∷ 0 ∷ []) in
    let b = run (scripts_of writers) a.lock a.recs (0 ∷ 0 ∷ 1 ∷ 1 ∷ 1 ∷ []) in
    (a.recs ≡ rec_of 1 Writing 0 13 ∷ idle ∷ [])
    × (b.rows ≡ row 0 10 0 5 1 0 ∷ row 0 11 0 0 0 0 ∷ row 1 7 0 0 1 0 ∷ row 1 8 0 0 1 0 ∷ row 1 9 0 5 1 0 ∷ [])
    × (b.lock ≡ lock_of (Either 5 13) 3 true 0 None 0 0 None false)
    × (b.recs ≡ rec_of 2 Idle 0 0 ∷ rec_of 1 Writing 0 5 ∷ [])

-- ---- g: the bound of a drain: three for the thread, and the cost of each operation from the script place on, one under way in full
abbrev pub Bounds : Type 0
Bounds =
    (map (λ o. bound (scripts_of (alone (o ∷ []))) (idle ∷ [])) (1 ∷ 2 ∷ 3 ∷ 4 ∷ 5 ∷ []) ≡ 6 ∷ 4 ∷ 4 ∷ 6 ∷ 5 ∷ [])
    × (bound (scripts_of (alone (1 ∷ 2 ∷ 3 ∷ []))) (rec_of 1 Reading 0 0 ∷ []) ≡ 5)
    × (bound (scripts_of (alone (4 ∷ 5 ∷ []))) (rec_of 1 WritePut 0 0 ∷ []) ≡ 5)
    × (bound (scripts_of (two [] (1 ∷ 3 ∷ []))) (idle ∷ rec_of 2 Idle 0 0 ∷ []) ≡ 6)

-- ---- h: what a failed exchange found. A reader saw 1, another gave its handle back: it finds 0, less than it saw, and is Idle again
abbrev pub FoundLess : Type 0
FoundLess =
    let w = run (scripts_of (two (1 ∷ 3 ∷ []) (1 ∷ 3 ∷ []))) (counting 3 0) (idle ∷ idle ∷ []) (0 ∷ 0 ∷ 0 ∷ 1 ∷ 0 ∷ 1 ∷ []) in
    (w.rows
    ≡ row 0 1 0 0 0 0
    ∷ row 0 2 0 0 0 1
    ∷ row 0 3 0 0 0 1
    ∷ row 1 1 0 1 0 1
    ∷ row 0 6 0 1 0 0
    ∷ row 1 13 0 0 0 0
    ∷ [])
    × (w.lock ≡ counting 3 0)
    × (w.recs ≡ rec_of 2 Idle 0 0 ∷ idle ∷ [])

-- a writer finds the flag up, stays Idle, and is no mover
abbrev pub FoundUp : Type 0
FoundUp =
    let w = run (scripts_of (two (4 ∷ []) (4 ∷ []))) (counting 3 0) (idle ∷ idle ∷ []) (0 ∷ 1 ∷ []) in
    (w.rows ≡ row 0 7 0 0 1 0 ∷ row 1 14 0 1 1 0 ∷ [])
    × (w.lock ≡ lock_of Any 3 true 0 (Some 5) 0 0 None false)
    × (w.recs ≡ rec_of 0 WriteWait 0 0 ∷ idle ∷ [])

abbrev pub MoreCases : Type 0
MoreCases = FailedInto × DroppedRead × DroppedWrite × FiveReaders × DrainOfL × SeenTwo × TakenFive × Bounds × FoundLess × FoundUp
