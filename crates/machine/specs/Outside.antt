-- Which states from outside are sound: for each clause of 'sound' states that break it and no other, which run refuses with 10; and
-- states that no setup leads to, which run accepts. Locks and records are written out.
use Rattle.std.specs.Prelude.{ℕ, ◌+◌, ◌-◌, ◌^◌, ◌≡◌, ◌≢◌, Bool, true, false, not, List, [], ◌∷◌, map}
use Rattle.cell.specs.declared.pred.Pred.TheVariants.{Any, Either, Parity}
use Rattle.std.specs.Prelude.{None, Option, Some}
use Rattle.machine.specs.Lists.{Lent, lists}
use Rattle.machine.specs.Run.{run_lent}
use Rattle.machine.specs.Numbers.{lock_of, rec_of, alone, two}
use Rattle.machine.specs.declared.Lock.{Lock}
use Rattle.machine.specs.declared.Rec.{Rec}
use Rattle.machine.specs.declared.Place.{Place}
use Rattle.machine.specs.declared.Place.TheVariants.{Idle, ReadTry, ReadCheck, ReadBack, Reading, WriteWait, WriteTake, Writing, WritePut}

-- the number that a run of no entry answers: 10 for a state that is not sound, 0 for one that is
abbrev says : Lent → Lock → List Rec → ℕ
says s L l = (run_lent s L l [] 0 []).refusal.number

-- ---- the locks: 5 or 13 is permitted, and M is 3
-- flag, count, cell; nothing dropped, no mover, not finished
abbrev lock : Bool → ℕ → Option ℕ → Lock
lock exc rc cell = lock_of (Either 5 13) 3 exc rc cell 0 0 None false

-- dropped reads and dropped writes besides
abbrev dropped : Bool → ℕ → Option ℕ → ℕ → ℕ → Lock
dropped exc rc cell reads writes = lock_of (Either 5 13) 3 exc rc cell reads writes None false

-- a mover besides
abbrev moved : Bool → ℕ → Option ℕ → Option ℕ → Lock
moved exc rc cell mover = lock_of (Either 5 13) 3 exc rc cell 0 0 mover false

-- flag, count, cell, dropped reads and dropped writes of a finished lock
abbrev gone : Bool → ℕ → Option ℕ → ℕ → ℕ → Lock
gone exc rc cell reads writes = lock_of (Either 5 13) 3 exc rc cell reads writes None true

-- ---- at each place a lone record in a sound state: its operation, the flag, the count and the cell beside it, what it has taken
pub record Home : Type 0 where
  pub op : ℕ
  pub exc : Bool
  pub rc : ℕ
  pub cell : Option ℕ
  pub taken : ℕ

abbrev stand : ℕ → Bool → ℕ → Option ℕ → ℕ → Home
stand op exc rc cell taken = record { op = op; exc = exc; rc = rc; cell = cell; taken = taken }

abbrev pub home : Place → Home
home Idle = stand 1 false 0 (Some 5) 0
home ReadTry = stand 1 false 0 (Some 5) 0
home ReadCheck = stand 1 false 1 (Some 5) 0
home ReadBack = stand 1 false 1 (Some 5) 0
home Reading = stand 3 false 1 (Some 5) 0
home WriteWait = stand 4 true 0 (Some 5) 0
home WriteTake = stand 4 true 0 (Some 5) 0
home Writing = stand 5 true 0 None 5
home WritePut = stand 5 true 0 (Some 5) 0

-- its script, its lock and its record
abbrev script_at : Place → Lent
script_at p = alone ((home p).op ∷ [])

abbrev lock_at : Place → Lock
lock_at p = lock (home p).exc (home p).rc (home p).cell

abbrev at : Place → Rec
at p = rec_of 0 p 0 (home p).taken

abbrev pub AtHome : Type 0
AtHome = (p : Place) → says (script_at p) (lock_at p) (at p ∷ []) ≡ 0

-- ---- clause by clause
-- M is 0; the parameter of a parity is 2, which no value in the cell allows
abbrev pub Clause1 : Type 0
Clause1 =
    (says (alone []) (lock_of Any 0 false 0 (Some 5) 0 0 None false) (at Idle ∷ []) ≡ 10)
    × (says (alone []) (lock_of (Parity 2) 3 true 0 None 0 1 None false) (at Idle ∷ []) ≡ 10)
    × (says (alone []) (lock_of (Parity 2) 3 true 0 None 0 0 None true) (at Idle ∷ []) ≡ 10)

-- two readers, M is 1; four dropped reads, M is 3
abbrev pub Clause2 : Type 0
Clause2 =
    (says (two [] []) (lock_of Any 1 false 2 (Some 5) 0 0 None false) (at Reading ∷ at Reading ∷ []) ≡ 10)
    × (says (alone []) (dropped false 4 (Some 5) 4 0) (at Idle ∷ []) ≡ 10)

-- one more than there are; one less; and the sum does not wrap
abbrev pub OneMore : Type 0
OneMore = (p : Place) → says (script_at p) (lock (home p).exc ((home p).rc + 1) (home p).cell) (at p ∷ []) ≡ 10

abbrev pub Clause3 : Type 0
Clause3 =
    OneMore
    × (says (script_at ReadCheck) (lock false 0 (Some 5)) (at ReadCheck ∷ []) ≡ 10)
    × (says (script_at ReadBack) (lock false 0 (Some 5)) (at ReadBack ∷ []) ≡ 10)
    × (says (script_at Reading) (lock false 0 (Some 5)) (at Reading ∷ []) ≡ 10)
    × (says (alone []) (dropped false 0 (Some 5) 1 0) (at Idle ∷ []) ≡ 10)
    × (says (alone []) (dropped false 2 (Some 5) 1 0) (at Idle ∷ []) ≡ 10)
    × (says (script_at Reading) (dropped false 0 (Some 5) (2 ^ 64 - 1) 0) (at Reading ∷ []) ≡ 10)

-- a record at p beside one at WriteWait, the flag down, since W is 2
abbrev BesideWait : Place → Type 0
BesideWait p = says (two (4 ∷ []) ((home p).op ∷ [])) (lock false 0 (home p).cell) (at WriteWait ∷ at p ∷ []) ≡ 10

-- the same with a dropped write; a finished lock with one; and no sum wraps, neither this one nor, in the last line, that of clause 7
abbrev pub Clause4 : Type 0
Clause4 =
    BesideWait WriteWait
    × BesideWait WriteTake
    × BesideWait Writing
    × BesideWait WritePut
    × (says (script_at WriteWait) (dropped false 0 None 0 1) (at WriteWait ∷ []) ≡ 10)
    × (says (alone []) (gone false 0 None 0 1) (at Idle ∷ []) ≡ 10)
    × (says (script_at WriteWait) (dropped false 0 None 0 (2 ^ 64 - 1)) (at WriteWait ∷ []) ≡ 10)
    × (says (script_at Writing) (dropped false 0 (Some 5) 0 (2 ^ 64 - 1)) (at Writing ∷ []) ≡ 10)

-- the flag is down with a writer, or up without one
abbrev pub FlagTurned : Type 0
FlagTurned = (p : Place) → says (script_at p) (lock (not (home p).exc) (home p).rc (home p).cell) (at p ∷ []) ≡ 10

abbrev pub Clause5 : Type 0
Clause5 =
    FlagTurned
    × (says (alone []) (dropped false 0 None 0 1) (at Idle ∷ []) ≡ 10)
    × (says (alone []) (gone false 0 None 0 0) (at Idle ∷ []) ≡ 10)

-- a writer at p, beside a reader and beside a dropped read
abbrev BesideReader : Place → Type 0
BesideReader p =
    (says (two ((home p).op ∷ []) (3 ∷ [])) (lock true 1 (home p).cell) (at p ∷ at Reading ∷ []) ≡ 10)
    × (says (script_at p) (dropped true 1 (home p).cell 1 0) (at p ∷ []) ≡ 10)

-- and a dropped write beside both, and a finished lock beside a dropped read; but a waiting writer may stand beside both
abbrev pub Clause6 : Type 0
Clause6 =
    BesideReader WriteTake
    × BesideReader Writing
    × BesideReader WritePut
    × (says (script_at Reading) (dropped true 1 None 0 1) (at Reading ∷ []) ≡ 10)
    × (says (alone []) (dropped true 1 None 1 1) (at Idle ∷ []) ≡ 10)
    × (says (alone []) (gone true 1 None 1 0) (at Idle ∷ []) ≡ 10)
    × (says (two (4 ∷ []) (3 ∷ [])) (dropped true 2 (Some 5) 1 0) (at WriteWait ∷ at Reading ∷ []) ≡ 0)

-- the cell is full where the value is taken away, and empty elsewhere
abbrev turned : Option ℕ → Option ℕ
turned None = Some 5
turned (Some v) = None

abbrev pub CellTurned : Type 0
CellTurned = (p : Place) → says (script_at p) (lock (home p).exc (home p).rc (turned (home p).cell)) (at p ∷ []) ≡ 10

abbrev pub Clause7 : Type 0
Clause7 =
    CellTurned
    × (says (alone []) (dropped true 0 (Some 5) 0 1) (at Idle ∷ []) ≡ 10)
    × (says (alone []) (gone true 0 (Some 5) 0 0) (at Idle ∷ []) ≡ 10)

-- 7 is in the cell; 7 was taken
abbrev pub WrongInCell : Type 0
WrongInCell = (p : Place) → p ≢ Writing → says (script_at p) (lock (home p).exc (home p).rc (Some 7)) (at p ∷ []) ≡ 10

abbrev pub Clause8 : Type 0
Clause8 = WrongInCell × (says (script_at Writing) (lock_at Writing) (rec_of 0 Writing 0 7 ∷ []) ≡ 10)

-- something is seen elsewhere than at ReadTry, or taken elsewhere than at Writing
abbrev pub Seen : Type 0
Seen = (p : Place) → p ≢ ReadTry → says (script_at p) (lock_at p) (rec_of 0 p 1 (home p).taken ∷ []) ≡ 10

abbrev pub Taken : Type 0
Taken = (p : Place) → p ≢ Writing → says (script_at p) (lock_at p) (rec_of 0 p 0 5 ∷ []) ≡ 10

abbrev pub Clause9 : Type 0
Clause9 = Seen × Taken

-- M was seen
abbrev pub Clause10 : Type 0
Clause10 = says (script_at ReadTry) (lock_at ReadTry) (rec_of 0 ReadTry 3 0 ∷ []) ≡ 10

-- The script place is past the script's end; inside an operation it is at the end already. The script is empty there, and what
-- stands behind it in the list of operations is the next thread's, which would do.
abbrev PastEnd : Place → Type 0
PastEnd p = says (alone []) (lock_at p) (rec_of 1 p 0 (home p).taken ∷ []) ≡ 10

abbrev AtEnd : Place → Type 0
AtEnd p = says (two [] ((home p).op ∷ [])) (lock_at p) (at p ∷ at Idle ∷ []) ≡ 10

abbrev pub Clause11 : Type 0
Clause11 =
    (PastEnd Idle × PastEnd Reading × PastEnd Writing)
    × (AtEnd ReadTry × AtEnd ReadCheck × AtEnd ReadBack × AtEnd WriteWait × AtEnd WriteTake × AtEnd WritePut)

-- what is said at p with each of the seven operations
abbrev operations : List ℕ
operations = 1 ∷ 2 ∷ 3 ∷ 4 ∷ 5 ∷ 6 ∷ 7 ∷ []

abbrev by_operation : Place → List ℕ
by_operation p = map (λ o. says (alone (o ∷ [])) (lock_at p) (at p ∷ [])) operations

-- 7 at WriteWait and WriteTake breaks clause 14, since there is no mover
abbrev pub Clause12 : Type 0
Clause12 =
    (by_operation Idle ≡ 0 ∷ 0 ∷ 0 ∷ 0 ∷ 0 ∷ 0 ∷ 0 ∷ [])
    × (by_operation ReadTry ≡ 0 ∷ 10 ∷ 10 ∷ 10 ∷ 10 ∷ 10 ∷ 10 ∷ [])
    × (by_operation ReadCheck ≡ 0 ∷ 10 ∷ 10 ∷ 10 ∷ 10 ∷ 10 ∷ 10 ∷ [])
    × (by_operation ReadBack ≡ 0 ∷ 10 ∷ 10 ∷ 10 ∷ 10 ∷ 10 ∷ 10 ∷ [])
    × (by_operation Reading ≡ 0 ∷ 0 ∷ 0 ∷ 0 ∷ 0 ∷ 0 ∷ 0 ∷ [])
    × (by_operation WriteWait ≡ 10 ∷ 10 ∷ 10 ∷ 0 ∷ 10 ∷ 10 ∷ 10 ∷ [])
    × (by_operation WriteTake ≡ 10 ∷ 10 ∷ 10 ∷ 0 ∷ 10 ∷ 10 ∷ 10 ∷ [])
    × (by_operation Writing ≡ 0 ∷ 0 ∷ 0 ∷ 0 ∷ 0 ∷ 0 ∷ 0 ∷ [])
    × (by_operation WritePut ≡ 10 ∷ 10 ∷ 10 ∷ 10 ∷ 0 ∷ 10 ∷ 10 ∷ [])

-- the mover is Idle, at its 7, and the other record is not Idle
abbrev pub OtherBusy : Type 0
OtherBusy =
    (p : Place) → p ≢ Idle
    → says (two (7 ∷ []) ((home p).op ∷ [])) (moved (home p).exc (home p).rc (home p).cell (Some 0)) (at Idle ∷ at p ∷ []) ≡ 10

-- the mover is no thread; its script is at its end; its operation is another; another record is not Idle; both may be Idle
abbrev pub Clause13 : Type 0
Clause13 =
    (says (alone (7 ∷ [])) (moved false 0 (Some 5) (Some 1)) (at Idle ∷ []) ≡ 10)
    × (says (two [] (7 ∷ [])) (moved false 0 (Some 5) (Some 0)) (at Idle ∷ at Idle ∷ []) ≡ 10)
    × (map (λ o. says (alone (o ∷ [])) (moved false 0 (Some 5) (Some 0)) (at Idle ∷ [])) operations ≡ 10 ∷ 10 ∷ 10 ∷ 10 ∷ 10 ∷ 10 ∷ 0 ∷ [])
    × OtherBusy
    × (says (two (7 ∷ []) (1 ∷ [])) (moved false 0 (Some 5) (Some 0)) (at Idle ∷ at Idle ∷ []) ≡ 0)

-- inside into_inner with no mover; the mover may be there
abbrev pub Clause14 : Type 0
Clause14 =
    (says (alone (7 ∷ [])) (moved true 0 (Some 5) None) (at WriteWait ∷ []) ≡ 10)
    × (says (alone (7 ∷ [])) (moved true 0 (Some 5) None) (at WriteTake ∷ []) ≡ 10)
    × (says (alone (7 ∷ [])) (moved true 0 (Some 5) (Some 0)) (at WriteWait ∷ []) ≡ 0)
    × (says (alone (7 ∷ [])) (moved true 0 (Some 5) (Some 0)) (at WriteTake ∷ []) ≡ 0)

-- a finished lock with a mover, and with a record that is not Idle
abbrev pub Clause15 : Type 0
Clause15 =
    (says (alone (7 ∷ [])) (lock_of (Either 5 13) 3 true 0 None 0 0 (Some 0) true) (at Idle ∷ []) ≡ 10)
    × (says (script_at ReadTry) (gone true 0 None 0 0) (at ReadTry ∷ []) ≡ 10)
    × (says (script_at ReadCheck) (gone true 1 None 0 0) (at ReadCheck ∷ []) ≡ 10)
    × (says (script_at ReadBack) (gone true 1 None 0 0) (at ReadBack ∷ []) ≡ 10)

abbrev pub Unsound : Type 0
Unsound =
    AtHome
    × (Clause1 × Clause2 × Clause3 × Clause4 × Clause5)
    × (Clause6 × Clause7 × Clause8 × Clause9 × Clause10)
    × (Clause11 × Clause12 × Clause13 × Clause14 × Clause15)

-- ---- sound, and out of reach of setup or far from it
abbrev pub SoundFromOutside : Type 0
SoundFromOutside =
    -- a handle is held before the script's first operation, and behind its last
    (says (alone (2 ∷ 3 ∷ [])) (lock false 1 (Some 5)) (at Reading ∷ []) ≡ 0)
    × (says (alone []) (lock false 1 (Some 5)) (at Reading ∷ []) ≡ 0)
    × (says (alone (5 ∷ [])) (lock true 0 None) (at Writing ∷ []) ≡ 0)
    × (says (alone []) (lock true 0 None) (at Writing ∷ []) ≡ 0)
    -- a release of 0 is under way, and 13 is in the cell; 13 was taken
    × (says (alone (5 ∷ [])) (lock true 0 (Some 13)) (at WritePut ∷ []) ≡ 0)
    × (says (alone (5 ∷ [])) (lock true 0 None) (rec_of 0 Writing 0 13 ∷ []) ≡ 0)
    -- a mover that is Reading, and one that is Writing, with 7 next
    × (says (alone (7 ∷ [])) (moved false 1 (Some 5) (Some 0)) (at Reading ∷ []) ≡ 0)
    × (says (alone (7 ∷ [])) (moved true 0 None (Some 0)) (at Writing ∷ []) ≡ 0)
    -- M - 1 was seen, and the count is 0
    × (says (alone (1 ∷ [])) (lock false 0 (Some 5)) (rec_of 0 ReadTry 2 0 ∷ []) ≡ 0)
    -- the count is M: three readers; and dropped reads, as many as there can be
    × (says (lists (0 ∷ 0 ∷ 0 ∷ []) [] []) (lock false 3 (Some 5)) (at Reading ∷ at Reading ∷ at Reading ∷ []) ≡ 0)
    × (says (alone []) (lock_of Any (2 ^ 64 - 1) false (2 ^ 64 - 1) (Some 5) (2 ^ 64 - 1) 0 None false) (at Idle ∷ []) ≡ 0)
    -- a finished lock and a dropped write, with no operation done; readers are pending beside the dropped write
    × (says (alone (1 ∷ [])) (gone true 0 None 0 0) (at Idle ∷ []) ≡ 0)
    × (says (alone (1 ∷ [])) (dropped true 0 None 0 1) (at Idle ∷ []) ≡ 0)
    × (says (two (1 ∷ []) (1 ∷ [])) (dropped true 2 None 0 1) (at ReadCheck ∷ at ReadBack ∷ []) ≡ 0)
