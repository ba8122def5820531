-- The marked cases A to L, rows of one statement about the definitions.
use Rattle.std.specs.Prelude.{ℕ, ◌≡◌, true, false, List, [], ◌∷◌, ◌++◌, length, replicate}
use Rattle.atomic.specs.Cases.{CaseJ}
use Rattle.cell.specs.declared.pred.Pred.{Pred}
use Rattle.cell.specs.declared.pred.Pred.TheVariants.{Any, Either}
use Rattle.std.specs.Prelude.{None, Ok, Some}
use Rattle.machine.specs.Words.{rec_at, plain, count, unbegun, unused}
use Rattle.machine.specs.Lists.{Lent, lists, scripts_of, beside}
use Rattle.machine.specs.Setup.{fresh, setup, setup_recs}
use Rattle.machine.specs.Run.{Ran, run, words_of, run_lent}
use Rattle.machine.specs.Sound.{Sound}
use Rattle.machine.specs.Tidy.{Tidy, bound}
use Rattle.machine.specs.Drain.{drain_lent}
use Rattle.machine.specs.declared.Lock.{Lock}
use Rattle.machine.specs.declared.Rec.{Rec}
use Rattle.machine.specs.declared.Row.{Row}
use Rattle.machine.specs.declared.Place.TheVariants.{Idle, ReadTry, ReadCheck, Reading, WriteWait, Writing}

abbrev row : ℕ → ℕ → ℕ → ℕ → ℕ → ℕ → Row
row thread access answer got exc rc = record { thread = thread; access = access; answer = answer; got = got; exc = exc; rc = rc }

-- from setup with the top m, the predicate q and the first value v, as many threads as scripts
abbrev from : Lent → ℕ → Pred → ℕ → List ℕ → Ran
from s m q v schedule = run (scripts_of s) (unused q m v) (fresh (length s.lens)) schedule

-- ---- A: one reader alone, through setup and run as they are called; the trace list has room for seven rows
abbrev script_a : Lent
script_a = lists (3 ∷ []) (1 ∷ 2 ∷ 3 ∷ []) (0 ∷ 0 ∷ 0 ∷ [])

abbrev rows_a : List Row
rows_a = row 0 1 0 0 0 0 ∷ row 0 2 0 0 0 1 ∷ row 0 3 0 0 0 1 ∷ row 0 5 0 5 0 1 ∷ row 0 6 0 1 0 0 ∷ row 0 0 12 0 0 0 ∷ []

abbrev pub CaseA : Type 0
CaseA =
    let l = plain 9 Writing ∷ [] in
    let left = run_lent script_a (unused (Either 5 13) 3 5) (fresh 1) (0 ∷ 0 ∷ 0 ∷ 0 ∷ 0 ∷ 0 ∷ []) 6 (replicate 42 8) in
    (setup (Either 5 13) 3 5 script_a 1 ≡ Ok (unused (Either 5 13) 3 5))
    × (setup_recs (Either 5 13) 3 5 script_a l ≡ fresh 1)
    × (left.n ≡ 6)
    × (left.done ≡ 5)
    × (left.trace ≡ words_of rows_a ++ replicate 6 8)

-- ---- B to E: two readers
abbrev readers : Lent
readers = lists (2 ∷ 2 ∷ []) (1 ∷ 3 ∷ 1 ∷ 3 ∷ []) (0 ∷ 0 ∷ 0 ∷ 0 ∷ [])

abbrev rows_held : List Row
rows_held = row 0 1 0 0 0 0 ∷ row 0 2 0 0 0 1 ∷ row 0 3 0 0 0 1 ∷ []

-- M is 1 and one reader holds: the other's load gets 1, it stays Idle, and no exchange is made
abbrev pub CaseB : Type 0
CaseB =
    let w = from readers 1 Any 5 (0 ∷ 0 ∷ 0 ∷ 1 ∷ 1 ∷ []) in
    (w.rows ≡ rows_held ++ (row 1 1 0 1 0 1 ∷ row 1 1 0 1 0 1 ∷ [])) × (w.recs ≡ plain 1 Reading ∷ unbegun ∷ [])

-- with M 2 the same load leads to ReadTry
abbrev pub CaseC : Type 0
CaseC =
    let w = from readers 2 Any 5 (0 ∷ 0 ∷ 0 ∷ 1 ∷ []) in
    (w.rows ≡ rows_held ++ (row 1 1 0 1 0 1 ∷ [])) × (w.recs ≡ plain 1 Reading ∷ rec_at 0 ReadTry 1 0 ∷ [])

-- a thread sees 0; another reads and releases; the exchange from 0 succeeds
abbrev pub CaseD : Type 0
CaseD =
    let w = from readers 2 Any 5 (1 ∷ 0 ∷ 0 ∷ 0 ∷ 0 ∷ 1 ∷ []) in
    (w.rows ≡ row 1 1 0 0 0 0 ∷ (rows_held ++ (row 0 6 0 1 0 0 ∷ row 1 2 0 0 0 1 ∷ []))) × (w.recs ≡ plain 2 Idle ∷ plain 0 ReadCheck ∷ [])

-- without the release it fails
abbrev pub CaseE : Type 0
CaseE =
    let w = from readers 2 Any 5 (1 ∷ 0 ∷ 0 ∷ 0 ∷ 1 ∷ []) in
    (w.rows ≡ row 1 1 0 0 0 0 ∷ (rows_held ++ (row 1 13 0 1 0 1 ∷ []))) × (w.recs ≡ plain 1 Reading ∷ unbegun ∷ [])

-- ---- F and G: the flag is up
-- while a reader is at ReadCheck: code 3 gets 1, code 4 follows
abbrev pub CaseF : Type 0
CaseF =
    (from (lists (2 ∷ 2 ∷ []) (1 ∷ 3 ∷ 4 ∷ 5 ∷ []) (0 ∷ 0 ∷ 0 ∷ 13 ∷ [])) 2 Any 5 (0 ∷ 0 ∷ 1 ∷ 0 ∷ 0 ∷ [])).rows
    ≡ row 0 1 0 0 0 0 ∷ row 0 2 0 0 0 1 ∷ row 1 7 0 0 1 1 ∷ row 0 3 0 1 1 1 ∷ row 0 4 0 1 1 0 ∷ []

-- a writer after put, before store: a reader still gets 1
abbrev pub CaseG : Type 0
CaseG =
    (from (lists (2 ∷ 2 ∷ []) (4 ∷ 5 ∷ 1 ∷ 3 ∷ []) (0 ∷ 13 ∷ 0 ∷ 0 ∷ [])) 2 Any 5 (0 ∷ 0 ∷ 0 ∷ 0 ∷ 1 ∷ 1 ∷ 1 ∷ [])).rows
    ≡ row 0 7 0 0 1 0 ∷ row 0 8 0 0 1 0 ∷ row 0 9 0 5 1 0 ∷ row 0 10 0 13 1 0 ∷ row 1 1 0 0 1 0 ∷ row 1 2 0 0 1 1 ∷ row 1 3 0 1 1 1 ∷ []

-- ---- H and I: into_inner
-- after a dropped read the flag goes up, and code 8 gets 1 each time
abbrev pub CaseH : Type 0
CaseH =
    (from (lists (2 ∷ 1 ∷ []) (1 ∷ 6 ∷ 7 ∷ []) (0 ∷ 0 ∷ 0 ∷ [])) 3 Any 5 (0 ∷ 0 ∷ 0 ∷ 0 ∷ 1 ∷ 1 ∷ 1 ∷ [])).rows
    ≡ rows_held ++ (row 0 12 0 0 0 1 ∷ row 1 7 0 0 1 1 ∷ row 1 8 0 1 1 1 ∷ row 1 8 0 1 1 1 ∷ [])

-- with nothing dropped and all Idle it takes on its third step, and the lock is finished, with no mover
abbrev pub CaseI : Type 0
CaseI =
    let w = from (lists (1 ∷ 0 ∷ []) (7 ∷ []) (0 ∷ [])) 3 Any 5 (0 ∷ 0 ∷ 0 ∷ []) in
    (w.rows ≡ row 0 7 0 0 1 0 ∷ row 0 8 0 0 1 0 ∷ row 0 9 0 5 1 0 ∷ [])
    × (w.recs ≡ plain 1 Idle ∷ unbegun ∷ [])
    × (w.lock
    ≡ record { exc = true; rc = count 0; cell = None; pred = Any; top = count 3; reads = count 0; writes = count 0; mover = None; finished = true })

-- ---- K: either 5 or 13; the release of 7 is 16, and again 16; the writer keeps the value taken
abbrev pub CaseK : Type 0
CaseK =
    let w = from (lists (2 ∷ []) (4 ∷ 5 ∷ []) (0 ∷ 7 ∷ [])) 3 (Either 5 13) 5 (0 ∷ 0 ∷ 0 ∷ 0 ∷ 0 ∷ []) in
    (w.rows ≡ row 0 7 0 0 1 0 ∷ row 0 8 0 0 1 0 ∷ row 0 9 0 5 1 0 ∷ row 0 0 16 0 1 0 ∷ row 0 0 16 0 1 0 ∷ []) × (w.recs ≡ rec_at 1 Writing 0 5 ∷ [])

-- ---- L: two readers and a writer, M is 2
abbrev pub starving : Lent
starving = lists (2 ∷ 2 ∷ 2 ∷ []) (1 ∷ 3 ∷ 1 ∷ 3 ∷ 4 ∷ 5 ∷ []) (0 ∷ 0 ∷ 0 ∷ 0 ∷ 0 ∷ 0 ∷ [])

-- the state after 0, 0, 2
abbrev pub lock_l : Lock
lock_l = record { exc = true; rc = count 1; cell = Some 0; pred = Any; top = count 2; reads = count 0; writes = count 0; mover = None; finished = false }

abbrev pub recs_l : List Rec
recs_l = plain 0 ReadCheck ∷ unbegun ∷ plain 0 WriteWait ∷ []

abbrev cycle : List ℕ
cycle = 1 ∷ 1 ∷ 0 ∷ 0 ∷ 2 ∷ 0 ∷ 0 ∷ 1 ∷ 1 ∷ 2 ∷ []

-- in the cycle each reader finds the flag up and gives back, and the writer finds the count at 1: nobody is served
abbrev rows_l : List Row
rows_l =
    row 1 1 0 1 1 1
    ∷ row 1 2 0 1 1 2
    ∷ row 0 3 0 1 1 2
    ∷ row 0 4 0 2 1 1
    ∷ row 2 8 0 1 1 1
    ∷ row 0 1 0 1 1 1
    ∷ row 0 2 0 1 1 2
    ∷ row 1 3 0 1 1 2
    ∷ row 1 4 0 2 1 1
    ∷ row 2 8 0 1 1 1
    ∷ []

abbrev pub CaseL : Type 0
CaseL =
    let w = from starving 2 Any 0 (0 ∷ 0 ∷ 2 ∷ []) in
    let round = run (scripts_of starving) lock_l recs_l cycle in
    let left = drain_lent starving lock_l recs_l in
    (w.lock ≡ lock_l)
    × (w.recs ≡ recs_l)
    × (round.lock ≡ lock_l)
    × (round.recs ≡ recs_l)
    × (round.rows ≡ rows_l)
    × Sound (scripts_of starving) lock_l recs_l
    × Tidy (scripts_of starving) lock_l recs_l
    × (left.refusal ≡ beside starving 0)
    × (left.n ≡ 14)
    × (bound (scripts_of starving) recs_l ≡ 22)

-- ---- the one statement; J is that of the atomics: 8-bit 255 plus 1 wraps to 0, and fetch_add gives 22
abbrev pub Cases : Type 0
Cases = CaseA × CaseB × CaseC × CaseD × CaseE × CaseF × CaseG × CaseH × CaseI × CaseJ × CaseK × CaseL
