-- Every number of setup, run, drain and entries, in calls as they are made. Numbers, locks and records are written out: no name of
-- a number, a bound or a word of the definitions is cited.
use Rattle.std.specs.Prelude.{ℕ, ◌^◌, ◌-◌, ◌≡◌, Bool, true, false, List, [], ◌∷◌, ◌++◌, length, replicate}
use Rattle.cell.specs.declared.pred.Pred.{Pred}
use Rattle.cell.specs.declared.pred.Pred.TheVariants.{Any, Either, Parity}
use Rattle.std.specs.Prelude.{Err, None, Ok, Option, Some}
use Rattle.machine.specs.Lists.{Lent, lists}
use Rattle.machine.specs.Setup.{setup, setup_recs}
use Rattle.machine.specs.Run.{run_lent}
use Rattle.machine.specs.Drain.{drain_lent}
use Rattle.machine.specs.declared.Lock.{Lock}
use Rattle.machine.specs.declared.Rec.{Rec}
use Rattle.machine.specs.declared.Refusal.{Refusal}
use Rattle.machine.specs.declared.Place.{Place}
use Rattle.machine.specs.declared.Place.TheVariants.{Idle, ReadTry, Reading, WriteWait, Writing, WritePut}

-- ---- values written out
-- number, thread, script place
abbrev pub refusal : ℕ → ℕ → ℕ → Refusal
refusal number thread place = record { number = number; thread = thread; place = place }

-- predicate, top; flag, count, cell; dropped reads, dropped writes, mover, finished
abbrev pub lock_of : Pred → ℕ → Bool → ℕ → Option ℕ → ℕ → ℕ → Option ℕ → Bool → Lock
lock_of q m exc rc cell reads writes mover finished =
    record {
      exc = exc;
      rc = record { 0 = rc };
      cell = cell;
      pred = q;
      top = record { 0 = m };
      reads = record { 0 = reads };
      writes = record { 0 = writes };
      mover = mover;
      finished = finished;
    }

-- script place, place, seen, taken
abbrev pub rec_of : ℕ → Place → ℕ → ℕ → Rec
rec_of at place seen taken = record { at = at; place = place; seen = record { 0 = seen }; taken = taken }

-- a record that has done nothing
abbrev pub idle : Rec
idle = rec_of 0 Idle 0 0

-- scripts whose values are all 0: of one thread, and of two
abbrev pub alone : List ℕ → Lent
alone a = lists (length a ∷ []) a (replicate (length a) 0)

abbrev pub two : List ℕ → List ℕ → Lent
two a b = lists (length a ∷ length b ∷ []) (a ++ b) (replicate (length (a ++ b)) 0)

-- ---- setup, with the predicate, the top, the first value, the scripts and so many records
abbrev NotMade : Pred → ℕ → ℕ → Lent → ℕ → Refusal → Type 0
NotMade q m v s records why = setup q m v s records ≡ Err why

abbrev IsMade : Pred → ℕ → ℕ → Lent → ℕ → Type 0
IsMade q m v s records = setup q m v s records ≡ Ok (lock_of q m false 0 (Some v) 0 0 None false)

-- 1 for no thread and for 17; 16 are not too many, and their records are made anew
abbrev pub Setup1 : Type 0
Setup1 =
    NotMade Any 3 5 (lists [] [] []) 0 (refusal 1 0 0)
    × NotMade Any 3 5 (lists (replicate 17 0) [] []) 17 (refusal 1 0 0)
    × IsMade Any 3 5 (lists (replicate 16 0) [] []) 16
    × (setup_recs Any 3 5 (lists (replicate 16 0) [] []) (replicate 16 (rec_of 9 Writing 0 7)) ≡ replicate 16 idle)

-- 2 for M 0; the smallest and the largest M
abbrev pub Setup2 : Type 0
Setup2 =
    NotMade Any 0 5 (alone []) 1 (refusal 2 0 0)
    × IsMade Any 1 5 (alone []) 1
    × IsMade Any (2 ^ 64 - 1) 5 (alone []) 1

-- 3 for a parity above 1
abbrev pub Setup3 : Type 0
Setup3 =
    NotMade (Parity 2) 3 5 (alone []) 1 (refusal 3 0 0)
    × IsMade (Parity 1) 3 5 (alone []) 1
    × IsMade (Parity 0) 3 4 (alone []) 1

-- 4 for a first value that is not permitted
abbrev pub Setup4 : Type 0
Setup4 =
    NotMade (Either 5 13) 3 7 (alone []) 1 (refusal 4 0 0)
    × NotMade (Parity 1) 3 4 (alone []) 1 (refusal 4 0 0)
    × IsMade (Either 5 13) 3 13 (alone []) 1

-- ---- 5, 6 and 7, with setup, with run from a state that setup makes, and with drain from there
-- a lock that nobody has used, and n records
abbrev new_lock : Lock
new_lock = lock_of Any 3 false 0 (Some 5) 0 0 None false

abbrev new_recs : ℕ → List Rec
new_recs n = replicate n idle

abbrev ByAll : Lent → ℕ → Refusal → Type 0
ByAll s records why =
    NotMade Any 3 5 s records why
    × ((run_lent s new_lock (new_recs records) [] 0 []).refusal ≡ why)
    × ((drain_lent s new_lock (new_recs records)).refusal ≡ why)

abbrev ByNone : Lent → ℕ → Type 0
ByNone s records = IsMade Any 3 5 s records × ((run_lent s new_lock (new_recs records) [] 0 []).refusal ≡ refusal 0 0 0)

-- 5 for a script of 65, with the first thread that has one; 64 are not too many
abbrev pub Lists5 : Type 0
Lists5 =
    ByAll (lists (1 ∷ 65 ∷ 66 ∷ []) (replicate 132 1) (replicate 132 0)) 3 (refusal 5 1 0)
    × ByNone (lists (64 ∷ []) (replicate 64 1) (replicate 64 0)) 1

-- 6 where operations, values or records are too few or too many
abbrev pub Lists6 : Type 0
Lists6 =
    ByAll (lists (1 ∷ 2 ∷ []) (1 ∷ 1 ∷ []) (0 ∷ 0 ∷ 0 ∷ [])) 2 (refusal 6 0 0)
    × ByAll (lists (1 ∷ 2 ∷ []) (1 ∷ 1 ∷ 1 ∷ 1 ∷ []) (0 ∷ 0 ∷ 0 ∷ [])) 2 (refusal 6 0 0)
    × ByAll (lists (1 ∷ 2 ∷ []) (1 ∷ 1 ∷ 1 ∷ []) (0 ∷ 0 ∷ [])) 2 (refusal 6 0 0)
    × ByAll (lists (1 ∷ 2 ∷ []) (1 ∷ 1 ∷ 1 ∷ []) (0 ∷ 0 ∷ 0 ∷ 0 ∷ [])) 2 (refusal 6 0 0)
    × ByAll (lists (1 ∷ 2 ∷ []) (1 ∷ 1 ∷ 1 ∷ []) (0 ∷ 0 ∷ 0 ∷ [])) 1 (refusal 6 0 0)
    × ByAll (lists (1 ∷ 2 ∷ []) (1 ∷ 1 ∷ 1 ∷ []) (0 ∷ 0 ∷ 0 ∷ [])) 3 (refusal 6 0 0)
    × ByNone (lists (1 ∷ 2 ∷ []) (1 ∷ 1 ∷ 1 ∷ []) (0 ∷ 0 ∷ 0 ∷ [])) 2

-- 7 for the code 0, the code 8 and a value beside a code other than 5, with the first thread that has one, and the first place there
abbrev pub Lists7 : Type 0
Lists7 =
    ByAll (lists (1 ∷ 2 ∷ 1 ∷ []) (1 ∷ 1 ∷ 0 ∷ 0 ∷ []) (0 ∷ 0 ∷ 0 ∷ 0 ∷ [])) 3 (refusal 7 1 1)
    × ByAll (lists (1 ∷ 2 ∷ 1 ∷ []) (1 ∷ 8 ∷ 8 ∷ 1 ∷ []) (0 ∷ 0 ∷ 0 ∷ 0 ∷ [])) 3 (refusal 7 1 0)
    × ByAll (lists (1 ∷ 2 ∷ 1 ∷ []) (1 ∷ 1 ∷ 4 ∷ 4 ∷ []) (0 ∷ 0 ∷ 1 ∷ 1 ∷ [])) 3 (refusal 7 1 1)
    × ByNone (lists (0 ∷ 7 ∷ []) (1 ∷ 2 ∷ 3 ∷ 4 ∷ 5 ∷ 6 ∷ 7 ∷ []) (0 ∷ 0 ∷ 0 ∷ 0 ∷ 1 ∷ 0 ∷ 0 ∷ [])) 2

-- the one operation o with the value 1
abbrev Stray : ℕ → Type 0
Stray o = ByAll (lists (1 ∷ []) (o ∷ []) (1 ∷ [])) 1 (refusal 7 0 0)

abbrev pub Strays : Type 0
Strays = Stray 1 × Stray 2 × Stray 3 × Stray 4 × Stray 6 × Stray 7

-- ---- the lowest first: each line leaves out what the line before was refused for
abbrev pub SetupOrder : Type 0
SetupOrder =
    NotMade (Parity 2) 0 7 (lists (replicate 17 65) (0 ∷ []) []) 2 (refusal 1 0 0)
    × NotMade (Parity 2) 0 7 (lists (65 ∷ []) (0 ∷ []) []) 2 (refusal 2 0 0)
    × NotMade (Parity 2) 3 7 (lists (65 ∷ []) (0 ∷ []) []) 2 (refusal 3 0 0)
    × NotMade (Either 5 13) 3 7 (lists (65 ∷ []) (0 ∷ []) []) 2 (refusal 4 0 0)
    × NotMade (Either 5 13) 3 5 (lists (65 ∷ []) (0 ∷ []) []) 2 (refusal 5 0 0)
    × NotMade (Either 5 13) 3 5 (lists (1 ∷ []) (0 ∷ []) []) 2 (refusal 6 0 0)
    × NotMade (Either 5 13) 3 5 (lists (1 ∷ []) (0 ∷ []) (0 ∷ [])) 1 (refusal 7 0 0)
    × IsMade (Either 5 13) 3 5 (lists (1 ∷ []) (1 ∷ []) (0 ∷ [])) 1

-- ---- run and drain
abbrev RunSays : Lent → Lock → List Rec → Refusal → Type 0
RunSays s L l why = (run_lent s L l [] 0 []).refusal ≡ why

abbrev DrainSays : Lent → Lock → List Rec → Refusal → Type 0
DrainSays s L l why = (drain_lent s L l).refusal ≡ why

-- a lock whose flag is up, with no writer, so that it is not sound; and one with a dropped read, so that no script is tidy
abbrev wrong_lock : Lock
wrong_lock = lock_of Any 3 true 0 (Some 5) 0 0 None false

abbrev dropped_lock : Lock
dropped_lock = lock_of Any 3 false 1 (Some 5) 1 0 None false

-- 10 for a state that is not sound, for no thread and for 17; 16 are not too many
abbrev pub Run10 : Type 0
Run10 =
    RunSays (alone []) wrong_lock (new_recs 1) (refusal 10 0 0)
    × RunSays (lists [] [] []) new_lock [] (refusal 10 0 0)
    × RunSays (lists (replicate 17 0) [] []) new_lock (new_recs 17) (refusal 10 0 0)
    × RunSays (lists (replicate 16 0) [] []) new_lock (new_recs 16) (refusal 0 0 0)

-- the same of drain
abbrev pub Drain10 : Type 0
Drain10 =
    DrainSays (alone []) wrong_lock (new_recs 1) (refusal 10 0 0)
    × DrainSays (lists [] [] []) new_lock [] (refusal 10 0 0)
    × DrainSays (lists (replicate 17 0) [] []) new_lock (new_recs 17) (refusal 10 0 0)
    × DrainSays (lists (replicate 16 0) [] []) new_lock (new_recs 16) (refusal 0 0 0)

-- each line leaves out what the line before was refused for; of 17 threads, with a lock that is not sound
abbrev pub RunOrder : Type 0
RunOrder =
    RunSays (lists (replicate 17 65) (0 ∷ []) []) wrong_lock (new_recs 1) (refusal 5 0 0)
    × RunSays (lists (1 ∷ replicate 16 0) (0 ∷ []) []) wrong_lock (new_recs 1) (refusal 6 0 0)
    × RunSays (lists (1 ∷ replicate 16 0) (0 ∷ []) (0 ∷ [])) wrong_lock (new_recs 17) (refusal 7 0 0)
    × RunSays (lists (1 ∷ replicate 16 0) (1 ∷ []) (0 ∷ [])) wrong_lock (new_recs 17) (refusal 10 0 0)
    -- with no thread at all, 6 if anything was lent
    × RunSays (lists [] (1 ∷ []) []) new_lock [] (refusal 6 0 0)
    × RunSays (lists [] [] (0 ∷ [])) new_lock [] (refusal 6 0 0)
    × RunSays (lists [] [] []) new_lock (new_recs 1) (refusal 6 0 0)

-- the same of drain; no script but the last is tidy
abbrev pub DrainOrder : Type 0
DrainOrder =
    DrainSays (lists (65 ∷ []) (0 ∷ []) []) wrong_lock (new_recs 2) (refusal 5 0 0)
    × DrainSays (lists (2 ∷ []) (1 ∷ 0 ∷ []) []) wrong_lock (new_recs 2) (refusal 6 0 0)
    × DrainSays (lists (2 ∷ []) (1 ∷ 0 ∷ []) (0 ∷ 0 ∷ [])) wrong_lock (new_recs 1) (refusal 7 0 1)
    × DrainSays (lists (2 ∷ []) (1 ∷ 2 ∷ []) (0 ∷ 0 ∷ [])) wrong_lock (new_recs 1) (refusal 10 0 0)
    × DrainSays (lists (2 ∷ []) (1 ∷ 2 ∷ []) (0 ∷ 0 ∷ [])) new_lock (new_recs 1) (refusal 17 0 0)
    × DrainSays (lists (2 ∷ []) (1 ∷ 3 ∷ []) (0 ∷ 0 ∷ [])) new_lock (new_recs 1) (refusal 0 0 0)

-- ---- 17: what is not tidy
-- of the lock: a dropped read, a dropped write, a mover, a finished lock
abbrev pub Untidy : Type 0
Untidy =
    DrainSays (alone []) dropped_lock (new_recs 1) (refusal 17 0 0)
    × DrainSays (alone []) (lock_of Any 3 true 0 None 0 1 None false) (new_recs 1) (refusal 17 0 0)
    × DrainSays (alone (7 ∷ [])) (lock_of Any 3 false 0 (Some 5) 0 0 (Some 0) false) (new_recs 1) (refusal 17 0 0)
    × DrainSays (alone []) (lock_of Any 3 true 0 None 0 0 None true) (new_recs 1) (refusal 17 0 0)

-- the script of one thread, from setup
abbrev DrainOf : List ℕ → Refusal → Type 0
DrainOf ops why = DrainSays (alone ops) new_lock (new_recs 1) why

-- of the scripts: 6, 7, an end that is not at Idle, an operation that does not fit; and scripts that are tidy
abbrev pub UntidyScripts : Type 0
UntidyScripts =
    DrainOf (1 ∷ 6 ∷ []) (refusal 17 0 0)
    × DrainOf (4 ∷ 6 ∷ []) (refusal 17 0 0)
    × DrainOf (7 ∷ []) (refusal 17 0 0)
    × DrainOf (1 ∷ []) (refusal 17 0 0)
    × DrainOf (4 ∷ []) (refusal 17 0 0)
    × DrainOf (3 ∷ []) (refusal 17 0 0)
    × DrainOf (1 ∷ 1 ∷ 3 ∷ []) (refusal 17 0 0)
    × DrainOf (1 ∷ 3 ∷ 3 ∷ []) (refusal 17 0 0)
    × DrainOf (4 ∷ 3 ∷ []) (refusal 17 0 0)
    × DrainOf (1 ∷ 5 ∷ []) (refusal 17 0 0)
    × DrainOf [] (refusal 0 0 0)
    × DrainOf (1 ∷ 2 ∷ 2 ∷ 3 ∷ 1 ∷ 3 ∷ 4 ∷ 5 ∷ []) (refusal 0 0 0)

-- of the values, with 5 or 13: 7 is not permitted, in an operation to come and in one that has put already
abbrev either : Bool → Option ℕ → Lock
either exc cell = lock_of (Either 5 13) 3 exc 0 cell 0 0 None false

abbrev pub UntidyValues : Type 0
UntidyValues =
    DrainSays (lists (2 ∷ []) (4 ∷ 5 ∷ []) (0 ∷ 7 ∷ [])) (either false (Some 5)) (new_recs 1) (refusal 17 0 0)
    × DrainSays (lists (2 ∷ []) (4 ∷ 5 ∷ []) (0 ∷ 13 ∷ [])) (either false (Some 5)) (new_recs 1) (refusal 0 0 0)
    × DrainSays (lists (1 ∷ []) (5 ∷ []) (7 ∷ [])) (either true (Some 5)) (rec_of 0 WritePut 0 0 ∷ []) (refusal 17 0 0)
    × DrainSays (lists (1 ∷ []) (5 ∷ []) (13 ∷ [])) (either true (Some 5)) (rec_of 0 WritePut 0 0 ∷ []) (refusal 0 0 0)

-- ---- entries: a run of one entry for thread i is refused, and its row has this answer, flag and count
abbrev RowSays : Lent → Lock → List Rec → ℕ → ℕ → ℕ → ℕ → Type 0
RowSays s L l i answer exc rc = (run_lent s L l (i ∷ []) 1 (replicate 6 9)).trace ≡ i ∷ 0 ∷ answer ∷ 0 ∷ exc ∷ rc ∷ []

abbrev reading : Rec
reading = rec_of 0 Reading 0 0

-- locks with so many readers; with a writer that took 5; with a mover; finished
abbrev counted : ℕ → Lock
counted n = lock_of Any 3 false n (Some 5) 0 0 None false

abbrev taken_lock : Lock
taken_lock = lock_of (Either 5 13) 3 true 0 None 0 0 None false

abbrev moved_by : ℕ → Lock
moved_by t = lock_of Any 3 false 0 (Some 5) 0 0 (Some t) false

abbrev finished_lock : Lock
finished_lock = lock_of Any 3 true 0 None 0 0 None true

-- 11: the first number that is no thread, and the largest
abbrev pub Entry11 : Type 0
Entry11 =
    RowSays (alone (1 ∷ [])) new_lock (idle ∷ []) 1 11 0 0
    × RowSays (alone (1 ∷ [])) new_lock (idle ∷ []) (2 ^ 64 - 1) 11 0 0

-- 12: an empty script, and one that is done; flag and count as they are
abbrev pub Entry12 : Type 0
Entry12 =
    RowSays (alone []) new_lock (idle ∷ []) 0 12 0 0
    × RowSays (alone (1 ∷ [])) (counted 1) (rec_of 1 Reading 0 0 ∷ []) 0 12 0 1
    × RowSays (alone (4 ∷ [])) taken_lock (rec_of 1 Writing 0 5 ∷ []) 0 12 1 0

-- 13: finished, and moved by another
abbrev pub Entry13 : Type 0
Entry13 =
    RowSays (alone (1 ∷ [])) finished_lock (idle ∷ []) 0 13 1 0
    × RowSays (two (7 ∷ []) (1 ∷ [])) (moved_by 0) (idle ∷ idle ∷ []) 1 13 0 0

-- 14: the operation o does not fit Idle, Reading or Writing
abbrev AtIdle : ℕ → Type 0
AtIdle o = RowSays (alone (o ∷ [])) new_lock (idle ∷ []) 0 14 0 0

abbrev AtReading : ℕ → Type 0
AtReading o = RowSays (alone (o ∷ [])) (counted 1) (reading ∷ []) 0 14 0 1

abbrev AtWriting : ℕ → Type 0
AtWriting o = RowSays (alone (o ∷ [])) taken_lock (rec_of 0 Writing 0 5 ∷ []) 0 14 1 0

abbrev pub Entry14 : Type 0
Entry14 =
    (AtIdle 2 × AtIdle 3 × AtIdle 5 × AtIdle 6)
    × (AtReading 1 × AtReading 4 × AtReading 5 × AtReading 7)
    × (AtWriting 1 × AtWriting 2 × AtWriting 3 × AtWriting 4 × AtWriting 7)
    -- nor does 7 fit Reading where its thread is the mover already
    × RowSays (alone (7 ∷ [])) (lock_of Any 3 false 1 (Some 5) 0 0 (Some 0) false) (reading ∷ []) 0 14 0 1

-- 15: another record, before or behind, is not Idle
abbrev pub Entry15 : Type 0
Entry15 =
    RowSays (two (7 ∷ []) (1 ∷ [])) new_lock (idle ∷ rec_of 0 ReadTry 0 0 ∷ []) 0 15 0 0
    × RowSays (two (3 ∷ []) (7 ∷ [])) (counted 1) (reading ∷ idle ∷ []) 1 15 0 1

-- 16: 7 is put, and 5 or 13 is permitted
abbrev pub Entry16 : Type 0
Entry16 = RowSays (lists (1 ∷ []) (5 ∷ []) (7 ∷ [])) taken_lock (rec_of 0 Writing 0 5 ∷ []) 0 16 1 0

-- It is asked at Writing alone: at WritePut, where a state from outside may have a value in its script that is not permitted, the flag
-- is cleared and the release ends.
abbrev pub NotAskedAgain : Type 0
NotAskedAgain =
    let left = run_lent (lists (1 ∷ []) (5 ∷ []) (7 ∷ [])) (either true (Some 5)) (rec_of 0 WritePut 0 0 ∷ []) (0 ∷ []) 1 (replicate 6 9) in
    (left.refusal ≡ refusal 0 0 0)
    × (left.trace ≡ 0 ∷ 11 ∷ 0 ∷ 0 ∷ 0 ∷ 0 ∷ [])
    × (left.lock ≡ either false (Some 5))
    × (left.recs ≡ rec_of 1 Idle 0 0 ∷ [])

-- the lowest first, where two or more apply
abbrev pub EntryOrder : Type 0
EntryOrder =
    -- 11, and 12 and 13: no such thread, and so no script, of a finished lock
    RowSays (alone (1 ∷ [])) finished_lock (idle ∷ []) 1 11 1 0
    -- 12 and 13
    × RowSays (alone []) finished_lock (idle ∷ []) 0 12 1 0
    × RowSays (two (7 ∷ []) []) (moved_by 0) (idle ∷ idle ∷ []) 1 12 0 0
    -- 13 and 14
    × RowSays (alone (3 ∷ [])) finished_lock (idle ∷ []) 0 13 1 0
    × RowSays (two (7 ∷ []) (3 ∷ [])) (moved_by 0) (idle ∷ idle ∷ []) 1 13 0 0
    -- 13 and 15
    × RowSays (two (7 ∷ []) (7 ∷ [])) (lock_of Any 3 true 0 (Some 5) 0 0 (Some 0) false) (rec_of 0 WriteWait 0 0 ∷ idle ∷ []) 1 13 1 0
    -- 14 and 15
    × RowSays (two (7 ∷ []) (3 ∷ [])) (counted 2) (reading ∷ reading ∷ []) 0 14 0 2

abbrev pub Numbers : Type 0
Numbers =
    (Setup1 × Setup2 × Setup3 × Setup4)
    × (Lists5 × Lists6 × Lists7 × Strays)
    × (Run10 × Drain10)
    × (Untidy × UntidyScripts × UntidyValues)
    × (Entry11 × Entry12 × Entry13 × Entry14 × Entry15 × Entry16 × NotAskedAgain)
    × (SetupOrder × RunOrder × DrainOrder × EntryOrder)
