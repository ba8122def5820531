-- The answers in computed states: each of the seven, and next to it a state that differs in one thing and has another answer; each refusal, next
-- to a state that is not refused; and the numbers of each.
use Rattle.std.specs.Prelude.{ℕ, ◌-◌, ◌^◌, ◌≡◌, Bool, true, false, List, [], ◌∷◌, length, None, Option, Some, Err, Ok, Result}
use Rattle.cell.specs.declared.pred.Pred.TheVariants.{Any, Either}
use Rattle.machine.specs.Names.{script_too_long, wrong_lengths, wrong_code, unsound, no_thread, script_finished, lock_gone, does_not_fit, others_busy, not_permitted}
use Rattle.machine.specs.Words.{unused}
use Rattle.machine.specs.Lists.{Lent, lists, scripts_of}
use Rattle.machine.specs.Setup.{fresh}
use Rattle.machine.specs.Run.{run}
use Rattle.machine.specs.Numbers.{lock_of, rec_of, alone}
use Rattle.machine.specs.declared.Place.{Place}
use Rattle.machine.specs.declared.Place.TheVariants.{Idle, ReadTry, ReadCheck, WriteWait, WriteTake}
use Rattle.why.specs.Told.{told_lent, numbers_of}
use Rattle.why.specs.declared.Reason.TheVariants.{NotWaiting, CountFull, CountChanged, Flag, Readers}
use Rattle.why.specs.declared.Reason.{Reason}
use Rattle.machine.specs.declared.Refusal.{Refusal}
use Rattle.why.specs.declared.Numbers.{Numbers}

-- with the top m, a first value 5 and the values 5 and 13 permitted, after a schedule: what is told of thread i
abbrev told_after : Lent → ℕ → List ℕ → ℕ → Result Reason Refusal
told_after s m schedule i =
    let w = run (scripts_of s) (unused (Either 5 13) m 5) (fresh (length s.lens)) schedule in
    told_lent s w.lock w.recs i

abbrev refused : ℕ → Result Reason Refusal
refused k = Err (record { number = k; thread = 0; place = 0 })

-- two readers; a reader and a writer; two writers, of which one drops its handle; two readers and a writer
abbrev readers : Lent
readers = lists (2 ∷ 2 ∷ []) (1 ∷ 3 ∷ 1 ∷ 3 ∷ []) (0 ∷ 0 ∷ 0 ∷ 0 ∷ [])

abbrev meeting : Lent
meeting = lists (2 ∷ 2 ∷ []) (1 ∷ 3 ∷ 4 ∷ 5 ∷ []) (0 ∷ 0 ∷ 0 ∷ 5 ∷ [])

abbrev writers : Lent
writers = lists (2 ∷ 2 ∷ []) (4 ∷ 6 ∷ 4 ∷ 5 ∷ []) (0 ∷ 0 ∷ 0 ∷ 13 ∷ [])

abbrev crowd : Lent
crowd = lists (2 ∷ 2 ∷ 2 ∷ []) (1 ∷ 3 ∷ 1 ∷ 3 ∷ 4 ∷ 5 ∷ []) (0 ∷ 0 ∷ 0 ∷ 0 ∷ 0 ∷ 5 ∷ [])

-- a reader that drops its handle, and a writer; the same reader, and a thread that takes the lock apart
abbrev leaving : Lent
leaving = lists (2 ∷ 2 ∷ []) (1 ∷ 6 ∷ 4 ∷ 5 ∷ []) (0 ∷ 0 ∷ 0 ∷ 5 ∷ [])

abbrev parting : Lent
parting = lists (2 ∷ 1 ∷ []) (1 ∷ 6 ∷ 7 ∷ []) (0 ∷ 0 ∷ 0 ∷ [])

-- a writer that drops its handle, and a thread that takes the lock apart
abbrev closing : Lent
closing = lists (2 ∷ 1 ∷ []) (4 ∷ 6 ∷ 7 ∷ []) (0 ∷ 0 ∷ 0 ∷ [])

-- ---- the reasons
abbrev pub ReasonCases : Type 0
ReasonCases =
    -- the count is full, or M is one more
    (told_after readers 1 (0 ∷ 0 ∷ 0 ∷ []) 1 ≡ Ok CountFull)
    × (told_after readers 2 (0 ∷ 0 ∷ 0 ∷ []) 1 ≡ Ok NotWaiting)
    -- the count has changed, or the other thread has not made its exchange yet
    × (told_after readers 2 (1 ∷ 0 ∷ 0 ∷ []) 1 ≡ Ok CountChanged)
    × (told_after readers 2 (1 ∷ 0 ∷ []) 1 ≡ Ok NotWaiting)
    -- a reader sees the flag, or the writer has not put it up yet
    × (told_after meeting 2 (0 ∷ 0 ∷ 1 ∷ []) 0 ≡ Ok (Flag (Some 1)))
    × (told_after meeting 2 (0 ∷ 0 ∷ []) 0 ≡ Ok NotWaiting)
    -- and the writer waits for that reader: each is the other's reason
    × (told_after meeting 2 (0 ∷ 0 ∷ 1 ∷ []) 1 ≡ Ok (Readers (Some 0)))
    -- a writer meets the flag, whatever place it is held at, or it is down again
    × (told_after writers 2 (1 ∷ []) 0 ≡ Ok (Flag (Some 1)))
    × (told_after writers 2 (1 ∷ 1 ∷ []) 0 ≡ Ok (Flag (Some 1)))
    × (told_after writers 2 (1 ∷ 1 ∷ 1 ∷ []) 0 ≡ Ok (Flag (Some 1)))
    × (told_after writers 2 (1 ∷ 1 ∷ 1 ∷ 1 ∷ []) 0 ≡ Ok (Flag (Some 1)))
    × (told_after writers 2 (1 ∷ 1 ∷ 1 ∷ 1 ∷ 1 ∷ []) 0 ≡ Ok NotWaiting)
    -- a dropped handle keeps the flag up, or it is still held
    × (told_after writers 2 (0 ∷ 0 ∷ 0 ∷ 0 ∷ []) 1 ≡ Ok (Flag None))
    × (told_after writers 2 (0 ∷ 0 ∷ 0 ∷ []) 1 ≡ Ok (Flag (Some 0)))
    -- the lowest of two counted readers, or it has not counted itself yet
    × (told_after crowd 3 (1 ∷ 1 ∷ 1 ∷ 0 ∷ 0 ∷ 2 ∷ []) 2 ≡ Ok (Readers (Some 0)))
    × (told_after crowd 3 (1 ∷ 1 ∷ 1 ∷ 0 ∷ 2 ∷ []) 2 ≡ Ok (Readers (Some 1)))
    -- a reader that is about to take itself off the count, or has done so
    × (told_after crowd 3 (0 ∷ 0 ∷ 2 ∷ 0 ∷ []) 2 ≡ Ok (Readers (Some 0)))
    × (told_after crowd 3 (0 ∷ 0 ∷ 2 ∷ 0 ∷ 0 ∷ []) 2 ≡ Ok NotWaiting)
    -- a dropped handle stays counted, or it is still held
    × (told_after leaving 2 (0 ∷ 0 ∷ 0 ∷ 1 ∷ 0 ∷ []) 1 ≡ Ok (Readers None))
    × (told_after leaving 2 (0 ∷ 0 ∷ 0 ∷ 1 ∷ []) 1 ≡ Ok (Readers (Some 0)))
    -- the same of a thread that takes the lock apart
    × (told_after parting 2 (0 ∷ 0 ∷ 0 ∷ 0 ∷ 1 ∷ []) 1 ≡ Ok (Readers None))
    -- it meets a flag that a dropped handle keeps up; while the holder is busy it is refused
    × (told_after closing 2 (0 ∷ 0 ∷ 0 ∷ 0 ∷ []) 1 ≡ Ok (Flag None))
    × (told_after closing 2 (0 ∷ []) 1 ≡ refused others_busy)

-- ---- the refusals of the call
-- the same lists with a script of 65 operations, with an operation missing, with one that is unknown
abbrev long : Lent
long = lists (2 ∷ 65 ∷ []) readers.ops readers.vals

abbrev short : Lent
short = lists readers.lens (1 ∷ 3 ∷ 1 ∷ []) readers.vals

abbrev unknown : Lent
unknown = lists readers.lens (1 ∷ 3 ∷ 1 ∷ 8 ∷ []) readers.vals

-- asked in the state of setup with two readers
abbrev told_at_first : Lent → ℕ → Result Reason Refusal
told_at_first s m = told_lent s (unused (Either 5 13) m 5) (fresh 2) 0

abbrev pub CallCases : Type 0
CallCases =
    (told_at_first long 1 ≡ Err (record { number = script_too_long; thread = 1; place = 0 }))
    × (told_at_first short 1 ≡ refused wrong_lengths)
    × (told_at_first unknown 1 ≡ Err (record { number = wrong_code; thread = 1; place = 1 }))
    × (told_at_first crowd 1 ≡ refused wrong_lengths)
    × (told_at_first readers 0 ≡ refused unsound)
    × (told_at_first readers 1 ≡ Ok NotWaiting)
    -- a run's come first: there is no thread 2 either
    × (told_lent readers (unused (Either 5 13) 0 5) (fresh 2) 2 ≡ refused unsound)

-- ---- the refusals of the next step
-- a thread that takes the lock apart, and a writer with another operation behind its acquire; a writer that puts what is not permitted
abbrev ended : Lent
ended = lists (1 ∷ 2 ∷ []) (7 ∷ 4 ∷ 3 ∷ []) (0 ∷ 0 ∷ 0 ∷ [])

abbrev wrong : Lent
wrong = lists (2 ∷ []) (4 ∷ 5 ∷ []) (0 ∷ 7 ∷ [])

abbrev pub StepCases : Type 0
StepCases =
    (told_after readers 1 [] 2 ≡ refused no_thread)
    × (told_after readers 1 [] 1 ≡ Ok NotWaiting)
    × (told_after readers 1 (0 ∷ 0 ∷ 0 ∷ 0 ∷ []) 0 ≡ refused script_finished)
    × (told_after readers 1 (0 ∷ 0 ∷ 0 ∷ []) 0 ≡ Ok NotWaiting)
    -- a finished lock's flag is up, and nobody waits for it; nor does another thread wait for the mover
    × (told_after ended 1 (0 ∷ 0 ∷ 0 ∷ []) 1 ≡ refused lock_gone)
    × (told_after ended 1 (0 ∷ []) 1 ≡ refused lock_gone)
    × (told_after ended 1 [] 1 ≡ Ok NotWaiting)
    × (told_after ended 1 (1 ∷ 1 ∷ 1 ∷ []) 1 ≡ refused does_not_fit)
    × (told_after ended 1 (1 ∷ 1 ∷ []) 1 ≡ Ok NotWaiting)
    × (told_after parting 2 (0 ∷ []) 1 ≡ refused others_busy)
    × (told_after parting 2 [] 1 ≡ Ok NotWaiting)
    × (told_after wrong 1 (0 ∷ 0 ∷ 0 ∷ []) 0 ≡ refused not_permitted)
    × (told_after wrong 1 (0 ∷ 0 ∷ []) 0 ≡ Ok NotWaiting)

-- ---- states that are lent
-- a lone reader before its first access, the count all dropped handles: full at the highest top, or one less
abbrev filled : ℕ → Result Reason Refusal
filled rc = told_lent (alone (1 ∷ [])) (lock_of Any (2 ^ 64 - 1) false rc (Some 5) rc 0 None false) (rec_of 0 Idle 0 0 ∷ []) 0

-- a lone reader that has counted itself, and a flag that is up by a dropped write, which leaves the cell empty, or down
abbrev counted : Bool → Option ℕ → ℕ → Result Reason Refusal
counted exc cell writes = told_lent (alone (1 ∷ [])) (lock_of Any 3 exc 1 cell 0 writes None false) (rec_of 0 ReadCheck 0 0 ∷ []) 0

-- a lone writer that waits, or may take the value: so many dropped reads
abbrev waiting : Place → ℕ → Result Reason Refusal
waiting p reads = told_lent (alone (4 ∷ [])) (lock_of Any 3 true reads (Some 5) reads 0 None false) (rec_of 0 p 0 0 ∷ []) 0

-- a lone reader that has seen 1, and another count
abbrev seeing : ℕ → Result Reason Refusal
seeing rc = told_lent (alone (1 ∷ [])) (lock_of Any 3 false rc (Some 5) rc 0 None false) (rec_of 0 ReadTry 1 0 ∷ []) 0

abbrev pub LentCases : Type 0
LentCases =
    (filled (2 ^ 64 - 1) ≡ Ok CountFull)
    × (filled (2 ^ 64 - 2) ≡ Ok NotWaiting)
    × (counted true None 1 ≡ Ok (Flag None))
    × (counted false (Some 5) 0 ≡ Ok NotWaiting)
    × (waiting WriteWait 1 ≡ Ok (Readers None))
    × (waiting WriteWait 0 ≡ Ok NotWaiting)
    × (waiting WriteTake 0 ≡ Ok NotWaiting)
    -- the writer past its wait is unsound beside a count
    × (waiting WriteTake 1 ≡ refused unsound)
    × (seeing 0 ≡ Ok CountChanged)
    × (seeing 1 ≡ Ok NotWaiting)
    × (seeing 2 ≡ Ok CountChanged)

-- ---- in numbers
abbrev numbers : ℕ → ℕ → ℕ → Numbers
numbers answer reason who = record { answer = answer; reason = reason; who = who }

abbrev pub NumberCases : Type 0
NumberCases =
    (numbers_of (told_after readers 2 [] 1) ≡ numbers 0 0 0)
    × (numbers_of (told_after readers 1 (0 ∷ 0 ∷ 0 ∷ []) 1) ≡ numbers 0 1 0)
    × (numbers_of (told_after readers 2 (1 ∷ 0 ∷ 0 ∷ []) 1) ≡ numbers 0 2 0)
    × (numbers_of (told_after writers 2 (1 ∷ []) 0) ≡ numbers 0 3 1)
    × (numbers_of (told_after writers 2 (0 ∷ 0 ∷ 0 ∷ 0 ∷ []) 1) ≡ numbers 0 4 0)
    × (numbers_of (told_after crowd 3 (1 ∷ 1 ∷ 1 ∷ 0 ∷ 2 ∷ []) 2) ≡ numbers 0 5 1)
    × (numbers_of (told_after leaving 2 (0 ∷ 0 ∷ 0 ∷ 1 ∷ 0 ∷ []) 1) ≡ numbers 0 6 0)
    × (numbers_of (told_after ended 1 (0 ∷ []) 1) ≡ numbers 13 0 0)
    × (numbers_of (told_at_first long 1) ≡ numbers 5 0 0)

abbrev pub Cases : Type 0
Cases = ReasonCases × CallCases × StepCases × LentCases × NumberCases
