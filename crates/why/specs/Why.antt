-- Why a thread is waiting: which next rows mean that it is, and the reason, out of that row and the records. And each answer's number.
use Rattle.std.specs.Prelude.{ℕ, Bool, ◌||◌, ◌&&◌, not, cond, List, eqb, ltb, length, None, Option, Some}
use Rattle.machine.specs.Names.{loads_rc, loads_exc, waits_rc, fails_rc, fails_exc}
use Rattle.machine.specs.Words.{is}
use Rattle.machine.specs.Lists.{find}
use Rattle.machine.specs.Step.{Scripts, here, step}
use Rattle.machine.specs.declared.Lock.{Lock}
use Rattle.machine.specs.declared.Rec.{Rec}
use Rattle.machine.specs.declared.Place.TheVariants.{ReadCheck, ReadBack, Reading, WriteWait, WriteTake, Writing, WritePut}
use Rattle.why.specs.declared.Reason.{Reason}
use Rattle.why.specs.declared.Reason.TheVariants.{NotWaiting, CountFull, CountChanged, Flag, Readers}

-- ---- the failed looks and exchanges, by access and value got
-- the count is loaded and is at the top
abbrev pub sees_full : ℕ → ℕ → ℕ → Bool
sees_full top access got = eqb access loads_rc && eqb got top

-- the exchange of the count fails
abbrev pub loses_count : ℕ → Bool
loses_count access = eqb access fails_rc

-- the flag is loaded and is up, or its exchange fails
abbrev pub meets_flag : ℕ → ℕ → Bool
meets_flag access got = (eqb access loads_exc && eqb got 1) || eqb access fails_exc

-- a writer loads the count and it is not 0
abbrev pub meets_readers : ℕ → ℕ → Bool
meets_readers access got = eqb access waits_rc && not (eqb got 0)

-- ---- whom the thread waits for
-- the record holds the flag
abbrev pub has_flag : Rec → Bool
has_flag r = is r.place WriteWait || (is r.place WriteTake || (is r.place Writing || is r.place WritePut))

-- the record is a counted reader
abbrev pub is_counted : Rec → Bool
is_counted r = is r.place ReadCheck || (is r.place ReadBack || is r.place Reading)

-- the lowest-numbered record of which a test holds, the number of records if there is none
abbrev pub first_of : (Rec → Bool) → List Rec → ℕ
first_of test l = find (λ k. test (here l k)) 0 (length l)

abbrev pub blocker_of : (Rec → Bool) → List Rec → Option ℕ
blocker_of test l = let w = first_of test l in cond (ltb w (length l)) (Some w) None

-- ---- the reason
unfoldable pub reason_of : ℕ → List Rec → ℕ → ℕ → Reason
reason_of top l access got =
    cond (sees_full top access got) CountFull
    (cond (loses_count access) CountChanged
    (cond (meets_flag access got) (Flag (blocker_of has_flag l))
    (cond (meets_readers access got) (Readers (blocker_of is_counted l))
    NotWaiting)))

-- of thread i, by the row that its next step would have
abbrev pub why : Scripts → Lock → List Rec → ℕ → Reason
why S L l i = let row = (step S L l i).row in reason_of L.top.0 l row.access row.got

-- ---- in numbers
-- one number where a record stands in the way, another where dropped handles do
abbrev pub by_blocker : Option ℕ → ℕ → ℕ → ℕ
by_blocker (Some w) some none = some
by_blocker None some none = none

abbrev pub record_in : Option ℕ → ℕ
record_in (Some w) = w
record_in None = 0

abbrev pub reason_no : Reason → ℕ
reason_no NotWaiting = 0
reason_no CountFull = 1
reason_no CountChanged = 2
reason_no (Flag b) = by_blocker b 3 4
reason_no (Readers b) = by_blocker b 5 6

-- the record beside it, 0 where there is none
abbrev pub who_no : Reason → ℕ
who_no NotWaiting = 0
who_no CountFull = 0
who_no CountChanged = 0
who_no (Flag b) = record_in b
who_no (Readers b) = record_in b
