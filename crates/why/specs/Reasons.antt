-- What a reason means, in words over the next row and the state; and the statements: the answer is the one reason there is, and 'not
-- waiting' exactly where the next step is no failed look or exchange.
use Rattle.std.specs.Prelude.{ℕ, ◌<◌, ◌≡◌, ◌≢◌, ◌↔◌, ◌⊎◌, true, false, List, length, Err, None, Ok, Option, Result, Some}
use Rattle.machine.specs.Names.{acquire_read, acquire_write, into_inner, loads_rc, loads_exc, waits_rc, fails_rc, fails_exc}
use Rattle.machine.specs.Refusals.{Nothing, Exact}
use Rattle.machine.specs.Lists.{Lent, scripts_of, beside}
use Rattle.machine.specs.Step.{Scripts, here, op_of, entry_refusal, step}
use Rattle.machine.specs.Sound.{Sound}
use Rattle.machine.specs.When.{AtEntry}
use Rattle.machine.specs.declared.Lock.{Lock}
use Rattle.machine.specs.declared.Rec.{Rec}
use Rattle.machine.specs.declared.Row.{Row}
use Rattle.machine.specs.declared.Refusal.{Refusal}
use Rattle.machine.specs.declared.Place.TheVariants.{Idle, ReadTry, ReadCheck, ReadBack, Reading, WriteWait, WriteTake, Writing, WritePut}
use Rattle.why.specs.Why.{why, reason_no, who_no}
use Rattle.why.specs.Told.{numbers_of}
use Rattle.why.specs.declared.Reason.{Reason}
use Rattle.why.specs.declared.Reason.TheVariants.{NotWaiting, CountFull, CountChanged, Flag, Readers}

-- ---- waiting: the next row is a failed look or exchange
-- the row is of this access, and what it got is so
abbrev pub Got : Row → ℕ → (ℕ → Type 0) → Type 0
Got row access P = (row.access ≡ access) × P row.got

-- the count is seen at the top M
abbrev pub SeesFull : ℕ → Row → Type 0
SeesFull M row = Got row loads_rc (λ got. got ≡ M)

-- an exchange of the count fails
abbrev pub LosesCount : Row → Type 0
LosesCount row = row.access ≡ fails_rc

-- the flag is seen up, or an exchange of the flag fails
abbrev pub MeetsFlag : Row → Type 0
MeetsFlag row = Got row loads_exc (λ got. got ≡ 1) ⊎ (row.access ≡ fails_exc)

-- a writer sees a count other than 0
abbrev pub MeetsReaders : Row → Type 0
MeetsReaders row = Got row waits_rc (λ got. got ≢ 0)

pub data Failed (M : ℕ) (row : Row) : Type 0 where
  as_sees_full : SeesFull M row → Failed M row
  as_loses_count : LosesCount row → Failed M row
  as_meets_flag : MeetsFlag row → Failed M row
  as_meets_readers : MeetsReaders row → Failed M row

-- thread i waits: its next step is accepted, and is one of these
abbrev pub Waits : Scripts → Lock → List Rec → ℕ → Type 0
Waits S L l i = let row = (step S L l i).row in (row.answer ≡ 0) × Failed L.top.0 row

-- the same without the row: where the thread stands, its operation, and the lock
pub data Stuck (S : Scripts) (L : Lock) (l : List Rec) (i : ℕ) : Type 0 where
  at_the_top : (here l i).place ≡ Idle → op_of S l i ≡ acquire_read → L.rc.0 ≡ L.top.0 → Stuck S L l i
  not_as_seen : (here l i).place ≡ ReadTry → L.rc.0 ≢ (here l i).seen.0 → Stuck S L l i
  sees_the_flag : (here l i).place ≡ ReadCheck → L.exc ≡ true → Stuck S L l i
  finds_the_flag : (here l i).place ≡ Idle → (op_of S l i ≡ acquire_write) ⊎ (op_of S l i ≡ into_inner) → L.exc ≡ true → Stuck S L l i
  is_not_alone : (here l i).place ≡ WriteWait → L.rc.0 ≢ 0 → Stuck S L l i

-- ---- who stands in the way
-- the record holds the flag
pub data HasFlag (r : Rec) : Type 0 where
  waits : r.place ≡ WriteWait → HasFlag r
  takes : r.place ≡ WriteTake → HasFlag r
  writes : r.place ≡ Writing → HasFlag r
  puts : r.place ≡ WritePut → HasFlag r

-- the record is a counted reader
pub data Counted (r : Rec) : Type 0 where
  checks : r.place ≡ ReadCheck → Counted r
  backs : r.place ≡ ReadBack → Counted r
  reads : r.place ≡ Reading → Counted r

-- no record below w is so
abbrev pub NoneBelow : (Rec → Type 0) → List Rec → ℕ → Type 0
NoneBelow P l w = (j : ℕ) → j < w → P (here l j) → ⊥

-- no record is so
abbrev pub NoRecord : (Rec → Type 0) → List Rec → Type 0
NoRecord P l = NoneBelow P l (length l)

-- ---- what each reason means
pub data Because (S : Scripts) (L : Lock) (l : List Rec) (i : ℕ) : Reason → Type 0 where
  not_waiting : (Waits S L l i → ⊥) → Because S L l i NotWaiting
  count_full : SeesFull L.top.0 (step S L l i).row → L.rc.0 ≡ L.top.0 → Because S L l i CountFull
  count_changed : LosesCount (step S L l i).row → L.rc.0 ≢ (here l i).seen.0 → Because S L l i CountChanged
  flag_held : (w : ℕ) → MeetsFlag (step S L l i).row → L.exc ≡ true → w < length l → HasFlag (here l w) → Because S L l i (Flag (Some w))
  flag_dropped : MeetsFlag (step S L l i).row → L.exc ≡ true → NoRecord HasFlag l → L.writes.0 ≡ 1 → Because S L l i (Flag None)
  counted_by : (w : ℕ) → MeetsReaders (step S L l i).row → L.rc.0 ≢ 0 → w < length l → Counted (here l w) → NoneBelow Counted l w
      → Because S L l i (Readers (Some w))
  counted_dropped : MeetsReaders (step S L l i).row → L.rc.0 ≢ 0 → NoRecord Counted l → L.rc.0 ≡ L.reads.0 → Because S L l i (Readers None)

-- ---- the statements
-- 'not waiting' exactly where the thread is not, of any state
abbrev pub WaitsExactly : Type 0
WaitsExactly = (S : Scripts) (L : Lock) (l : List Rec) (i : ℕ) → (why S L l i ≢ NotWaiting) ↔ Waits S L l i

-- in words over the state: its next step is not refused, and it stands so
abbrev pub WaitsWhere : Type 0
WaitsWhere = (S : Scripts) (L : Lock) (l : List Rec) (i : ℕ) → Sound S L l → Waits S L l i ↔ ((entry_refusal S L l i ≡ 0) × Stuck S L l i)

-- the answer is y exactly if y is the reason: it is true, and there is no other
abbrev pub WhyExact : Type 0
WhyExact = (S : Scripts) (L : Lock) (l : List Rec) (i : ℕ) → Sound S L l → (y : Reason) → (why S L l i ≡ y) ↔ Because S L l i y

-- every waiting thread of a sound state has exactly one reason, and it is not 'not waiting'
abbrev pub OneReason : Type 0
OneReason =
    (S : Scripts) (L : Lock) (l : List Rec) (i : ℕ) → Sound S L l → Waits S L l i
    → let y = why S L l i in
    (y ≢ NotWaiting) × Because S L l i y × ((z : Reason) → Because S L l i z → z ≡ y)

-- the reason is the flag; it is counted readers
pub data OfFlag : Reason → Type 0 where
  flag : (b : Option ℕ) → OfFlag (Flag b)

pub data OfReaders : Reason → Type 0 where
  readers : (b : Option ℕ) → OfReaders (Readers b)

-- each reason is given exactly for its rows, of any state
abbrev pub FitsRow : Type 0
FitsRow =
    (S : Scripts) (L : Lock) (l : List Rec) (i : ℕ)
    → let y = why S L l i in
    let row = (step S L l i).row in
    ((y ≡ CountFull) ↔ SeesFull L.top.0 row)
    × ((y ≡ CountChanged) ↔ LosesCount row)
    × (OfFlag y ↔ MeetsFlag row)
    × (OfReaders y ↔ MeetsReaders row)

-- the reader that is named is counted, and none below it is
abbrev pub LowestCounted : Type 0
LowestCounted =
    (S : Scripts) (L : Lock) (l : List Rec) (i w : ℕ) → Sound S L l → why S L l i ≡ Readers (Some w)
    → (w < length l) × Counted (here l w) × NoneBelow Counted l w

-- the record w is named in the answer
pub data Names : Reason → ℕ → Type 0 where
  holder : {w : ℕ} → Names (Flag (Some w)) w
  reader : {w : ℕ} → Names (Readers (Some w)) w

-- nobody waits for itself
abbrev pub ForAnother : Type 0
ForAnother = (S : Scripts) (L : Lock) (l : List Rec) (i w : ℕ) → Sound S L l → Names (why S L l i) w → w ≢ i

-- the holder of the flag is the only one, and then no write was dropped and the lock is not finished
abbrev pub OnlyHolder : Type 0
OnlyHolder =
    (S : Scripts) (L : Lock) (l : List Rec) (w : ℕ) → Sound S L l → w < length l → HasFlag (here l w)
    → ((j : ℕ) → j < length l → HasFlag (here l j) → j ≡ w) × (L.writes.0 ≡ 0) × (L.finished ≡ false)

-- where the flag is up, one record holds it, or one dropped write does, or the lock is finished; and nowhere else
pub data HeldBy (L : Lock) (l : List Rec) : Type 0 where
  a_record : (w : ℕ) → w < length l → HasFlag (here l w) → ((j : ℕ) → j < length l → HasFlag (here l j) → j ≡ w) → L.writes.0 ≡ 0
      → L.finished ≡ false → HeldBy L l
  a_dropped_write : NoRecord HasFlag l → L.writes.0 ≡ 1 → L.finished ≡ false → HeldBy L l
  the_end : NoRecord HasFlag l → L.writes.0 ≡ 0 → L.finished ≡ true → HeldBy L l

abbrev pub FlagUp : Type 0
FlagUp = (S : Scripts) (L : Lock) (l : List Rec) → Sound S L l → (L.exc ≡ true) ↔ HeldBy L l

-- nobody waits for a finished lock: its flag is nobody's reason
abbrev pub NotFinished : Type 0
NotFinished = (S : Scripts) (L : Lock) (l : List Rec) (i : ℕ) → Waits S L l i → L.finished ≡ false

-- two answers with the same numbers are the same
abbrev pub NumbersTell : Type 0
NumbersTell = (y z : Reason) → reason_no y ≡ reason_no z → who_no y ≡ who_no z → y ≡ z

-- ---- the call
-- the conditions of the refusals: a run's, and those of the next step
pub data AtWhy (Run Step : ℕ → Type 0) : ℕ → Type 0 where
  as_run : {k : ℕ} → Run k → AtWhy Run Step k
  next_step : {k : ℕ} → Step k → AtWhy Run Step k

-- the refusal's number, 0 where a reason is given
abbrev pub number_of : Result Reason Refusal → ℕ
number_of r = (numbers_of r).answer

-- the refusal is exact, with what belongs beside it; and an answer is given exactly where nothing is refused and it holds, in a sound state
pub record Answers (s : Lent) (Run : ℕ → Type 0) (L : Lock) (l : List Rec) (i : ℕ) (r : Result Reason Refusal) : Type 0 where
  pub exact : Exact (AtWhy Run (AtEntry (scripts_of s) L l i)) (number_of r)
  pub next_to : (x : Refusal) → r ≡ Err x → x ≡ beside s x.number
  pub sound : (y : Reason) → r ≡ Ok y → Sound (scripts_of s) L l
  pub given : (y : Reason) → (r ≡ Ok y) ↔ (Nothing (AtWhy Run (AtEntry (scripts_of s) L l i)) × Because (scripts_of s) L l i y)
  pub told : Nothing (AtWhy Run (AtEntry (scripts_of s) L l i)) → (y : Reason) × (r ≡ Ok y)
