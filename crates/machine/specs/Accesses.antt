-- The table of places and accesses, one statement a code. What a step gets, and the flag, the count and the cell that it leaves, are
-- what the definition of that operation in `atomic` or `cell` gives, with the arguments of the table. Place and operation before, and
-- the thread's record, the mover, the dropped numbers and the end after, are the table's too.
use Rattle.std.specs.Prelude.{ℕ, ◌+◌, ◌≤◌, ◌≡◌, ◌≢◌, ◌⊎◌, Bool, true, false, cond, ◌||◌, List, eqb, ltb, length}
use Rattle.std.specs.Bool.{beq}
use Rattle.atomic.specs.Access.{Reply, old, failed, nothing, load, store, compare_exchange, fetch_sub}
use Rattle.atomic.specs.Permission.{Left}
use Rattle.cell.specs.Value.{put, take, borrow}
use Rattle.cell.specs.Pred.{permits}
use Rattle.std.specs.Prelude.{None, Option, Some}
use Rattle.cell.specs.declared.Answer.{Answer}
use Rattle.cell.specs.declared.Answer.TheVariants.{Value, Stored}
use Rattle.machine.specs.Names.{acquire_read, borrows, release_read, acquire_write, release_write, drop_handle, into_inner, loads_rc, exchanges_rc, loads_exc, gives_back, borrows_cell, releases_rc, exchanges_exc, waits_rc, takes_cell, puts_cell, stores_exc, drops_handle, fails_rc, fails_exc}
use Rattle.machine.specs.Words.{bit, is, rec_at, plain}
use Rattle.machine.specs.Step.{Scripts, step, here, op_of, val_of, entry_refusal}
use Rattle.machine.specs.Sound.{Sound}
use Rattle.machine.specs.declared.Lock.{Lock}
use Rattle.machine.specs.declared.Rec.{Rec}
use Rattle.machine.specs.declared.Row.{Row}
use Rattle.machine.specs.declared.Place.TheVariants.{Idle, ReadTry, ReadCheck, ReadBack, Reading, WriteWait, WriteTake, Writing, WritePut}

-- ---- what is done to the lock, L before and M after
-- an access of the count: it answers so, and leaves the count; flag and cell stay
abbrev pub OnRc : (ℕ → Left ℕ (Reply ℕ)) → Reply ℕ → Lock → Lock → Type 0
OnRc access reply L M = ((access L.rc.0).answers ≡ reply) × (M.rc.0 ≡ (access L.rc.0).leaves) × (M.exc ≡ L.exc) × (M.cell ≡ L.cell)

-- an access of the flag; count and cell stay
abbrev pub OnExc : (Bool → Left Bool (Reply Bool)) → Reply Bool → Lock → Lock → Type 0
OnExc access reply L M = ((access L.exc).answers ≡ reply) × (M.exc ≡ (access L.exc).leaves) × (M.rc ≡ L.rc) × (M.cell ≡ L.cell)

-- an operation on the cell; flag and count stay
abbrev pub OnCell : ((Option ℕ) → Left (Option ℕ) Answer) → Answer → Lock → Lock → Type 0
OnCell access reply L M = ((access L.cell).answers ≡ reply) × (M.cell ≡ (access L.cell).leaves) × (M.exc ≡ L.exc) × (M.rc ≡ L.rc)

-- no access: flag, count and cell stay
abbrev pub OnNothing : Lock → Lock → Type 0
OnNothing L M = (M.exc ≡ L.exc) × (M.rc ≡ L.rc) × (M.cell ≡ L.cell)

-- the mover stays, and so does whether the lock is finished
abbrev pub SameMover : Lock → Lock → Type 0
SameMover L M = (M.mover ≡ L.mover) × (M.finished ≡ L.finished)

-- the dropped numbers stay
abbrev pub SameDrops : Lock → Lock → Type 0
SameDrops L M = (M.reads ≡ L.reads) × (M.writes ≡ L.writes)

-- all stays that no access is of
abbrev pub Rest : Lock → Lock → Type 0
Rest L M = SameMover L M × SameDrops L M

-- ---- the rows of the table
-- a row speaks of the thread i, the lock L, the thread's record r, its operation o and value v, all before; and of the lock M, the
-- thread's record s and the value got, after
abbrev pub TableRow : Type 1
TableRow = (i : ℕ) (L : Lock) (r : Rec) (o v : ℕ) (M : Lock) (s : Rec) (got : ℕ) → Type 0

-- a step of thread i from a sound state is as the table has it, if its row has that access code
abbrev pub AtCode : ℕ → TableRow → Type 0
AtCode code Does =
    (S : Scripts) (L : Lock) (l : List Rec) (i : ℕ) → Sound S L l → (step S L l i).row.access ≡ code
    → Does i L (here l i) (op_of S l i) (val_of S l i) (step S L l i).lock (here (step S L l i).recs i) (step S L l i).row.got

-- 1 or 0
abbrev pub IsBit : ℕ → Type 0
IsBit got = got ≡ bit (eqb got 1)

-- each: the place, the operation, the access, what is got if the access does not say it, the record after, and the rest of the lock
abbrev pub Does1 : TableRow
Does1 i L r o v M s got =
    (r.place ≡ Idle) × (o ≡ acquire_read)
    × OnRc load (old got) L M
    × (s ≡ cond (ltb got L.top.0) (rec_at r.at ReadTry got 0) (plain r.at Idle))
    × Rest L M

abbrev pub Code1 : Type 0
Code1 = AtCode loads_rc Does1

-- the exchange is done: the count found is the one seen
abbrev pub Does2 : TableRow
Does2 i L r o v M s got =
    (r.place ≡ ReadTry) × (o ≡ acquire_read)
    × OnRc (compare_exchange eqb r.seen.0 (r.seen.0 + 1)) (old got) L M × (got ≡ r.seen.0)
    × (s ≡ plain r.at ReadCheck)
    × Rest L M

abbrev pub Code2 : Type 0
Code2 = AtCode exchanges_rc Does2

abbrev pub Does3 : TableRow
Does3 i L r o v M s got =
    (r.place ≡ ReadCheck) × (o ≡ acquire_read)
    × OnExc load (old (eqb got 1)) L M × IsBit got
    × (s ≡ cond (eqb got 1) (plain r.at ReadBack) (plain (r.at + 1) Reading))
    × Rest L M

abbrev pub Code3 : Type 0
Code3 = AtCode loads_exc Does3

abbrev pub Does4 : TableRow
Does4 i L r o v M s got =
    (r.place ≡ ReadBack) × (o ≡ acquire_read)
    × OnRc (fetch_sub 1) (old got) L M
    × (s ≡ plain r.at Idle)
    × Rest L M

abbrev pub Code4 : Type 0
Code4 = AtCode gives_back Does4

abbrev pub Does5 : TableRow
Does5 i L r o v M s got =
    (r.place ≡ Reading) × (o ≡ borrows)
    × OnCell borrow (Value got) L M
    × (s ≡ plain (r.at + 1) Reading)
    × Rest L M

abbrev pub Code5 : Type 0
Code5 = AtCode borrows_cell Does5

abbrev pub Does6 : TableRow
Does6 i L r o v M s got =
    (r.place ≡ Reading) × (o ≡ release_read)
    × OnRc (fetch_sub 1) (old got) L M
    × (s ≡ plain (r.at + 1) Idle)
    × Rest L M

abbrev pub Code6 : Type 0
Code6 = AtCode releases_rc Does6

-- the exchange is done: the flag was found down. The first step of into_inner makes the thread the mover
abbrev pub Does7 : TableRow
Does7 i L r o v M s got =
    (r.place ≡ Idle) × ((o ≡ acquire_write) ⊎ (o ≡ into_inner))
    × OnExc (compare_exchange beq false true) (old (eqb got 1)) L M × (got ≡ 0)
    × (s ≡ plain r.at WriteWait)
    × (M.mover ≡ cond (eqb o into_inner) (Some i) L.mover) × (M.finished ≡ L.finished)
    × SameDrops L M

abbrev pub Code7 : Type 0
Code7 = AtCode exchanges_exc Does7

abbrev pub Does8 : TableRow
Does8 i L r o v M s got =
    (r.place ≡ WriteWait) × ((o ≡ acquire_write) ⊎ (o ≡ into_inner))
    × OnRc load (old got) L M
    × (s ≡ plain r.at (cond (eqb got 0) WriteTake WriteWait))
    × Rest L M

abbrev pub Code8 : Type 0
Code8 = AtCode waits_rc Does8

-- acquire_write keeps the value taken; into_inner finishes the lock, which has no mover then
abbrev pub Does9 : TableRow
Does9 i L r o v M s got =
    (r.place ≡ WriteTake) × ((o ≡ acquire_write) ⊎ (o ≡ into_inner))
    × OnCell take (Value got) L M
    × (s ≡ cond (eqb o acquire_write) (rec_at (r.at + 1) Writing 0 got) (plain (r.at + 1) Idle))
    × (M.mover ≡ cond (eqb o into_inner) None L.mover) × (M.finished ≡ cond (eqb o into_inner) true L.finished)
    × SameDrops L M

abbrev pub Code9 : Type 0
Code9 = AtCode takes_cell Does9

abbrev pub Does10 : TableRow
Does10 i L r o v M s got =
    (r.place ≡ Writing) × (o ≡ release_write)
    × OnCell (put v) Stored L M × (got ≡ v)
    × (s ≡ plain r.at WritePut)
    × Rest L M

abbrev pub Code10 : Type 0
Code10 = AtCode puts_cell Does10

abbrev pub Does11 : TableRow
Does11 i L r o v M s got =
    (r.place ≡ WritePut) × (o ≡ release_write)
    × OnExc (store false) nothing L M × (got ≡ 0)
    × (s ≡ plain (r.at + 1) Idle)
    × Rest L M

abbrev pub Code11 : Type 0
Code11 = AtCode stores_exc Does11

-- a dropped read or a dropped write more, by the place
abbrev pub Does12 : TableRow
Does12 i L r o v M s got =
    ((r.place ≡ Reading) ⊎ (r.place ≡ Writing)) × (o ≡ drop_handle)
    × OnNothing L M × (got ≡ 0)
    × (s ≡ plain (r.at + 1) Idle)
    × (M.reads.0 ≡ L.reads.0 + bit (is r.place Reading)) × (M.writes.0 ≡ L.writes.0 + bit (is r.place Writing))
    × SameMover L M

abbrev pub Code12 : Type 0
Code12 = AtCode drops_handle Does12

-- the exchange of the count failed: another than the one seen was found. The thread is Idle again, and the lock stays
abbrev pub Does13 : TableRow
Does13 i L r o v M s got =
    (r.place ≡ ReadTry) × (o ≡ acquire_read)
    × OnRc (compare_exchange eqb r.seen.0 (r.seen.0 + 1)) (failed got) L M × (got ≢ r.seen.0)
    × (s ≡ plain r.at Idle)
    × Rest L M

abbrev pub Code13 : Type 0
Code13 = AtCode fails_rc Does13

-- the exchange of the flag failed: it was found up. The first step of into_inner makes the thread the mover all the same
abbrev pub Does14 : TableRow
Does14 i L r o v M s got =
    (r.place ≡ Idle) × ((o ≡ acquire_write) ⊎ (o ≡ into_inner))
    × OnExc (compare_exchange beq false true) (failed (eqb got 1)) L M × (got ≡ 1)
    × (s ≡ plain r.at Idle)
    × (M.mover ≡ cond (eqb o into_inner) (Some i) L.mover) × (M.finished ≡ L.finished)
    × SameDrops L M

abbrev pub Code14 : Type 0
Code14 = AtCode fails_exc Does14

-- ---- what an exchange returned, as its row tells it
-- The source's compare_exchange returns Ok(found) or Err(found): `old` and `failed` in `atomic`. The code tells the arm, and got what was
-- found.
abbrev pub returned_rc : Row → Reply ℕ
returned_rc row = cond (eqb row.access exchanges_rc) (old row.got) (failed row.got)

abbrev pub returned_exc : Row → Reply Bool
returned_exc row = cond (eqb row.access exchanges_exc) (old (eqb row.got 1)) (failed (eqb row.got 1))

-- the row of an exchange of the count, and of the flag, that the record r makes on the lock L
abbrev pub TellsRc : Lock → Rec → Row → Type 0
TellsRc L r row =
    ((row.access ≡ exchanges_rc) ⊎ (row.access ≡ fails_rc))
    × (returned_rc row ≡ (compare_exchange eqb r.seen.0 (r.seen.0 + 1) L.rc.0).answers)

abbrev pub TellsExc : Lock → Row → Type 0
TellsExc L row = ((row.access ≡ exchanges_exc) ⊎ (row.access ≡ fails_exc)) × (returned_exc row ≡ (compare_exchange beq false true L.exc).answers)

-- an accepted entry where the source makes an exchange; o is the thread's operation
abbrev pub TellsExchange : Lock → Rec → ℕ → Row → Type 0
TellsExchange L r o row =
    (r.place ≡ ReadTry → TellsRc L r row) × (r.place ≡ Idle → (o ≡ acquire_write) ⊎ (o ≡ into_inner) → TellsExc L row)

-- From every state, sound or not. That only such an entry has one of these codes is said of sound states, by Code2, Code7, Code13 and
-- Code14.
abbrev pub ExchangeTold : Type 0
ExchangeTold =
    (S : Scripts) (L : Lock) (l : List Rec) (i : ℕ) → entry_refusal S L l i ≡ 0
    → TellsExchange L (here l i) (op_of S l i) (step S L l i).row

-- ---- what every row has
-- got is 1 or 0 for a load and an exchange of the flag
abbrev pub OneOrNought : Type 0
OneOrNought =
    (S : Scripts) (L : Lock) (l : List Rec) (i : ℕ)
    → let row = (step S L l i).row in
    (eqb row.access loads_exc || (eqb row.access exchanges_exc || eqb row.access fails_exc)) ≡ true → IsBit row.got

-- an accepted row has one of the fourteen codes
abbrev pub OneOfFourteen : Type 0
OneOfFourteen =
    (S : Scripts) (L : Lock) (l : List Rec) (i : ℕ) → entry_refusal S L l i ≡ 0
    → (1 ≤ (step S L l i).row.access) × ((step S L l i).row.access ≤ fails_exc)

-- what a borrow and a take got is permitted
abbrev pub GotPermitted : Type 0
GotPermitted =
    AtCode borrows_cell (λ i L r o v M s got. permits L.pred got ≡ true) × AtCode takes_cell (λ i L r o v M s got. permits L.pred got ≡ true)

-- an entry changes neither predicate nor top, nor the number of records, nor the record of another thread
abbrev pub OthersStay : Type 0
OthersStay =
    (S : Scripts) (L : Lock) (l : List Rec) (i : ℕ)
    → let left = step S L l i in
    (left.lock.pred ≡ L.pred)
    × (left.lock.top ≡ L.top)
    × (length left.recs ≡ length l)
    × ((j : ℕ) → j ≢ i → here left.recs j ≡ here l j)
