-- One entry of a schedule: the table of places and accesses, which operation fits which place, the refusals 11 to 16, and what
-- the entry leaves.
use Rattle.std.specs.Prelude.{ℕ, suc, ◌+◌, ◌-◌, Bool, true, false, ◌||◌, ◌&&◌, not, cond, List, [], ◌∷◌, eqb, ltb, leb, length, get_or, set}
use Rattle.std.specs.Prelude.{Err, None, Ok, Result, Some}
use Rattle.cell.specs.Value.{kept}
use Rattle.cell.specs.Pred.{permits}
use Rattle.machine.specs.Names.{acquire_read, borrows, release_read, acquire_write, release_write, drop_handle, into_inner, no_access, loads_rc, exchanges_rc, loads_exc, gives_back, borrows_cell, releases_rc, exchanges_exc, waits_rc, takes_cell, puts_cell, stores_exc, drops_handle, fails_rc, fails_exc, no_thread, script_finished, lock_gone, does_not_fit, others_busy, not_permitted}
use Rattle.machine.specs.Words.{bit, is, may_go, begun, rec_at, goes, next, unbegun, with_exc, with_rc, with_cell, with_mover, with_reads, with_writes, with_end}
use Rattle.machine.specs.Refusals.{Check, gives, lowest}
use Rattle.machine.specs.declared.Lock.{Lock}
use Rattle.machine.specs.declared.Rec.{Rec}
use Rattle.machine.specs.declared.Row.{Row}
use Rattle.machine.specs.declared.Did.{Did}
use Rattle.machine.specs.declared.Place.{Place}
use Rattle.machine.specs.declared.Place.TheVariants.{Idle, ReadTry, ReadCheck, ReadBack, Reading, WriteWait, WriteTake, Writing, WritePut}

-- the scripts, as they are read: how long thread i's is, and its operation and value at a script place
pub record Scripts : Type 0 where
  pub len : ℕ → ℕ
  pub op : ℕ → ℕ → ℕ
  pub val : ℕ → ℕ → ℕ

-- ---- what each access leaves, each outcome and each test named once. L is the lock before, r the thread's record before
abbrev pub does : Lock → Rec → ℕ → ℕ → Did
does M s access got = record { lock = M; rec = s; access = access; got = got }

abbrev pub below : Lock → Bool
below L = ltb L.rc.0 L.top.0

-- the record keeps the value seen
abbrev pub load_below : Lock → Rec → Did
load_below L r = does L (rec_at r.at ReadTry L.rc.0 0) loads_rc L.rc.0

abbrev pub load_full : Lock → Rec → Did
load_full L r = does L (goes r Idle) loads_rc L.rc.0

abbrev pub unmoved : Lock → Rec → Bool
unmoved L r = eqb L.rc.0 r.seen.0

-- an exchange gets the value found, done or lost
abbrev pub try_done : Lock → Rec → Did
try_done L r = does (with_rc L (r.seen.0 + 1)) (goes r ReadCheck) exchanges_rc L.rc.0

abbrev pub try_lost : Lock → Rec → Did
try_lost L r = does L (goes r Idle) fails_rc L.rc.0

abbrev pub check_clear : Lock → Rec → Did
check_clear L r = does L (next r Reading) loads_exc 0

abbrev pub check_set : Lock → Rec → Did
check_set L r = does L (goes r ReadBack) loads_exc 1

abbrev pub back_done : Lock → Rec → Did
back_done L r = does (with_rc L (L.rc.0 - 1)) (goes r Idle) gives_back L.rc.0

abbrev pub lent : Lock → Rec → Did
lent L r = does L (next r Reading) borrows_cell (kept L.cell)

abbrev pub released : Lock → Rec → Did
released L r = does (with_rc L (L.rc.0 - 1)) (next r Idle) releases_rc L.rc.0

abbrev pub exc_done : Lock → Rec → Did
exc_done L r = does (with_exc L true) (goes r WriteWait) exchanges_exc 0

abbrev pub exc_lost : Lock → Rec → Did
exc_lost L r = does L (goes r Idle) fails_exc 1

-- the first step of into_inner, done or lost, makes its thread the mover
abbrev pub claimed : Lock → ℕ → Lock
claimed L i = with_mover L (Some i)

abbrev pub unread : Lock → Bool
unread L = eqb L.rc.0 0

abbrev pub wait_done : Lock → Rec → Did
wait_done L r = does L (goes r WriteTake) waits_rc L.rc.0

abbrev pub wait_more : Lock → Rec → Did
wait_more L r = does L (goes r WriteWait) waits_rc L.rc.0

-- the record keeps the value taken
abbrev pub taken : Lock → Rec → Did
taken L r = does (with_cell L None) (rec_at (r.at + 1) Writing 0 (kept L.cell)) takes_cell (kept L.cell)

abbrev pub taken_last : Lock → Rec → Did
taken_last L r = does (with_end L) (next r Idle) takes_cell (kept L.cell)

abbrev pub put_done : Lock → Rec → ℕ → Did
put_done L r v = does (with_cell L (Some v)) (goes r WritePut) puts_cell v

abbrev pub stored : Lock → Rec → Did
stored L r = does (with_exc L false) (next r Idle) stores_exc 0

abbrev pub read_dropped : Lock → Rec → Did
read_dropped L r = does (with_reads L (L.reads.0 + 1)) (next r Idle) drops_handle 0

abbrev pub write_dropped : Lock → Rec → Did
write_dropped L r = does (with_writes L (L.writes.0 + 1)) (next r Idle) drops_handle 0

-- ---- the accesses that look before they leave
abbrev pub load_rc : Lock → Rec → Did
load_rc L r = cond (below L) (load_below L r) (load_full L r)

abbrev pub try_rc : Lock → Rec → Did
try_rc L r = cond (unmoved L r) (try_done L r) (try_lost L r)

abbrev pub load_exc : Lock → Rec → Did
load_exc L r = cond L.exc (check_set L r) (check_clear L r)

abbrev pub try_exc : Lock → Rec → Did
try_exc L r = cond L.exc (exc_lost L r) (exc_done L r)

abbrev pub wait_rc : Lock → Rec → Did
wait_rc L r = cond (unread L) (wait_done L r) (wait_more L r)

-- The table, a row a place and an operation that fits it; the last operation of a place is not asked for. Thread i has the
-- record r, which is at the place given, the operation o and its value v.
unfoldable pub act : ℕ → Lock → Rec → Place → ℕ → ℕ → Did
act i L r Idle o v =
    cond (eqb o acquire_read) (load_rc L r)
    (cond (eqb o acquire_write) (try_exc L r)
    (try_exc (claimed L i) r))
act i L r ReadTry o v = try_rc L r
act i L r ReadCheck o v = load_exc L r
act i L r ReadBack o v = back_done L r
act i L r Reading o v =
    cond (eqb o borrows) (lent L r)
    (cond (eqb o release_read) (released L r)
    (read_dropped L r))
act i L r WriteWait o v = wait_rc L r
act i L r WriteTake o v =
    cond (eqb o acquire_write) (taken L r)
    (taken_last L r)
act i L r Writing o v =
    cond (eqb o release_write) (put_done L r v)
    (write_dropped L r)
act i L r WritePut o v = stored L r

-- whether an operation fits a place
unfoldable pub fits : Place → ℕ → Bool
fits Idle o = eqb o acquire_read || (eqb o acquire_write || eqb o into_inner)
fits ReadTry o = eqb o acquire_read
fits ReadCheck o = eqb o acquire_read
fits ReadBack o = eqb o acquire_read
fits Reading o = eqb o borrows || (eqb o release_read || eqb o drop_handle)
fits WriteWait o = eqb o acquire_write || eqb o into_inner
fits WriteTake o = eqb o acquire_write || eqb o into_inner
fits Writing o = eqb o release_write || eqb o drop_handle
fits WritePut o = eqb o release_write

-- ---- the records
-- a sum over the records of a number for each, thread and record; k is the first thread
unfoldable pub sum : (ℕ → Rec → ℕ) → ℕ → List Rec → ℕ
sum f k [] = 0
sum f k (r ∷ l) = f k r + sum f (suc k) l

-- 1 for a record that is not Idle
abbrev pub busy_of : Rec → ℕ
busy_of r = 1 - bit (is r.place Idle)

abbrev pub busy : List Rec → ℕ
busy l = sum (λ k r. busy_of r) 0 l

-- how many records other than i's are not Idle
abbrev pub others : List Rec → ℕ → ℕ
others l i = busy (set l i unbegun)

abbrev pub here : List Rec → ℕ → Rec
here l i = get_or l i unbegun

-- thread i's operation, and its value
abbrev pub op_of : Scripts → List Rec → ℕ → ℕ
op_of S l i = S.op i (here l i).at

abbrev pub val_of : Scripts → List Rec → ℕ → ℕ
val_of S l i = S.val i (here l i).at

-- ---- an entry for thread i
abbrev pub entry_checks : Scripts → Lock → List Rec → ℕ → List Check
entry_checks S L l i =
    gives no_thread (leb (length l) i)
    ∷ gives script_finished (leb (S.len i) (here l i).at)
    ∷ gives lock_gone (L.finished || not (may_go L.mover i))
    ∷ gives does_not_fit (not (fits (here l i).place (op_of S l i)))
    ∷ gives others_busy (eqb (op_of S l i) into_inner && (not (begun L.mover i) && ltb 0 (others l i)))
    ∷ gives not_permitted (is (here l i).place Writing && (eqb (op_of S l i) release_write && not (permits L.pred (val_of S l i))))
    ∷ []

unfoldable pub entry_refusal : Scripts → Lock → List Rec → ℕ → ℕ
entry_refusal S L l i = lowest (entry_checks S L l i)

unfoldable pub answer : Scripts → Lock → List Rec → ℕ → Result Did ℕ
answer S L l i =
    cond (eqb (entry_refusal S L l i) 0)
    (Ok (act i L (here l i) (here l i).place (op_of S l i) (val_of S l i)))
    (Err (entry_refusal S L l i))

-- what an entry leaves: the lock, the records and one row
pub record Left : Type 0 where
  pub lock : Lock
  pub recs : List Rec
  pub row : Row

abbrev pub row_of : ℕ → Lock → ℕ → ℕ → ℕ → Row
row_of i L access answer got = record { thread = i; access = access; answer = answer; got = got; exc = bit L.exc; rc = L.rc.0 }

abbrev pub settle : Lock → List Rec → ℕ → Result Did ℕ → Left
settle L l i (Err k) = record { lock = L; recs = l; row = row_of i L no_access k 0 }
settle L l i (Ok d) = record { lock = d.lock; recs = set l i d.rec; row = row_of i d.lock d.access 0 d.got }

unfoldable pub step : Scripts → Lock → List Rec → ℕ → Left
step S L l i = settle L l i (answer S L l i)
