-- The small words of the definitions: true and false as numbers, places by number, whose the mover is, and a lock or a record with
-- one thing changed. A lock or a record is made here and nowhere else.
use Rattle.std.specs.Prelude.{ℕ, ◌+◌, Bool, true, false, eqb}
use Rattle.atomic.specs.declared.Count.{Count}
use Rattle.std.specs.Prelude.{None, Option, Some}
use Rattle.cell.specs.declared.pred.Pred.{Pred}
use Rattle.machine.specs.declared.Lock.{Lock}
use Rattle.machine.specs.declared.Rec.{Rec}
use Rattle.machine.specs.declared.Place.{Place}
use Rattle.machine.specs.declared.Place.TheVariants.{Idle, ReadTry, ReadCheck, ReadBack, Reading, WriteWait, WriteTake, Writing, WritePut}

-- 1 for true, 0 for false
abbrev pub bit : Bool → ℕ
bit true = 1
bit false = 0

abbrev pub count : ℕ → Count
count n = record { 0 = n }

abbrev pub place_no : Place → ℕ
place_no Idle = 0
place_no ReadTry = 1
place_no ReadCheck = 2
place_no ReadBack = 3
place_no Reading = 4
place_no WriteWait = 5
place_no WriteTake = 6
place_no Writing = 7
place_no WritePut = 8

-- the two places are one
abbrev pub is : Place → Place → Bool
is p q = eqb (place_no p) (place_no q)

-- 1 for a record at the place p
abbrev pub is_at : Place → Rec → ℕ
is_at p r = bit (is r.place p)

-- 1 if there is a mover
abbrev pub moving : Option ℕ → ℕ
moving None = 0
moving (Some t) = 1

-- the mover is no other thread than i
abbrev pub may_go : Option ℕ → ℕ → Bool
may_go None i = true
may_go (Some t) i = eqb t i

-- thread i has begun into_inner
abbrev pub begun : Option ℕ → ℕ → Bool
begun None i = false
begun (Some t) i = eqb t i

-- ---- records
abbrev pub rec_at : ℕ → Place → ℕ → ℕ → Rec
rec_at at p seen taken = record { at = at; place = p; seen = count seen; taken = taken }

-- nothing seen, nothing taken
abbrev pub plain : ℕ → Place → Rec
plain at p = rec_at at p 0 0

-- to the place p, in the same operation; what was seen or taken is gone
abbrev pub goes : Rec → Place → Rec
goes r p = plain r.at p

-- to the place p, and the script place moves on by one
abbrev pub next : Rec → Place → Rec
next r p = plain (r.at + 1) p

-- the record after setup
abbrev pub unbegun : Rec
unbegun = plain 0 Idle

-- ---- the lock with one thing changed
abbrev pub with_exc : Lock → Bool → Lock
with_exc L b =
    record { exc = b; rc = L.rc; cell = L.cell; pred = L.pred; top = L.top; reads = L.reads; writes = L.writes; mover = L.mover; finished = L.finished }

abbrev pub with_rc : Lock → ℕ → Lock
with_rc L n =
    record { exc = L.exc; rc = count n; cell = L.cell; pred = L.pred; top = L.top; reads = L.reads; writes = L.writes; mover = L.mover; finished = L.finished }

abbrev pub with_cell : Lock → Option ℕ → Lock
with_cell L c =
    record { exc = L.exc; rc = L.rc; cell = c; pred = L.pred; top = L.top; reads = L.reads; writes = L.writes; mover = L.mover; finished = L.finished }

abbrev pub with_mover : Lock → Option ℕ → Lock
with_mover L m =
    record { exc = L.exc; rc = L.rc; cell = L.cell; pred = L.pred; top = L.top; reads = L.reads; writes = L.writes; mover = m; finished = L.finished }

abbrev pub with_reads : Lock → ℕ → Lock
with_reads L n =
    record { exc = L.exc; rc = L.rc; cell = L.cell; pred = L.pred; top = L.top; reads = count n; writes = L.writes; mover = L.mover; finished = L.finished }

abbrev pub with_writes : Lock → ℕ → Lock
with_writes L n =
    record { exc = L.exc; rc = L.rc; cell = L.cell; pred = L.pred; top = L.top; reads = L.reads; writes = count n; mover = L.mover; finished = L.finished }

-- finished: the cell is empty and there is no mover
abbrev pub with_end : Lock → Lock
with_end L =
    record { exc = L.exc; rc = L.rc; cell = None; pred = L.pred; top = L.top; reads = L.reads; writes = L.writes; mover = None; finished = true }

-- the lock after setup, with the predicate q, the top m and the first value v
abbrev pub unused : Pred → ℕ → ℕ → Lock
unused q m v =
    record { exc = false; rc = count 0; cell = Some v; pred = q; top = count m; reads = count 0; writes = count 0; mover = None; finished = false }
