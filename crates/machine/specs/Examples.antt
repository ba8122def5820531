-- The source's own examples of the lock: its two functions as scripts and a schedule, with every row, the state at the end and what
-- the source asserts.
use Rattle.std.specs.Prelude.{ℕ, ◌^◌, ◌-◌, ◌%◌, ◌≡◌, ◌⊎◌, List, [], ◌∷◌, length, get_or}
use Rattle.cell.specs.declared.pred.Pred.{Pred}
use Rattle.cell.specs.declared.pred.Pred.TheVariants.{Either, Parity}
use Rattle.machine.specs.Names.{acquire_read, borrows, release_read, acquire_write, release_write, loads_rc, exchanges_rc, loads_exc, borrows_cell, releases_rc, exchanges_exc, waits_rc, takes_cell, puts_cell, stores_exc, first_value}
use Rattle.machine.specs.Words.{plain, unused, with_rc}
use Rattle.machine.specs.Lists.{Lent, lists, scripts_of, beside}
use Rattle.machine.specs.Setup.{fresh, setup}
use Rattle.machine.specs.Run.{Ran, run}
use Rattle.machine.specs.declared.Row.{Row}
use Rattle.std.specs.Prelude.{Err, Ok, Result}
use Rattle.machine.specs.declared.Refusal.{Refusal}
use Rattle.machine.specs.declared.Lock.{Lock}
use Rattle.machine.specs.declared.Place.TheVariants.{Idle, Reading}

-- the source's count is a usize
abbrev most : ℕ
most = 2 ^ 64 - 1

-- an accepted row
abbrev row : ℕ → ℕ → ℕ → ℕ → ℕ → Row
row thread access got exc rc = record { thread = thread; access = access; answer = 0; got = got; exc = exc; rc = rc }

-- what the row k got
abbrev got : Ran → ℕ → ℕ
got w k = (get_or w.rows k (row 0 0 0 0 0)).got

-- new, with the first value v and the predicate q; and the lock that it makes, run
abbrev new : Lent → Pred → ℕ → Result Lock Refusal
new s q v = setup q most v s (length s.lens)

abbrev ran : Lent → Pred → ℕ → List ℕ → Ran
ran s q v schedule = run (scripts_of s) (unused q most v) (fresh (length s.lens)) schedule

-- ---- example1: 5 or 13
-- The source has one thread with two read handles at the same time. A record has one handle, so the second one is thread 1's; the
-- entries are in the order of the source's lines.
abbrev script1 : Lent
script1 =
    lists (5 ∷ 3 ∷ [])
    (acquire_write ∷ release_write ∷ acquire_read ∷ borrows ∷ release_read ∷ acquire_read ∷ borrows ∷ release_read ∷ [])
    (0 ∷ 13 ∷ 0 ∷ 0 ∷ 0 ∷ 0 ∷ 0 ∷ 0 ∷ [])

abbrev schedule1 : List ℕ
schedule1 = 0 ∷ 0 ∷ 0 ∷ 0 ∷ 0 ∷ 0 ∷ 0 ∷ 0 ∷ 1 ∷ 1 ∷ 1 ∷ 0 ∷ 1 ∷ 0 ∷ 1 ∷ []

abbrev rows1 : List Row
rows1 =
    row 0 exchanges_exc 0 1 0
    ∷ row 0 waits_rc 0 1 0
    ∷ row 0 takes_cell 5 1 0
    ∷ row 0 puts_cell 13 1 0
    ∷ row 0 stores_exc 0 0 0
    ∷ row 0 loads_rc 0 0 0
    ∷ row 0 exchanges_rc 0 0 1
    ∷ row 0 loads_exc 0 0 1
    ∷ row 1 loads_rc 1 0 1
    ∷ row 1 exchanges_rc 1 0 2
    ∷ row 1 loads_exc 0 0 2
    ∷ row 0 borrows_cell 13 0 2
    ∷ row 1 borrows_cell 13 0 2
    ∷ row 0 releases_rc 2 0 1
    ∷ row 1 releases_rc 1 0 0
    ∷ []

abbrev pub Example1 : Type 0
Example1 =
    let w = ran script1 (Either 5 13) 5 schedule1 in
    (new script1 (Either 5 13) 5 ≡ Ok (unused (Either 5 13) most 5))
    × (w.rows ≡ rows1)
    -- val is 5 or 13, and *val1 is *val2
    × ((got w 2 ≡ 5) ⊎ (got w 2 ≡ 13))
    × (got w 11 ≡ got w 12)
    -- at the end nothing is held, and the lock is as one made with 13
    × (w.lock ≡ unused (Either 5 13) most 13)
    × (w.recs ≡ plain 5 Idle ∷ plain 3 Idle ∷ [])
    -- only 5 or 13 can be stored
    × (new script1 (Either 5 13) 7 ≡ Err (beside script1 first_value))

-- ---- example2: a lock for even numbers and one for odd ones
-- neither handle is released
abbrev script2 : Lent
script2 = lists (2 ∷ []) (acquire_read ∷ borrows ∷ []) (0 ∷ 0 ∷ [])

abbrev schedule2 : List ℕ
schedule2 = 0 ∷ 0 ∷ 0 ∷ 0 ∷ []

-- the lock that holds v, read
abbrev rows2 : ℕ → List Row
rows2 v = row 0 loads_rc 0 0 0 ∷ row 0 exchanges_rc 0 0 1 ∷ row 0 loads_exc 0 0 1 ∷ row 0 borrows_cell v 0 1 ∷ []

-- a lock for the numbers with the rest k by 2, made with v, and not made with u
abbrev ParityLock : ℕ → ℕ → ℕ → Type 0
ParityLock k v u =
    let w = ran script2 (Parity k) v schedule2 in
    (new script2 (Parity k) v ≡ Ok (unused (Parity k) most v))
    × (w.rows ≡ rows2 v)
    × (got w 3 % 2 ≡ k)
    -- at the end the handle is still held
    × (w.lock ≡ with_rc (unused (Parity k) most v) 1)
    × (w.recs ≡ plain 2 Reading ∷ [])
    × (new script2 (Parity k) u ≡ Err (beside script2 first_value))

abbrev pub Example2 : Type 0
Example2 = ParityLock 0 20 23 × ParityLock 1 23 20

abbrev pub SourceExamples : Type 0
SourceExamples = Example1 × Example2
