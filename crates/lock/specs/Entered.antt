-- What an entry leaves, for a thread that there is, by its own record alone: the lock, the record, how many records are not Idle, and
-- the row. proofs/Stepped.antt has that this is machine's step.
use Rattle.std.specs.Prelude.{ℕ, ◌+◌, ◌-◌}
use Rattle.machine.specs.Names.{no_access}
use Rattle.machine.specs.Step.{busy_of, row_of}
use Rattle.machine.specs.declared.Lock.{Lock}
use Rattle.machine.specs.declared.Rec.{Rec}
use Rattle.machine.specs.declared.Did.{Did}
use Rattle.std.specs.Prelude.{Err, Ok, Result}
use Rattle.lock.specs.Turn.{turn_of}
use Rattle.lock.specs.declared.entered.Entered.{Entered}

abbrev pub left_alone : Lock → Rec → ℕ → ℕ → ℕ → Entered
left_alone L r i busy k = record { lock = L; rec = r; busy = busy; row = row_of i L no_access k 0 }

-- `others` are the other records that are not Idle
abbrev pub changed : Did → ℕ → ℕ → Entered
changed d i others = record { lock = d.lock; rec = d.rec; busy = others + busy_of d.rec; row = row_of i d.lock d.access 0 d.got }

abbrev pub settled : Lock → Rec → ℕ → ℕ → Result Did ℕ → Entered
settled L r i busy (Err k) = left_alone L r i busy k
settled L r i busy (Ok d) = changed d i (busy - busy_of r)

-- thread i has the record r, a script of the length n, and there the operation o with the value v; so many records are not Idle
unfoldable pub entered_of : Lock → Rec → ℕ → ℕ → ℕ → ℕ → ℕ → Entered
entered_of L r i n busy o v = settled L r i busy (turn_of L r i n (busy - busy_of r) o v)
