-- The table as a relation: one constructor for each way in which an entry is accepted. The outcomes and tests are those of
-- specs/Step.antt. Every theorem on a step goes by these cases.
use Rattle.std.specs.Prelude.{ℕ, ◌≡◌, ◌⊎◌, true, false}
use Rattle.machine.specs.Names.{acquire_read, borrows, release_read, acquire_write, release_write, drop_handle, into_inner}
use Rattle.machine.specs.Step.{act, fits, below, unmoved, unread, load_below, load_full, try_done, try_lost, check_clear, check_set, back_done, lent, released, exc_done, exc_lost, claimed, wait_done, wait_more, taken, taken_last, put_done, stored, read_dropped, write_dropped}
use Rattle.machine.specs.declared.Lock.{Lock}
use Rattle.machine.specs.declared.Rec.{Rec}
use Rattle.machine.specs.declared.Did.{Did}
use Rattle.machine.specs.declared.Place.{Place}
use Rattle.machine.specs.declared.Place.TheVariants.{Idle, ReadTry, ReadCheck, ReadBack, Reading, WriteWait, WriteTake, Writing, WritePut}

-- thread i with the record r, the operation o and its value v, under the lock L: from a place, what is done
pub data Move (i : ℕ) (L : Lock) (r : Rec) (o v : ℕ) : Place → Did → Type 0 where
  by_load_below : o ≡ acquire_read → below L ≡ true → Move i L r o v Idle (load_below L r)
  by_load_full : o ≡ acquire_read → below L ≡ false → Move i L r o v Idle (load_full L r)
  by_try_done : o ≡ acquire_read → unmoved L r ≡ true → Move i L r o v ReadTry (try_done L r)
  by_try_lost : o ≡ acquire_read → unmoved L r ≡ false → Move i L r o v ReadTry (try_lost L r)
  by_check_clear : o ≡ acquire_read → L.exc ≡ false → Move i L r o v ReadCheck (check_clear L r)
  by_check_set : o ≡ acquire_read → L.exc ≡ true → Move i L r o v ReadCheck (check_set L r)
  back : o ≡ acquire_read → Move i L r o v ReadBack (back_done L r)
  lend : o ≡ borrows → Move i L r o v Reading (lent L r)
  release : o ≡ release_read → Move i L r o v Reading (released L r)
  by_exc_done : o ≡ acquire_write → L.exc ≡ false → Move i L r o v Idle (exc_done L r)
  by_exc_lost : o ≡ acquire_write → L.exc ≡ true → Move i L r o v Idle (exc_lost L r)
  into_done : o ≡ into_inner → L.exc ≡ false → Move i L r o v Idle (exc_done (claimed L i) r)
  into_lost : o ≡ into_inner → L.exc ≡ true → Move i L r o v Idle (exc_lost (claimed L i) r)
  by_wait_done : (o ≡ acquire_write) ⊎ (o ≡ into_inner) → unread L ≡ true → Move i L r o v WriteWait (wait_done L r)
  by_wait_more : (o ≡ acquire_write) ⊎ (o ≡ into_inner) → unread L ≡ false → Move i L r o v WriteWait (wait_more L r)
  take : o ≡ acquire_write → Move i L r o v WriteTake (taken L r)
  take_last : o ≡ into_inner → Move i L r o v WriteTake (taken_last L r)
  put : o ≡ release_write → Move i L r o v Writing (put_done L r v)
  store : o ≡ release_write → Move i L r o v WritePut (stored L r)
  drop_read : o ≡ drop_handle → Move i L r o v Reading (read_dropped L r)
  drop_write : o ≡ drop_handle → Move i L r o v Writing (write_dropped L r)

-- where the operation fits, what the table does is a way; and a way is what the table does, with an operation that fits
abbrev pub Ways : Type 0
Ways =
    (i : ℕ) (L : Lock) (r : Rec) (o v : ℕ) (p : Place)
    → (fits p o ≡ true → Move i L r o v p (act i L r p o v))
    × ((d : Did) → Move i L r o v p d → (fits p o ≡ true) × (d ≡ act i L r p o v))
