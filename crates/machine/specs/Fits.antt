-- Which operation fits which place: a constructor for each place and operation that has a row in the table of accesses.
use Rattle.std.specs.Prelude.{ℕ, ◌≡◌, ◌↔◌, true}
use Rattle.machine.specs.Names.{acquire_read, borrows, release_read, acquire_write, release_write, drop_handle, into_inner}
use Rattle.machine.specs.Step.{fits}
use Rattle.machine.specs.declared.Place.{Place}
use Rattle.machine.specs.declared.Place.TheVariants.{Idle, ReadTry, ReadCheck, ReadBack, Reading, WriteWait, WriteTake, Writing, WritePut}

pub data Fits : Place → ℕ → Type 0 where
  reads_begin : Fits Idle acquire_read
  reads_try : Fits ReadTry acquire_read
  reads_check : Fits ReadCheck acquire_read
  reads_back : Fits ReadBack acquire_read
  reader_borrows : Fits Reading borrows
  reader_releases : Fits Reading release_read
  reader_drops : Fits Reading drop_handle
  writes_begin : Fits Idle acquire_write
  writes_wait : Fits WriteWait acquire_write
  writes_take : Fits WriteTake acquire_write
  into_begins : Fits Idle into_inner
  into_waits : Fits WriteWait into_inner
  into_takes : Fits WriteTake into_inner
  writer_puts : Fits Writing release_write
  writer_stores : Fits WritePut release_write
  writer_drops : Fits Writing drop_handle

-- the test says so exactly
abbrev pub FitsTable : Type 0
FitsTable = (p : Place) (o : ℕ) → (fits p o ≡ true) ↔ Fits p o
