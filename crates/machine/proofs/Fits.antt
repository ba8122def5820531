-- The test of fitting says what the table of places and operations has.
use Prim.Native.Nat.{ℕ}
use mathlib.Core.Path.{◌≡◌, refl, sym, subst}
use mathlib.Core.Bool.{Bool, true, ◌||◌}
use lib.Dec.{eqb}
use package.borrow.Author.Tests.{eqb-true}
use Rattle.machine.specs.Names.{acquire_read, borrows, release_read, acquire_write, release_write, drop_handle, into_inner}
use Rattle.machine.specs.Step.{fits}
use Rattle.machine.specs.Fits.{Fits, reads_begin, reads_try, reads_check, reads_back, reader_borrows, reader_releases, reader_drops, writes_begin, writes_wait, writes_take, into_begins, into_waits, into_takes, writer_puts, writer_stores, writer_drops, FitsTable}
use Rattle.machine.specs.declared.Place.{Place}
use Rattle.machine.specs.declared.Place.TheVariants.{Idle, ReadTry, ReadCheck, ReadBack, Reading, WriteWait, WriteTake, Writing, WritePut}
use Rattle.machine.proofs.Refusals.{either}

-- the operation is k, which fits
last : {p : Place} {o : ℕ} (k : ℕ) → Fits p k → eqb o k ≡ true → Fits p o
last {p} {o} k f e = subst (λ (o : ℕ). Fits p o) (sym (eqb-true o k e)) f

-- or another
or : {p : Place} {o : ℕ} {t : Bool} (k : ℕ) → Fits p k → (t ≡ true → Fits p o) → (eqb o k || t) ≡ true → Fits p o
or {p} {o} {t} k f more e = either (eqb o k) t (last k f) more e

has_row : (p : Place) (o : ℕ) → fits p o ≡ true → Fits p o
unfolding fits
has_row Idle o e = or acquire_read reads_begin (or acquire_write writes_begin (last into_inner into_begins)) e
has_row ReadTry o e = last acquire_read reads_try e
has_row ReadCheck o e = last acquire_read reads_check e
has_row ReadBack o e = last acquire_read reads_back e
has_row Reading o e = or borrows reader_borrows (or release_read reader_releases (last drop_handle reader_drops)) e
has_row WriteWait o e = or acquire_write writes_wait (last into_inner into_waits) e
has_row WriteTake o e = or acquire_write writes_take (last into_inner into_takes) e
has_row Writing o e = or release_write writer_puts (last drop_handle writer_drops) e
has_row WritePut o e = last release_write writer_stores e

row_fits : (p : Place) (o : ℕ) → Fits p o → fits p o ≡ true
unfolding fits
row_fits p o reads_begin = refl
row_fits p o reads_try = refl
row_fits p o reads_check = refl
row_fits p o reads_back = refl
row_fits p o reader_borrows = refl
row_fits p o reader_releases = refl
row_fits p o reader_drops = refl
row_fits p o writes_begin = refl
row_fits p o writes_wait = refl
row_fits p o writes_take = refl
row_fits p o into_begins = refl
row_fits p o into_waits = refl
row_fits p o into_takes = refl
row_fits p o writer_puts = refl
row_fits p o writer_stores = refl
row_fits p o writer_drops = refl

pub fits_table : FitsTable
fits_table p o = (has_row p o, row_fits p o)
