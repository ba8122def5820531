-- What the code of an accepted entry asks of the lock and of the thread's record, so that no sum leaves 64 bits and a put finds the
-- cell empty. proofs/Room.antt has it from soundness.
use Rattle.std.specs.Prelude.{◌+◌, ◌^◌, ◌<◌, ◌≤◌}
use Rattle.cell.specs.Value.{is_full}
use Rattle.machine.specs.Words.{bit, is_at}
use Rattle.machine.specs.declared.Lock.{Lock}
use Rattle.machine.specs.declared.Rec.{Rec}
use Rattle.machine.specs.declared.Place.TheVariants.{Reading, Writing}

pub record Room (L : Lock) (r : Rec) : Type 0 where
  pub at : r.at + 1 < 2 ^ 64
  pub seen : r.seen.0 + 1 < 2 ^ 64
  -- the dropped reads may be 2 ^ 64 - 1 already, but then no handle is held
  pub reads : L.reads.0 + is_at Reading r < 2 ^ 64
  pub writes : L.writes.0 + 1 < 2 ^ 64
  -- the cell is empty at Writing
  pub cell : bit (is_full L.cell) + is_at Writing r ≤ 1
