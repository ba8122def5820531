-- A sound state leaves the code of an entry its room: no sum of it leaves 64 bits, and the cell is empty at Writing. And what the
-- code at one place makes of that room.
use Prim.Native.Nat.{ℕ, ◌+◌, ◌^◌, ◌<◌, ◌≤◌}
use mathlib.Core.Path.{◌≡◌, refl, ap}
use mathlib.Core.List.{List}
use native.Mathlib.Omega.{arith}
use lib.ListN.{length}
use Rattle.cell.specs.Value.{is_full}
use Rattle.cell.specs.declared.pred.Pred.{Pred}
use Rattle.std.specs.Prelude.{None, Option, Some}
use Rattle.machine.specs.Words.{bit, is, is_at, unbegun}
use Rattle.machine.specs.Step.{Scripts, here}
use Rattle.machine.specs.Sound.{Kept, Sound}
use Rattle.machine.specs.declared.Lock.{Lock}
use Rattle.machine.specs.declared.Rec.{Rec}
use Rattle.machine.specs.declared.Place.{Place}
use Rattle.machine.specs.declared.Place.TheVariants.{Idle, ReadTry, ReadCheck, ReadBack, Reading, WriteWait, WriteTake, Writing, WritePut}
use Rattle.machine.proofs.Sums.{sum_part}
use Rattle.machine.proofs.Keep.{bit_le}
use Rattle.lock.specs.Room.{Room}

-- what is seen is below the top
kept_seen : (q : Pred) (top n o : ℕ) (r : Rec) (p : Place) → 1 ≤ top → Kept q top n o r p → r.seen.0 < top
kept_seen q top n o r Idle h k = omega arith
kept_seen q top n o r ReadTry h k = omega arith
kept_seen q top n o r ReadCheck h k = omega arith
kept_seen q top n o r ReadBack h k = omega arith
kept_seen q top n o r Reading h k = omega arith
kept_seen q top n o r WriteWait h k = omega arith
kept_seen q top n o r WriteTake h k = omega arith
kept_seen q top n o r Writing h k = omega arith
kept_seen q top n o r WritePut h k = omega arith

pub room : (S : Scripts) (L : Lock) (l : List Rec) (i : ℕ) → Sound S L l → i < length l → (here l i).at < S.len i → S.len i ≤ 64 → L.top.0 < 2 ^ 64
    → Room L (here l i)
room S L l i h lt more short wide =
    record {
      at = omega arith;
      seen = omega (arith, kept_seen L.pred L.top.0 (S.len i) (S.op i (here l i).at) (here l i) (here l i).place h.top (h.kept i lt));
      reads = omega (arith, h.counts.most, h.counts.count, sum_part (λ k r. is_at Reading r) l i unbegun lt);
      writes = omega (arith, h.counts.flag, bit_le L.exc);
      cell = omega (arith, h.counts.cell, sum_part (λ k r. is_at Writing r) l i unbegun lt);
    }

-- ---- at a place
empty_of : (c : Option ℕ) → bit (is_full c) ≤ 0 → c ≡ None
empty_of None h = refl
empty_of (Some v) h = absurd (omega arith)

module _ (L : Lock) (r : Rec) (w : Room L r) where
  pub room_reads : r.place ≡ Reading → L.reads.0 + 1 < 2 ^ 64
  room_reads e = omega (arith, w.reads, ap (λ (p : Place). bit (is p Reading)) e)

  pub room_cell : r.place ≡ Writing → L.cell ≡ None
  room_cell e = empty_of L.cell (omega (arith, w.cell, ap (λ (p : Place). bit (is p Writing)) e))
