-- Every way of the table keeps the counts, the own record's clauses and the mover's, on numbers alone: one line a way. R counts
-- the other records, so that no list is in it.
use Prim.Native.Nat.{ℕ, ◌+◌, ◌<◌, ◌≤◌, min}
use mathlib.Core.Path.{◌≡◌, refl, ap}
use mathlib.Core.Bool.{Bool, true, false}
use native.Mathlib.Omega.{arith}
use package.borrow.Author.Tests.{eqb-true, ltb-true}
use Rattle.cell.specs.Value.{kept, is_full}
use Rattle.cell.specs.Pred.{permits}
use Rattle.machine.specs.Names.{release_write, into_inner}
use Rattle.machine.specs.Words.{bit, is_at, moving}
use Rattle.machine.specs.Step.{busy_of}
use Rattle.machine.specs.Sound.{is_into, inside_of, Tally, Counts, KeptRec}
use Rattle.machine.specs.Move.{Move, by_load_below, by_load_full, by_try_done, by_try_lost, by_check_clear, by_check_set, back, lend, release, by_exc_done, by_exc_lost, into_done, into_lost, by_wait_done, by_wait_more, take, take_last, put, store, drop_read, drop_write}
use Rattle.machine.specs.declared.Did.{Did}
use Rattle.machine.specs.declared.Lock.{Lock}
use Rattle.machine.specs.declared.Rec.{Rec}
use Rattle.std.specs.Prelude.{None, Option, Some}
use Rattle.machine.specs.declared.Place.{Place}
use Rattle.machine.specs.declared.Place.TheVariants.{ReadCheck, ReadBack, Reading, WriteWait, WriteTake, Writing, WritePut}

pub bit_le : (b : Bool) → bit b ≤ 1
bit_le true = omega arith
bit_le false = omega arith

pub moving_le : (m : Option ℕ) → moving m ≤ 1
moving_le None = omega arith
moving_le (Some t) = omega arith

pub bit_true : (b : Bool) → b ≡ true → bit b ≡ 1
bit_true b e = ap bit e

pub bit_false : (b : Bool) → b ≡ false → bit b ≡ 0
bit_false b e = ap bit e

ruleset tests = (arith, bit_true, bit_false)

-- the record, at the place p
abbrev pub moved : Rec → Place → Rec
moved r p = record { at = r.at; place = p; seen = r.seen; taken = r.taken }

-- what one record, with the script ops, adds to each count
abbrev pub weighed : (ℕ → ℕ) → Rec → Tally → Tally
weighed ops r N =
    record {
      check = is_at ReadCheck r + N.check;
      back = is_at ReadBack r + N.back;
      reading = is_at Reading r + N.reading;
      wait = is_at WriteWait r + N.wait;
      take = is_at WriteTake r + N.take;
      writing = is_at Writing r + N.writing;
      put = is_at WritePut r + N.put;
      busy = busy_of r + N.busy;
      inside = inside_of ops r + N.inside;
    }

-- the mover's clause, seen from the thread that steps: a mover is at into_inner, and the others are Idle
pub record Own (m : Option ℕ) (R : Tally) (n at o : ℕ) : Type 0 where
  pub op : moving m ≤ is_into o
  pub room : at + moving m ≤ n
  pub rest : min (moving m) R.busy ≡ 0

-- what is known before a step that is not refused
pub record Before (L : Lock) (n : ℕ) (ops : ℕ → ℕ) (R : Tally) (r : Rec) (v : ℕ) : Type 0 where
  pub counts : Counts L (weighed ops r R)
  pub rec : KeptRec L.pred L.top.0 n ops r
  pub own : Own L.mover R n r.at (ops r.at)
  pub more : r.at < n
  pub going : L.finished ≡ false
  -- the others are Idle at into_inner, and what is put is permitted
  pub calm : ops r.at ≡ into_inner → R.busy ≡ 0
  pub allowed : is_at Writing r ≡ 1 → ops r.at ≡ release_write → permits L.pred v ≡ true
  pub sub : R.inside ≤ R.busy
  pub exc1 : bit L.exc ≤ 1
  pub full1 : bit (is_full L.cell) ≤ 1
  pub mover1 : moving L.mover ≤ 1
  pub good1 : bit (permits L.pred (kept L.cell)) ≤ 1

pub record Holds (L : Lock) (n : ℕ) (ops : ℕ → ℕ) (R : Tally) (r : Rec) : Type 0 where
  pub counts : Counts L (weighed ops r R)
  pub rec : KeptRec L.pred L.top.0 n ops r
  pub own : Own L.mover R n r.at (ops r.at)

module _ (i : ℕ) (L : Lock) (n : ℕ) (ops : ℕ → ℕ) (R : Tally) (r : Rec) (v : ℕ) where
  pub keep : (p : Place) (d : Did) → Move i L r (ops r.at) v p d → Before L n ops R (moved r p) v → Holds d.lock n ops R d.rec
  keep p d (by_load_below e t) b = omega (tests, ap is_into e, ltb-true L.rc.0 L.top.0 t)
  keep p d (by_load_full e t) b = omega (tests, ap is_into e)
  keep p d (by_try_done e t) b = omega (tests, ap is_into e, eqb-true L.rc.0 r.seen.0 t)
  keep p d (by_try_lost e t) b = omega (tests, ap is_into e)
  keep p d (by_check_clear e t) b = omega (tests, ap is_into e)
  keep p d (by_check_set e t) b = omega (tests, ap is_into e)
  keep p d (back e) b = omega (tests, ap is_into e)
  keep p d (lend e) b = omega (tests, ap is_into e)
  keep p d (release e) b = omega (tests, ap is_into e)
  keep p d (by_exc_done e t) b = omega (tests, ap is_into e)
  keep p d (by_exc_lost e t) b = omega (tests, ap is_into e)
  keep p d (into_done e t) b = omega (tests, ap is_into e, b.calm e)
  keep p d (into_lost e t) b = omega (tests, ap is_into e, b.calm e)
  keep p d (by_wait_done e t) b = omega (tests, eqb-true L.rc.0 0 t)
  keep p d (by_wait_more e t) b = omega tests
  keep p d (take e) b = omega (tests, ap is_into e)
  keep p d (take_last e) b = omega (tests, ap is_into e)
  keep p d (put e) b = omega (tests, ap is_into e, bit_true (permits L.pred v) (b.allowed refl e))
  keep p d (store e) b = omega (tests, ap is_into e)
  keep p d (drop_read e) b = omega (tests, ap is_into e)
  keep p d (drop_write e) b = omega (tests, ap is_into e)
