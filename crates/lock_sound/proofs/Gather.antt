-- The loop that gathers the counts: each is a sum over the records, and no sum of counts is above the number of records.
use Prim.Native.Nat.{ℕ, ◌+◌, ◌<◌, ◌≤◌}
use mathlib.Core.Path.{◌≡◌}
use mathlib.Core.Bool.{Bool, true, false}
use mathlib.Core.List.{List}
use native.Mathlib.Omega.{arith}
use lib.Dec.{eqb}
use lib.ListN.{length, get_or}
use Rattle.machine.specs.Lists.{start}
use Rattle.machine.specs.Names.{into_inner}
use Rattle.machine.specs.Words.{bit, is_at}
use Rattle.machine.specs.Step.{busy_of, here}
use Rattle.machine.specs.Sound.{inside_of, tally}
use Rattle.machine.specs.declared.Rec.{Rec}
use Rattle.machine.specs.declared.Place.{Place}
use Rattle.machine.specs.declared.Place.TheVariants.{Idle, ReadTry, ReadCheck, ReadBack, Reading, WriteWait, WriteTake, Writing, WritePut}
use Rattle.lock_sound.specs.declared.sound.Counted.{Counted}
use Rattle.lock_sound.specs.Counts.{Among, as_tally, unvalued, weighed}
use Rattle.lock_words.proofs.Slices.{Summed, next_summed, all_summed}

-- ---- what a record weighs
abbrev at : Place → ℕ → Rec → ℕ
at p k r = is_at p r

abbrev outside : ℕ → Rec → ℕ
outside k r = busy_of r

abbrev within : List ℕ → List ℕ → ℕ → Rec → ℕ
within lens ops k r = inside_of ((unvalued lens ops).op k) r

pub byte_light : (b : Bool) → mir.Val.bool_byte b ≤ 1
byte_light true = omega arith
byte_light false = omega arith

bit_light : (b : Bool) → bit b ≤ 1
bit_light true = omega arith
bit_light false = omega arith

-- with one record more: it is counted at one place at most, and there only where it is not Idle
pub one_more : (k : ℕ) (n : Counted) (r : Rec) (o : ℕ) → Among k n → Among (k + 1) (weighed n r o)
one_more k n r o a = go r.place
  where
    go : (p : Place) → Among (k + 1) (weighed n (record { at = r.at; place = p; seen = r.seen; taken = r.taken }) o)
    go Idle = let light = bit_light (eqb o into_inner) in (omega arith, omega arith, omega arith)
    go ReadTry = let light = bit_light (eqb o into_inner) in (omega arith, omega arith, omega arith)
    go ReadCheck = let light = bit_light (eqb o into_inner) in (omega arith, omega arith, omega arith)
    go ReadBack = let light = bit_light (eqb o into_inner) in (omega arith, omega arith, omega arith)
    go Reading = let light = bit_light (eqb o into_inner) in (omega arith, omega arith, omega arith)
    go WriteWait = let light = bit_light (eqb o into_inner) in (omega arith, omega arith, omega arith)
    go WriteTake = let light = bit_light (eqb o into_inner) in (omega arith, omega arith, omega arith)
    go Writing = let light = bit_light (eqb o into_inner) in (omega arith, omega arith, omega arith)
    go WritePut = let light = bit_light (eqb o into_inner) in (omega arith, omega arith, omega arith)

-- ---- what is gathered before record k
pub record Sums (lens ops : List ℕ) (l : List Rec) (k : ℕ) (x : Counted) : Type 0 where
  pub check : Summed (at ReadCheck) l k x.check
  pub back : Summed (at ReadBack) l k x.back
  pub reading : Summed (at Reading) l k x.reading
  pub wait : Summed (at WriteWait) l k x.wait
  pub take : Summed (at WriteTake) l k x.take
  pub writing : Summed (at Writing) l k x.writing
  pub put : Summed (at WritePut) l k x.put
  pub busy : Summed outside l k x.busy
  pub inside : Summed (within lens ops) l k x.inside

module _ (lens ops : List ℕ) (l : List Rec) where
  pub sums_none : Sums lens ops l 0 (record { check = 0; back = 0; reading = 0; wait = 0; take = 0; writing = 0; put = 0; busy = 0; inside = 0 })
  sums_none =
      record {
        check = omega arith;
        back = omega arith;
        reading = omega arith;
        wait = omega arith;
        take = omega arith;
        writing = omega arith;
        put = omega arith;
        busy = omega arith;
        inside = omega arith;
      }

  module _ (k : ℕ) (x : Counted) (s : Sums lens ops l k x) where
    pub sums_on : k < length l → Sums lens ops l (k + 1) (weighed x (here l k) (get_or ops (start lens k + (here l k).at) 0))
    sums_on there =
        record {
          check = next_summed (at ReadCheck) l k x.check s.check there;
          back = next_summed (at ReadBack) l k x.back s.back there;
          reading = next_summed (at Reading) l k x.reading s.reading there;
          wait = next_summed (at WriteWait) l k x.wait s.wait there;
          take = next_summed (at WriteTake) l k x.take s.take there;
          writing = next_summed (at Writing) l k x.writing s.writing there;
          put = next_summed (at WritePut) l k x.put s.put there;
          busy = next_summed outside l k x.busy s.busy there;
          inside = next_summed (within lens ops) l k x.inside s.inside there;
        }

    pub sums_over : length l ≤ k → as_tally x ≡ tally (unvalued lens ops) l
    sums_over past =
        λ i. record {
          check = all_summed (at ReadCheck) l k x.check s.check past i;
          back = all_summed (at ReadBack) l k x.back s.back past i;
          reading = all_summed (at Reading) l k x.reading s.reading past i;
          wait = all_summed (at WriteWait) l k x.wait s.wait past i;
          take = all_summed (at WriteTake) l k x.take s.take past i;
          writing = all_summed (at Writing) l k x.writing s.writing past i;
          put = all_summed (at WritePut) l k x.put s.put past i;
          busy = all_summed outside l k x.busy s.busy past i;
          inside = all_summed (within lens ops) l k x.inside s.inside past i;
        }
