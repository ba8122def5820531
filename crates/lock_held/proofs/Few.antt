-- With a count of at most sixteen, what is left where the first records of an array are lent is what `lock` leaves with that count.
use Prim.Native.Nat.{ℕ, ◌≤◌, min}
use mathlib.Core.Path.{◌≡◌, refl, sym}
use mathlib.Core.List.{List}
use native.Mathlib.Omega.{arith}
use lib.ListN.{length, take, take-append-drop}
use lib.Seq.{length-take-le}
use Rattle.cell.specs.declared.pred.Pred.{Pred}
use Rattle.machine.specs.Lists.{Lent}
use Rattle.machine.specs.Setup.{setup, setup_recs}
use Rattle.machine.specs.Run.{run_lent}
use Rattle.machine.specs.Drain.{drain_lent}
use Rattle.machine.specs.declared.Lock.{Lock}
use Rattle.machine.specs.declared.Rec.{Rec}
use Rattle.lock.specs.ByValue.{put_back, setup_of, run_of, drain_of}
use Rattle.lock.specs.Setup.{begun_of}
use Rattle.lock.specs.Run.{ran_of}
use Rattle.lock.specs.Drain.{drained_of}
use Rattle.lock.proofs.Begins.{setup_first, setup_others}
use Rattle.lock.proofs.ByValue.{run_by_value}
use Rattle.lock.proofs.Draining.{drain_by_value}
use Rattle.lock_held.specs.Begun.{begun_with}

module _ (count : ℕ) (recs : List Rec) (few : count ≤ 16) (wide : length recs ≡ 16) where
  all : min count 16 ≡ count
  all = omega (arith, few)

  pub setup_few : (q : Pred) (m v : ℕ) (s : Lent)
      → let l = take (min count 16) recs in begun_with (min count 16) recs (setup q m v s (length l)) (setup_recs q m v s l) ≡ begun_of q m v s count recs
  setup_few q m v s =
      let enough : count ≤ length recs = omega (arith, few, wide) in
      let after = setup_of q m v s count recs in
      let back : put_back count recs (setup_recs q m v s (take count recs)) ≡ after =
      rw (← (setup_first q m v s count recs enough), ← (setup_others q m v s count recs enough)) (take-append-drop count after)
      in
      rw (all, length-take-le count recs enough, back) refl

  module _ (s : Lent) (L : Lock) where
    pub run_lent_lem : (schedule : List ℕ) (budget : ℕ) (trace : List ℕ)
        → run_lent s L (take (min count 16) recs) schedule budget trace ≡ run_of s count L recs schedule budget trace
    run_lent_lem schedule budget trace = rw all (sym (run_by_value s count L recs schedule budget trace few wide))

    pub run_few : (schedule : List ℕ) (budget : ℕ) (trace : List ℕ)
        → ran_of (min count 16) recs (run_lent s L (take (min count 16) recs) schedule budget trace) ≡ ran_of count recs (run_of s count L recs schedule budget trace)
    run_few schedule budget trace = rw (run_lent_lem schedule budget trace, all) refl

    pub drain_few : drained_of (min count 16) recs (drain_lent s L (take (min count 16) recs)) ≡ drained_of count recs (drain_of s count L recs)
    drain_few = rw (all, ← (drain_by_value s count L recs (omega (arith, few, wide)))) refl
