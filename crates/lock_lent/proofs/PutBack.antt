-- The records of a list exchanged with sixteen blank ones, a function of `lock` called with them, and what it leaves of them exchanged with
-- what the list has meanwhile: the answer and the list are machine's.
use Rattle.std.proofs.Common.{ℕ, ◌≡◌, refl, ap, ◌∙◌, List, length}
use Rattle.cell.specs.declared.pred.Pred.{Pred}
use Rattle.machine.specs.Lists.{Lent}
use Rattle.machine.specs.Setup.{fresh, setup, setup_recs}
use Rattle.machine.specs.Run.{run_lent}
use Rattle.machine.specs.Drain.{drain_lent}
use Rattle.machine.specs.declared.Lock.{Lock}
use Rattle.machine.specs.declared.Rec.{Rec}
use Rattle.lock.specs.ByValue.{run_of, drain_of}
use Rattle.lock.specs.Setup.{begun_of}
use Rattle.lock.specs.declared.setup.Begun.{Begun}
use Rattle.lock_lent.specs.Exchange.{front, shared}
use Rattle.lock.specs.Run.{ran_of as returned_run}
use Rattle.lock.specs.Drain.{drained_of as returned_drain}
use Rattle.lock_lent.specs.Run.{ran_of, ran_told}
use Rattle.lock_lent.specs.Drain.{drained_of, drained_told}
use Rattle.lock_lent.specs.Taken.{taken, back}
use Rattle.lock.specs.declared.run.RunReturn.{RunReturn}
use Rattle.lock.specs.declared.drain.DrainReturn.{DrainReturn}
use Rattle.lock_lent.proofs.AnyLength.{emptied, emptied_length, put_again, setup_any_length, run_any_length, drain_any_length}

-- the list l, sixteen blank records, the array that the first exchange gives and the list that it leaves
module _ (l blank array left : List Rec) (blank_is : blank ≡ fresh 16) (array_is : array ≡ front (shared l) l blank)
    (left_is : left ≡ front (shared l) blank l) where
  taken_is : array ≡ taken l
  taken_is = array_is ∙ ap (front (shared l) l) blank_is

  emptied_is : left ≡ emptied l
  emptied_is = left_is ∙ ap (λ (b : List Rec). front (shared l) b l) blank_is

  count_is : length left ≡ length l
  count_is = ap length emptied_is ∙ emptied_length l

  back_is : (given after : List Rec) → after ≡ front (shared left) given left → after ≡ back l given
  back_is given after e = e ∙ ap (λ (m : List Rec). front (shared m) given m) emptied_is ∙ put_again l given

  pub setup_back : (q : Pred) (m v : ℕ) (s : Lent) (d : Begun) (after : List Rec)
      → d ≡ begun_of q m v s (length left) array → after ≡ front (shared left) d.recs left
      → (d.start ≡ setup q m v s (length l)) × (after ≡ setup_recs q m v s l)
  setup_back q m v s d after d_is after_is =
      let e : d ≡ begun_of q m v s (length l) (taken l) = d_is ∙ rw (taken_is, count_is) refl in (
        ap (λ (x : Begun). x.start) e,
        back_is d.recs after after_is ∙ ap (λ (x : Begun). back l x.recs) e ∙ setup_any_length q m v s l,
      )

  module _ (s : Lent) (L : Lock) where
    pub run_back : (schedule : List ℕ) (budget : ℕ) (trace : List ℕ) (d : RunReturn) (after : List Rec) (rows : List ℕ)
        → d ≡ returned_run (length left) array (run_of s (length left) L array schedule budget trace) → after ≡ front (shared left) d.recs left
        → rows ≡ (run_of s (length left) L array schedule budget trace).trace
        → let made = run_lent s L l schedule budget trace in (d.ran ≡ ran_told (ran_of made)) × (after ≡ made.recs) × (rows ≡ made.trace)
    run_back schedule budget trace d after rows d_is after_is rows_are =
        let e : d ≡ returned_run (length l) (taken l) (run_of s (length l) L (taken l) schedule budget trace) = d_is ∙ rw (taken_is, count_is) refl in
        let rows_too : rows ≡ (run_of s (length l) L (taken l) schedule budget trace).trace = rows_are ∙ rw (taken_is, count_is) refl in
        let law = run_any_length s L l schedule budget trace in (
          ap (λ (x : RunReturn). x.ran) e ∙ ap ran_told law.0,
          back_is d.recs after after_is ∙ ap (λ (x : RunReturn). back l x.recs) e ∙ law.1,
          rows_too ∙ law.2,
        )

    pub drain_back : (d : DrainReturn) (after : List Rec)
        → d ≡ returned_drain (length left) array (drain_of s (length left) L array) → after ≡ front (shared left) d.recs left
        → let made = drain_lent s L l in (d.drained ≡ drained_told (drained_of made)) × (after ≡ made.recs)
    drain_back d after d_is after_is =
        let e : d ≡ returned_drain (length l) (taken l) (drain_of s (length l) L (taken l)) = d_is ∙ rw (taken_is, count_is) refl in
        let law = drain_any_length s L l in (
          ap (λ (x : DrainReturn). x.drained) e ∙ ap drained_told law.0,
          back_is d.recs after after_is ∙ ap (λ (x : DrainReturn). back l x.recs) e ∙ law.1,
        )
