-- Run with records by value is machine's run of the first `count` records of the array, where the array has so many; and where it has
-- not, the run is refused. A later piece for which there is no room changes nothing.
use Prim.Native.Nat.{ℕ, ◌*◌, ◌<◌, ◌≤◌}
use mathlib.Core.Path.{◌≡◌, refl}
use mathlib.Core.Bool.{Bool, true, false, cond}
use mathlib.Core.List.{List, [], ◌++◌, append-nil}
use native.Mathlib.Omega.{arith}
use lib.Dec.{eqb}
use lib.ListN.{length, take, drop_of_length-le}
use lib.Seq.{length-take-le, take_all}
use Rattle.machine.specs.Names.{most_threads, row_words}
use Rattle.machine.specs.Lists.{Lent, scripts_of, beside}
use Rattle.machine.specs.Run.{entries, run, words_of, RunLeft, made_run, refused_run, run_refusal, run_lent}
use Rattle.machine.specs.declared.Lock.{Lock}
use Rattle.machine.specs.declared.Rec.{Rec}
use Rattle.lock.specs.ByValue.{run_refusal_of, run_of}
use Rattle.lock.specs.Run.{rest_of, rest_trace}
use Rattle.lock.proofs.Refusing.{none_refused}

module _ (s : Lent) (count : ℕ) (L : Lock) (recs : List Rec) where
  pub same_refusal : count ≤ most_threads → length recs ≡ most_threads → run_refusal_of s count L (take count recs) ≡ run_refusal s L (take count recs)
  unfolding run_refusal_of run_refusal
  same_refusal few wide = rw (length-take-le count recs (omega arith)) refl

  pub run_by_value : (schedule : List ℕ) (budget : ℕ) (trace : List ℕ) → count ≤ most_threads → length recs ≡ most_threads
      → run_of s count L recs schedule budget trace ≡ run_lent s L (take count recs) schedule budget trace
  unfolding run_of run_lent
  run_by_value schedule budget trace few wide = rw (same_refusal few wide) refl

  pub too_many : most_threads < count → run_refusal_of s count L (take count recs) ≡ 0 → ⊥
  too_many many none = let (same, ready) = none_refused s count L recs none in omega (arith, ready.threads)

  -- a later piece past the end of the trace list runs no entry, and the list stays
  module _ (schedule : List ℕ) (budget used : ℕ) (trace : List ℕ) (past : length trace ≤ row_words * used) where
    pub no_room_lem : ((rest_of s count L recs schedule budget used trace).n ≡ 0) × (rest_trace s count L recs schedule budget used trace ≡ trace)
    unfolding run_of run words_of
    no_room_lem = rw (drop_of_length-le trace past, take_all (row_words * used) trace past) (go (eqb (run_refusal_of s count L (take count recs)) 0))
      where
        made : RunLeft
        made = made_run (beside s 0) (entries budget schedule []) [] (run (scripts_of s) L (take count recs) (take (entries budget schedule []) schedule))

        go : (b : Bool) → let left = cond b made (refused_run (beside s (run_refusal_of s count L (take count recs))) L (take count recs) []) in
            (left.n ≡ 0) × (trace ++ left.trace ≡ trace)
        go true = let none : entries budget schedule [] ≡ 0 = omega arith in rw none (refl, append-nil trace)
        go false = (refl, append-nil trace)
