-- An entry by the thread's own record alone is machine's step. And an entry for a thread that there is not leaves all as it is.
use Prim.Native.Nat.{ℕ, ◌-◌, ◌<◌, ◌≤◌}
use mathlib.Core.Path.{◌≡◌, refl, sym}
use mathlib.Core.List.{List}
use native.Mathlib.Omega.{arith}
use lib.ListN.{length, set}
use lib.Seq.{set-get_or}
use Rattle.machine.specs.Names.{no_access, no_thread}
use Rattle.machine.specs.Words.{unbegun}
use Rattle.machine.specs.Step.{Scripts, here, busy_of, busy, others, op_of, val_of, answer, row_of, settle, step}
use Rattle.machine.specs.declared.Lock.{Lock}
use Rattle.machine.specs.declared.Rec.{Rec}
use Rattle.std.specs.Prelude.{Err, Ok, Result}
use Rattle.machine.specs.declared.Did.{Did}
use Rattle.machine.proofs.Sums.{sum_set, sum_at}
use Rattle.lock.specs.Turn.{turn_of}
use Rattle.lock.specs.Entered.{settled, entered_of}
use Rattle.lock.specs.declared.entered.Entered.{Entered}
use Rattle.lock.proofs.Turn.{answer_turn, answer_none}

module _ (S : Scripts) (L : Lock) (l : List Rec) (i : ℕ) where
  -- what the code makes of the entry, out of thread i's record and what is kept of the others
  abbrev pub entered : Entered
  entered = entered_of L (here l i) i (S.len i) (busy l) (op_of S l i) (val_of S l i)

  others_are : i < length l → busy l - busy_of (here l i) ≡ others l i
  others_are h = omega (arith, sum_set (λ k r. busy_of r) l i unbegun unbegun h)

  answered : i < length l → answer S L l i ≡ turn_of L (here l i) i (S.len i) (busy l - busy_of (here l i)) (op_of S l i) (val_of S l i)
  answered h = rw (others_are h) (answer_turn S L l i h)

  -- the same answer leaves the same
  left : i < length l → (out : Result Did ℕ)
      → let x = settle L l i out in
      let e = settled L (here l i) i (busy l) out in
      (x.lock ≡ e.lock) × (x.recs ≡ set l i e.rec) × (x.row ≡ e.row) × (busy x.recs ≡ e.busy)
  left h (Err k) = (refl, sym (set-get_or l i unbegun), refl, refl)
  left h (Ok d) = (refl, refl, refl, rw (others_are h) (omega (arith, sum_at (λ k r. busy_of r) l i d.rec unbegun refl h)))

  pub step_entered : i < length l
      → let x = step S L l i in
      (x.lock ≡ entered.lock) × (x.recs ≡ set l i entered.rec) × (x.row ≡ entered.row) × (busy x.recs ≡ entered.busy)
  unfolding step entered_of
  step_entered h = rw (answered h) (left h (turn_of L (here l i) i (S.len i) (busy l - busy_of (here l i)) (op_of S l i) (val_of S l i)))

  pub step_none : length l ≤ i → let x = step S L l i in (x.lock ≡ L) × (x.recs ≡ l) × (x.row ≡ row_of i L no_access no_thread 0)
  unfolding step
  step_none h = rw (answer_none S L l i h) (refl, refl, refl)
