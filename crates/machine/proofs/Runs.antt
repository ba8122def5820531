-- Setup's state is sound, and so is what any schedule makes of a sound state.
use Prim.Native.Nat.{ℕ, ◌<◌, ◌≤◌}
use mathlib.Core.Path.{◌≡◌, refl}
use mathlib.Core.Bool.{true}
use mathlib.Core.List.{List, [], ◌∷◌}
use native.Mathlib.Omega.{arith}
use lib.ListN.{length, length-replicate, get_or-replicate}
use Rattle.cell.specs.Pred.{permits}
use Rattle.cell.specs.declared.pred.Pred.{Pred}
use Rattle.cell.proofs.PredLaws.{permitted_is_good}
use Rattle.machine.specs.Words.{is_at, unbegun, unused}
use Rattle.machine.specs.Step.{Scripts, busy_of, here, step}
use Rattle.machine.specs.Sound.{inside_of, tally, Tally, Sound}
use Rattle.machine.specs.Setup.{fresh}
use Rattle.machine.specs.Run.{run}
use Rattle.machine.specs.Demands.{StepKeepsSound, AlwaysSound}
use Rattle.machine.specs.declared.Lock.{Lock}
use Rattle.machine.specs.declared.Rec.{Rec}
use Rattle.machine.specs.declared.Place.TheVariants.{ReadCheck, ReadBack, Reading, WriteWait, WriteTake, Writing, WritePut}
use Rattle.machine.proofs.Sums.{sum_none}
use Rattle.machine.proofs.Keep.{bit_true}
use Rattle.machine.proofs.Steps.{step_sound}

abbrev none : Tally
none = record { check = 0; back = 0; reading = 0; wait = 0; take = 0; writing = 0; put = 0; busy = 0; inside = 0 }

pub none_fresh : (S : Scripts) (n : ℕ) → tally S (fresh n) ≡ none
none_fresh S n =
    λ j. record {
      check = sum_none (λ k r. is_at ReadCheck r) unbegun (λ k. refl) 0 n j;
      back = sum_none (λ k r. is_at ReadBack r) unbegun (λ k. refl) 0 n j;
      reading = sum_none (λ k r. is_at Reading r) unbegun (λ k. refl) 0 n j;
      wait = sum_none (λ k r. is_at WriteWait r) unbegun (λ k. refl) 0 n j;
      take = sum_none (λ k r. is_at WriteTake r) unbegun (λ k. refl) 0 n j;
      writing = sum_none (λ k r. is_at Writing r) unbegun (λ k. refl) 0 n j;
      put = sum_none (λ k r. is_at WritePut r) unbegun (λ k. refl) 0 n j;
      busy = sum_none (λ k r. busy_of r) unbegun (λ k. refl) 0 n j;
      inside = sum_none (λ k r. inside_of (S.op k) r) unbegun (λ k. omega arith) 0 n j;
    }

-- each record after setup
pub here_fresh : (n j : ℕ) → j < length (fresh n) → here (fresh n) j ≡ unbegun
here_fresh n j h = get_or-replicate n j unbegun unbegun (rw length-replicate at h)

pub setup_sound : (S : Scripts) (q : Pred) (m v n : ℕ) → 1 ≤ m → permits q v ≡ true → Sound S (unused q m v) (fresh n)
setup_sound S q m v n top ok =
    record {
      top = top;
      pred = permitted_is_good q v ok;
      counts = rw (none_fresh S n) (omega (arith, bit_true (permits q v) ok));
      kept = λ j h. rw (here_fresh n j h) (omega arith);
      mover = tt;
    }

pub run_sound : (S : Scripts) (more : List ℕ) (L : Lock) (l : List Rec) → Sound S L l → Sound S (run S L l more).lock (run S L l more).recs
unfolding run
run_sound S [] L l h = h
run_sound S (i ∷ more) L l h = run_sound S more (step S L l i).lock (step S L l i).recs (step_sound S L l i h)

pub step_keeps_sound : StepKeepsSound
step_keeps_sound = step_sound

pub always_sound : AlwaysSound
always_sound S q m v n top ok schedule = run_sound S schedule (unused q m v) (fresh n) (setup_sound S q m v n top ok)
