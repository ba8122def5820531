-- The marked cases, computed.
use mathlib.Core.Path.{◌≡◌, refl}
use mathlib.Core.Bool.{true}
use Rattle.atomic.proofs.Cases.{case_j}
use Rattle.cell.specs.Pred.{permits, good}
use Rattle.machine.specs.Refusals.{lowest}
use Rattle.machine.specs.Step.{act, fits, sum, entry_refusal, answer, step}
use Rattle.machine.specs.Sound.{every, sound}
use Rattle.machine.specs.Lists.{total, find, scripts_of}
use Rattle.machine.specs.Setup.{setup_refusal, setup, setup_recs}
use Rattle.machine.specs.Run.{run, accepted, words_of, run_refusal, run_lent}
use Rattle.machine.specs.Tidy.{tidy_rest, tidy, cost_from, cost}
use Rattle.machine.specs.Drain.{until, sweep, drain, drain_refusal, drain_lent}
use Rattle.machine.specs.Cases.{starving, lock_l, recs_l, CaseA, CaseB, CaseC, CaseD, CaseE, CaseF, CaseG, CaseH, CaseI, CaseK, CaseL, Cases}
use Rattle.machine.proofs.SoundTest.{sound_tested}
use Rattle.machine.proofs.TidyTest.{tidy_tested}

case_a : CaseA
unfolding run step answer entry_refusal lowest act fits sum permits good setup_refusal setup setup_recs total find run_refusal run_lent every sound words_of accepted
case_a = (refl, refl, refl, refl, refl)

case_b : CaseB
unfolding run step answer entry_refusal lowest act fits sum permits total
case_b = (refl, refl)

case_c : CaseC
unfolding run step answer entry_refusal lowest act fits sum permits total
case_c = (refl, refl)

case_d : CaseD
unfolding run step answer entry_refusal lowest act fits sum permits total
case_d = (refl, refl)

case_e : CaseE
unfolding run step answer entry_refusal lowest act fits sum permits total
case_e = (refl, refl)

case_f : CaseF
unfolding run step answer entry_refusal lowest act fits sum permits total
case_f = refl

case_g : CaseG
unfolding run step answer entry_refusal lowest act fits sum permits total
case_g = refl

case_h : CaseH
unfolding run step answer entry_refusal lowest act fits sum permits total
case_h = refl

case_i : CaseI
unfolding run step answer entry_refusal lowest act fits sum permits total
case_i = (refl, refl, refl)

case_k : CaseK
unfolding run step answer entry_refusal lowest act fits sum permits total
case_k = (refl, refl)

sound_l : sound (scripts_of starving) lock_l recs_l ≡ true
unfolding sound every sum permits good total
sound_l = refl

tidy_l : tidy (scripts_of starving) lock_l recs_l ≡ true
unfolding tidy every tidy_rest permits total
tidy_l = refl

case_l : CaseL
unfolding run step answer entry_refusal lowest act fits sum permits good total find run_refusal every sound tidy tidy_rest cost cost_from until sweep drain drain_refusal drain_lent
case_l = (
  refl,
  refl,
  refl,
  refl,
  refl,
  (sound_tested (scripts_of starving) lock_l recs_l).0 sound_l,
  (tidy_tested (scripts_of starving) lock_l recs_l).0 tidy_l,
  refl,
  refl,
  refl,
)

pub cases : Cases
cases = (case_a, case_b, case_c, case_d, case_e, case_f, case_g, case_h, case_i, case_j, case_k, case_l)
