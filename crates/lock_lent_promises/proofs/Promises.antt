-- The three demands, of what the functions of `lock_lent` return and leave in the lent lists.
use Prim.Native.Nat.{ℕ, ◌*◌}
use mathlib.Core.Path.{◌≡◌, refl, sym, ap, ◌∙◌}
use mathlib.Core.Logic.{◌≢◌}
use mathlib.Core.List.{List, [], ◌∷◌}
use native.Mathlib.Omega.{arith}
use lib.ListN.{length, drop}
use Rattle.machine.specs.Names.{row_words}
use Rattle.machine.specs.Lists.{Lent, some_refusal}
use Rattle.machine.specs.Setup.{setup, setup_refusal}
use Rattle.machine.specs.Run.{run_refusal, run_lent}
use Rattle.machine.specs.Drain.{drain_refusal, drain_lent}
use Rattle.machine.specs.declared.Lock.{Lock}
use Rattle.machine.specs.declared.Rec.{Rec}
use Rattle.machine.specs.declared.Refusal.{Refusal}
use Rattle.std.specs.Prelude.{Err, None, Ok}
use Rattle.machine.proofs.Ends.{drain_rule}
use Rattle.machine.proofs.RunRule.{run_rule}
use Rattle.machine.proofs.Setup.{setup_is_sound}
use Rattle.lock.specs.Setup.{begun_of}
use Rattle.lock.proofs.Told.{is_none}
use Rattle.lock_lent.specs.Run.{ran_told, step_lent}
use Rattle.lock_lent.specs.Drain.{drained_told}
use Rattle.lock.specs.declared.run.Ran.{Ran}
use Rattle.lock.specs.declared.drain.Drained.{Drained}
use Rattle.lock_lent.proofs.LentLaws.{refused_setup as setup_law, refused_run_lem as run_law, refused_rest as rest_law, refused_drain as drain_law}
use Rattle.lock_promises.proofs.Promises.{refused_setup as setup_by_value, demand2 as of_reached, runs_go_on as of_runs, demand3 as of_drain}
use Rattle.lock_promises.proofs.Drains.{accepted_drain as of_accepted}
use Rattle.lock_promises.proofs.Accesses.{accepted_entry}
use Rattle.lock_promises.proofs.Refusing.{drain_told, in_some, none_number}
use Rattle.lock_promises.specs.Given.{refusal_in}
use Rattle.lock_lent_promises.specs.Reached.{Gives, ReachedLent}
use Rattle.lock_lent_promises.specs.Promises.{RefusedSetup, Unchanged, RefusedRun, RefusedRest, RefusedStep, RefusedDrain, Demand2, RunsGoOn, RestGoesOn, StepGoesOn, AcceptedStep, Demand3, AcceptedDrain, AfterDrain}
use Rattle.lock_lent_promises.proofs.Reached.{lent_is_reached}
use Rattle.lock_lent_promises.proofs.Told.{number_none, none_in}

-- ---- demand 1
made_refused : (L : Lock) (why : Refusal) → Ok L ≡ Err why → ⊥
made_refused L why e = let clash : ◌≡◌ {A = ℕ} 0 1 = cc in omega (arith, clash)

pub refused_setup : RefusedSetup
refused_setup s q m v l start l' why (is, list) e =
    let refused : setup q m v s (length l) ≡ Err why = sym is ∙ e in
    let some : setup_refusal q m v s (length l) ≢ 0 = λ none. made_refused _ why (sym (setup_is_sound q m v s l none).0 ∙ refused) in
    (list ∙ (setup_law q m v s l some).1, (setup_by_value s q m v (length l) l (begun_of q m v s (length l) l) why refl refused).1)

-- a run is refused if what it returns says so; then nothing changed, the trace list if `still` says so of it
unchanged : (s : Lent) (L : Lock) (l : List Rec) (schedule : List ℕ) (budget : ℕ) (room list trace : List ℕ) (r : Ran) (l' : List Rec) (trace' : List ℕ)
    → Gives (run_lent s L l schedule budget room) list r l' trace' → (run_refusal s L l ≢ 0 → list ≡ trace) → r.refusal ≢ None
    → Unchanged L l trace r l' trace'
unchanged s L l schedule budget room list trace r l' trace' given still some =
    let refused : run_refusal s L l ≢ 0 = λ none.
    some (ap (λ (x : Ran). x.refusal) given.0 ∙ ap some_refusal (run_rule s L l schedule budget room none).0 ∙ is_none s 0 refl)
    in
    let (same, recs, room_stays) = run_law s L l schedule budget room refused in
    rw (given.0 ∙ ap ran_told same) (refl, refl, refl, given.1 ∙ recs, given.2 ∙ still refused)

pub refused_run_lem : RefusedRun
refused_run_lem s L l schedule budget trace r l' trace' given =
    unchanged s L l schedule budget trace _ trace r l' trace' given (λ refused. (run_law s L l schedule budget trace refused).2)

pub refused_rest : RefusedRest
refused_rest s L l schedule budget used trace r l' trace' given =
    unchanged s L l schedule budget (drop (row_words * used) trace) _ trace r l' trace' given
    (λ refused. (rest_law s L l schedule budget used trace refused).2)

pub refused_step : RefusedStep
refused_step s L l i trace = refused_run_lem s L l (i ∷ []) 1 trace

pub refused_drain : RefusedDrain
refused_drain s L l d l' (is, list) some =
    let refused : drain_refusal s L l ≢ 0 =
    λ none. some (ap (λ (x : Drained). x.refusal) is ∙ ap some_refusal (drain_rule s L l none).0 ∙ is_none s 0 refl)
    in
    let (same, recs) = drain_law s L l refused in
    rw (is ∙ ap drained_told same) (refl, refl, list ∙ recs)

-- ---- demand 2
pub demand2 : Demand2
demand2 s q m v L l rows reached = of_reached s q m v L l rows (lent_is_reached s q m v L l rows reached)

pub runs_go_on : RunsGoOn
runs_go_on s q m v L l rows reached schedule budget trace r l' trace' given =
    rw given.0 (number_none _ (of_runs s q m v L l rows (lent_is_reached s q m v L l rows reached) schedule budget trace (run_lent s L l schedule budget trace) refl))

pub rest_goes_on : RestGoesOn
rest_goes_on s q m v L l rows reached schedule budget used trace r l' trace' given =
    let room = drop (row_words * used) trace in
    rw given.0 (number_none _ (of_runs s q m v L l rows (lent_is_reached s q m v L l rows reached) schedule budget room (run_lent s L l schedule budget room) refl))

pub step_goes_on : StepGoesOn
step_goes_on s q m v L l rows reached i trace = runs_go_on s q m v L l rows reached (i ∷ []) 1 trace

pub accepted_step : AcceptedStep
accepted_step s L l i trace r l' trace' given one zero =
    let (is, list, trace_is) = given in
    rw (is, list, trace_is) (accepted_entry s L l i 1 trace (step_lent s L l i trace) refl (rw is at one) (rw trace_is at zero))

-- ---- demand 3
drained_in : (s : Lent) (L : Lock) (l : List Rec) → refusal_in (some_refusal (drain_lent s L l).refusal) ≡ (drain_lent s L l).refusal
drained_in s L l = rw (drain_told s L l (drain_lent s L l) refl) (in_some s (drain_refusal s L l))

pub demand3 : Demand3
demand3 s q m v L l rows reached tidy d l' (is, list) =
    rw (is, list, drained_in s L l) (of_drain s q m v L l rows (lent_is_reached s q m v L l rows reached) tidy (drain_lent s L l) refl)

pub accepted_drain : AcceptedDrain
accepted_drain s L l d l' (is, list) none = rw (is, list, drained_in s L l) (of_accepted s L l (drain_lent s L l) refl (none_number _ (rw is at none)))

pub after_drain : AfterDrain
after_drain s q m v L l rows reached d l' given over =
    let none : d.refusal ≡ None = rw given.0 (none_in (drain_lent s L l).refusal (rw given.0 at over.accepted)) in
    let there = ReachedLent.drained reached d l' over.entries given none over.order in
    (demand2 s q m v d.lock l' _ there, runs_go_on s q m v d.lock l' _ there)
