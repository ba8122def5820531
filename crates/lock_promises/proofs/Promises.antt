-- The three demands, of what the functions of `lock` return.
use Rattle.lock.proofs.Told.{is_none, told_some}
use Prim.Native.Nat.{ℕ, ◌*◌, ◌≤◌}
use mathlib.Core.Path.{◌≡◌, refl, sym, ap, ◌∙◌}
use mathlib.Core.Logic.{◌≢◌}
use mathlib.Core.Bool.{Bool, true, false, cond}
use mathlib.Core.List.{List, ◌++◌}
use native.Mathlib.Omega.{arith}
use lib.Dec.{eqb}
use lib.ListN.{length, take, drop, take-append-drop}
use package.borrow.Author.Tests.{eqb-false}
use Rattle.cell.specs.declared.pred.Pred.{Pred}
use Rattle.machine.specs.Names.{row_words}
use Rattle.machine.specs.Words.{unused}
use Rattle.machine.specs.Lists.{Lent, scripts_of, beside}
use Rattle.machine.specs.Setup.{fresh, setup, setup_refusal}
use Rattle.machine.specs.Run.{Ran as Machine}
use Rattle.machine.specs.declared.Refusal.{Refusal}
use Rattle.std.specs.Prelude.{Err, Ok}
use Rattle.machine.proofs.Exclusive.{sound_is_safe}
use Rattle.machine.proofs.Runs.{always_sound}
use Rattle.machine.proofs.RunRule.{run_rule}
use Rattle.machine.proofs.Value.{demand_2c}
use Rattle.lock.specs.ByValue.{put_back, setup_of, drain_refusal_of}
use Rattle.lock.specs.Run.{rest_of}
use Rattle.lock.specs.declared.drain.DrainReturn.{DrainReturn}
use Rattle.lock.proofs.Refusing.{number_beside}
use Rattle.lock.proofs.ByValue.{run_by_value}
use Rattle.lock.proofs.Draining.{left_alone}
use Rattle.lock_promises.specs.Promises.{RefusedSetup, RefusedRun, RefusedRest, RefusedDrain, RefusedEntry, RunCounts, Demand2, Demand2ByValue, RunsGoOn, RunsGoOnByValue, RestGoesOnByValue, Kept, Demand3, Demand3ByValue, AfterDrain, AfterDrainByValue}
use Rattle.lock_promises.specs.Reached.{Reached, ReachedByValue}
use Rattle.lock_promises.proofs.Drains.{drain_over, over_by_value}
use Rattle.lock_promises.proofs.Refusing.{drain_told_by_value, number_none, none_in}
use Rattle.lock_promises.proofs.Reached.{Comes, admits, runs_on, drains, comes}
use Rattle.lock_promises.proofs.ByValue.{first_records}
use Rattle.lock_promises.proofs.RunByValue.{run_refused, run_is_run_by_value, entry_refused}

-- ---- demand 1
pub refused_setup : RefusedSetup
unfolding setup setup_of
refused_setup s q m v count recs b why is refused = rw is (go (eqb k 0) refl (rw is at refused))
  where
    k : ℕ
    k = setup_refusal q m v s count

    go : (b : Bool) → eqb k 0 ≡ b → cond b (Ok (unused q m v)) (Err (beside s k)) ≡ Err why
        → (cond b (put_back count recs (fresh count)) recs ≡ recs) × (why.number ≢ 0)
    go true e clash = let no : ◌≡◌ {A = ℕ} 0 1 = cc in absurd (omega arith)
    go false e same =
        let beside_is : beside s k ≡ why = cc in
        (refl, λ z. eqb-false k 0 e (sym (number_beside s k) ∙ ap (λ (x : Refusal). x.number) beside_is ∙ z))

pub refused_run_lem : RefusedRun
refused_run_lem = run_refused

pub refused_rest : RefusedRest
refused_rest s count L recs schedule budget used trace r trace' is trace_is some =
    let k = row_words * used in
    let list = (rest_of s count L recs schedule budget used trace).trace in
    let (n, done, lock, records, room) = run_refused s count L recs schedule budget (drop k trace) r list is refl some in
    (n, done, lock, records, trace_is ∙ ap (λ (t : List ℕ). take k trace ++ t) room ∙ take-append-drop k trace)

pub refused_drain : RefusedDrain
refused_drain s count L recs d is some =
    let k = drain_refusal_of s count L (take count recs) in
    let more : k ≢ 0 = λ z. some (drain_told_by_value s count L recs d is ∙ is_none s k z) in
    let whole = is ∙ sym (left_alone s count L recs (beside s k) (told_some s k more)) in
    (ap (λ (x : DrainReturn). x.drained.n) whole, ap (λ (x : DrainReturn). x.drained.lock) whole, ap (λ (x : DrainReturn). x.recs) whole)

pub refused_entry : RefusedEntry
refused_entry = entry_refused

-- ---- run's rule
pub run_counts : RunCounts
run_counts s count L recs schedule budget trace r trace' is trace_is wide none =
    let (a, others) = run_is_run_by_value s count L recs schedule budget trace r trace' is trace_is wide none in
    (a.entries, a.told, a.others, others)

-- ---- demand 2
kept : {s : Lent} {q : Pred} {m v : ℕ} {w : Machine} → Comes s q m v w → Kept s v w.lock w.recs w.rows
kept {s} {q} {m} {v} c =
    let (top, ok) = admits s q m v c in
    let S = scripts_of s in
    let sound = always_sound S q m v c.records top ok c.schedule in
    rw (← c.is) (record { safe = sound_is_safe S _ _ sound; told = demand_2c S q m v c.records top ok c.schedule })

pub demand2 : Demand2
demand2 s q m v L l rows reached = kept (comes reached)

pub demand2_by_value : Demand2ByValue
demand2_by_value s q m v count L recs rows reached = demand2 s q m v L (take count recs) rows (first_records reached).reached

pub runs_go_on : RunsGoOn
runs_go_on s q m v L l rows reached schedule budget trace left is =
    let none = runs_on s q m v (comes reached) in
    rw (is, (run_rule s L l schedule budget trace none).0) (number_beside s 0)

pub runs_go_on_by_value : RunsGoOnByValue
runs_go_on_by_value s q m v count L recs rows reached schedule budget trace r is =
    let f = first_records reached in
    rw (is, run_by_value s count L recs schedule budget trace f.few f.wide)
    (number_none _ (runs_go_on s q m v L (take count recs) rows f.reached schedule budget trace _ refl))

pub rest_goes_on_by_value : RestGoesOnByValue
rest_goes_on_by_value s q m v count L recs rows reached schedule budget used trace =
    runs_go_on_by_value s q m v count L recs rows reached schedule budget (drop (row_words * used) trace)

-- ---- demand 3
pub demand3 : Demand3
demand3 s q m v L l rows reached tidy left is = drain_over s L l left is (drains s q m v (comes reached) tidy)

pub demand3_by_value : Demand3ByValue
demand3_by_value s q m v count L recs rows reached tidy d is =
    let f = first_records reached in
    let enough : count ≤ length recs = omega (arith, f.wide, f.few) in
    over_by_value s count L recs enough d is (drains s q m v (comes f.reached) tidy)

pub after_drain : AfterDrain
after_drain s q m v L l rows reached left is over =
    let there = Reached.drained reached left over.entries is over.accepted over.order in
    (demand2 s q m v left.lock left.recs _ there, runs_go_on s q m v left.lock left.recs _ there)

pub after_drain_by_value : AfterDrainByValue
after_drain_by_value s q m v count L recs rows reached d is over =
    let none = none_in s (drain_refusal_of s count L (take count recs)) d.drained.refusal (drain_told_by_value s count L recs d is) over.accepted in
    let there = ReachedByValue.drained reached d over.entries is none over.order in
    (demand2_by_value s q m v count d.drained.lock d.recs _ there, runs_go_on_by_value s q m v count d.drained.lock d.recs _ there)
