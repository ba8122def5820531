-- Drain as it is called, demand 3 of every state that a schedule reaches from setup, and the most entries that there can be.
use Prim.Native.Nat.{ℕ, ◌<◌, ◌≤◌}
use mathlib.Core.Path.{◌≡◌, refl}
use mathlib.Core.Bool.{Bool, true, false}
use mathlib.Core.List.{List}
use native.Mathlib.Nat.{lt_of_not-le}
use native.Mathlib.Omega.{arith}
use lib.Dec.{eqb}
use lib.ListN.{length}
use package.borrow.Author.Tests.{eqb-true, eqb-false, ne_eqb}
use Rattle.machine.specs.Names.{script_too_long, wrong_lengths, unsound, most_threads}
use Rattle.machine.specs.Lists.{Lent, scripts_of}
use Rattle.machine.specs.Tidy.{bound}
use Rattle.machine.specs.Drain.{drain_refusal, drain_lent}
use Rattle.machine.specs.When.{for_too_long, records, AtRun, AtDrain}
use Rattle.machine.specs.Ends.{DrainRule, RefusedDrain, AtMost3120}
use Rattle.machine.specs.Demands.{Demand3FromSetup}
use Rattle.machine.specs.declared.Lock.{Lock}
use Rattle.machine.specs.declared.Rec.{Rec}
use Rattle.machine.proofs.Cost.{bound_most}
use Rattle.machine.proofs.Runs.{always_sound}
use Rattle.machine.proofs.Exact.{run_exact, drain_exact, drain_admits}
use Rattle.machine.proofs.Drains.{demand_3}

pub drain_rule : DrainRule
unfolding drain_lent
drain_rule s L l none =
    let a = drain_admits s L l none in
    rw none (refl, refl, refl, refl, a.0, demand_3 (scripts_of s) L l a.0 a.1)

pub refused_drain : RefusedDrain
unfolding drain_lent
refused_drain s L l some = rw (ne_eqb (drain_refusal s L l) 0 some) (refl, refl, refl, refl)

pub demand_3_from_setup : Demand3FromSetup
demand_3_from_setup S q m v n top ok schedule tidy = demand_3 S _ _ (always_sound S q m v n top ok schedule) tidy

at_most : {m n : ℕ} → (m < n → ⊥) → n ≤ m
at_most h = omega (arith, lt_of_not-le h)

-- what run takes: scripts of at most 64 operations, and at most sixteen records
few_and_short : (s : Lent) (L : Lock) (l : List Rec) → ((k : ℕ) → AtRun s L l k → ⊥) → bound (scripts_of s) l ≤ 3120
few_and_short s L l nothing =
    bound_most s l
    (λ t h. at_most (λ long. nothing script_too_long (AtRun.lists (for_too_long t h long))))
    (go (eqb (length l) (length s.lens)) refl)
  where
    few : length s.lens ≤ most_threads
    few = at_most (λ many. nothing unsound (AtRun.many_threads many))

    go : (b : Bool) → eqb (length l) (length s.lens) ≡ b → length l ≤ most_threads
    go true e = omega (arith, eqb-true (length l) (length s.lens) e, few)
    go false e = absurd (nothing wrong_lengths (AtRun.lists (records (eqb-false (length l) (length s.lens) e))))

drain_most : (s : Lent) (L : Lock) (l : List Rec) (b : Bool) → eqb (drain_refusal s L l) 0 ≡ b → (drain_lent s L l).n ≤ 3120
drain_most s L l true e =
    let none = eqb-true (drain_refusal s L l) 0 e in
    let rule = drain_rule s L l none in
    omega (arith, rule.1, rule.5.bounded, few_and_short s L l (λ k w. (drain_exact s L l).1.0 none k (AtDrain.as_run w)))
drain_most s L l false e = omega (arith, (refused_drain s L l (eqb-false (drain_refusal s L l) 0 e)).1)

pub at_most_3120 : AtMost3120
at_most_3120 s L l = (λ none. few_and_short s L l ((run_exact s L l).1.0 none), drain_most s L l (eqb (drain_refusal s L l) 0) refl)
