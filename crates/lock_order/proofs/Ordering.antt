-- The order as it is asked for: what the answer is by the refusal that drain gives, and by the room.
use Prim.Native.Nat.{ℕ, ◌+◌, ◌<◌, ◌≤◌}
use mathlib.Core.Path.{◌≡◌, refl, ap, sym, ◌∙◌}
use mathlib.Core.Bool.{Bool, true, false}
use mathlib.Core.List.{List, [], ◌∷◌, ◌++◌}
use native.Mathlib.Omega.{arith}
use lib.Dec.{eqb, ltb}
use lib.ListN.{length, take, drop}
use lib.Seq.{sets, sets-eq, length-take-le}
use package.borrow.Author.Tests.{eqb-true, ne_eqb, lt-ltb, le-ltb}
use Rattle.machine.specs.Refusals.{gives, lowest}
use Rattle.machine.specs.Lists.{Lent, scripts_of, beside, some_refusal}
use Rattle.machine.specs.Sound.{Sound}
use Rattle.machine.specs.Tidy.{Tidy, bound}
use Rattle.machine.specs.Drain.{drain, drain_refusal}
use Rattle.machine.specs.declared.Lock.{Lock}
use Rattle.machine.specs.declared.Rec.{Rec}
use Rattle.machine.specs.declared.Refusal.{Refusal}
use Rattle.machine.proofs.Refusals.{passed}
use Rattle.machine.proofs.Exact.{drain_admits}
use Rattle.lock.specs.ByValue.{drain_checks_of, drain_refusal_of, drain_of, bound_of}
use Rattle.std.specs.Prelude.{None, Some}
use Rattle.lock.specs.Drain.{drain_told}
use Rattle.lock.specs.declared.drain.Drained.{Drained}
use Rattle.lock.proofs.Told.{earlier, later, is_none, is_some, none_some, some_some}
use Rattle.lock.proofs.Refusing.{none_refused}
use Rattle.lock.proofs.Draining.{none_of_run}
use Rattle.lock_order.specs.Order.{no_room, order_refusal_of, order_made, order_refused, order_of, answer_of}
use Rattle.lock_order.specs.Write.{within}
use Rattle.lock_order.specs.declared.Answer.{Answer}
use Rattle.lock_order.proofs.Enough.{is_drain}

module _ (s : Lent) (count : ℕ) (L : Lock) (recs : List Rec) where
  abbrev l : List Rec
  l = take count recs

  abbrev k : ℕ
  k = drain_refusal_of s count L l

  abbrev es : List ℕ
  es = (drain (scripts_of s) L l).made

  -- ---- what drain tells
  pub told : (drain_of s count L recs).refusal ≡ beside s k
  unfolding drain_of
  told = go (eqb k 0) refl
    where
      go : (b : Bool) → eqb k 0 ≡ b → (drain_of s count L recs).refusal ≡ beside s k
      go true e = rw e (ap (beside s) (sym (eqb-true k 0 e)))
      go false e = rw e refl

  pub counted : k ≡ 0 → (drain_of s count L recs).n ≡ length es
  unfolding drain_of
  counted none = rw none refl

  bounded : k ≡ 0 → bound_of s count L recs ≡ bound (scripts_of s) l
  unfolding bound_of
  bounded none = rw none refl

  -- ---- a state that drain does not refuse
  module _ (wide : length recs ≡ 16) (none : k ≡ 0) where
    few : count ≤ length recs
    few = let (same, ready) = none_refused s count L recs (none_of_run s count L l none) in omega (arith, same, ready.threads)

    pub same_drain : drain_refusal s L l ≡ 0
    unfolding drain_refusal drain_refusal_of
    same_drain = rw (length-take-le count recs few) none

    pub admitted : Sound (scripts_of s) L l × Tidy (scripts_of s) L l
    admitted = drain_admits s L l same_drain

    pub within_is : (n : ℕ) → n ≡ length es → within n (scripts_of s) L l ≡ drain (scripts_of s) L l
    within_is n e = rw e (is_drain (scripts_of s) L l admitted.0 admitted.1)

  -- ---- the refusal of the order
  module _ (room : ℕ) where
    pub refused_first : (k ≡ 0 → ⊥) → order_refusal_of s count L l room ≡ k
    unfolding order_refusal_of drain_refusal_of
    refused_first some = earlier (drain_checks_of s count L l) _ some

    pub refused_last : k ≡ 0 → order_refusal_of s count L l room ≡ lowest (gives no_room (ltb room (length es)) ∷ [])
    unfolding order_refusal_of drain_refusal_of
    refused_last none = later (drain_checks_of s count L l) _ (passed 0 (drain_checks_of s count L l) (omega arith) none)

    pub no_room_lem : k ≡ 0 → room < length es → order_refusal_of s count L l room ≡ no_room
    unfolding lowest
    no_room_lem none less = refused_last none ∙ rw (lt-ltb room (length es) less) refl

    pub room_enough : k ≡ 0 → length es ≤ room → order_refusal_of s count L l room ≡ 0
    unfolding lowest
    room_enough none fits = refused_last none ∙ rw (le-ltb room (length es) fits) refl

  -- ---- the answer and the list
  module _ (out : List ℕ) where
    pub refused_by : (j : ℕ) → (j ≡ 0 → ⊥) → order_refusal_of s count L l (length out) ≡ j → order_of s count L recs out ≡ order_refused s j out
    unfolding order_of
    refused_by j some is = rw (is, ne_eqb j 0 some) refl

    pub made : order_refusal_of s count L l (length out) ≡ 0 → order_of s count L recs out ≡ order_made s L l out
    unfolding order_of
    made is = rw is refl

    -- drain has told d
    module _ (d : Drained) (is : d ≡ drain_told (drain_of s count L recs)) where
      refusal_is : d.refusal ≡ some_refusal (beside s k)
      refusal_is = ap (λ (x : Drained). x.refusal) is ∙ ap some_refusal told

      pub none_is : d.refusal ≡ None → k ≡ 0
      none_is none = none_some s k (sym refusal_is ∙ none)

      pub n_is : d.refusal ≡ None → d.n ≡ length es
      n_is none = ap (λ (x : Drained). x.n) is ∙ counted (none_is none)

      pub left_alone : (why : Refusal) → d.refusal ≡ Some why
          → (◌≡◌ {A = Answer} (record { refusal = Some why; n = 0; bound = 0 }) (answer_of (order_of s count L recs out))) × (out ≡ (order_of s count L recs out).out)
      left_alone why e =
          let (some, same) = some_some s k why (sym refusal_is ∙ e) in
          rw (refused_by k some (refused_first (length out) some), is_some s k some, same) (refl, refl)

      pub too_small : d.refusal ≡ None → length out < d.n
          → (◌≡◌ {A = Answer} (record { refusal = Some (record { number = 41; thread = 0; place = 0 }); n = 0; bound = 0 }) (answer_of (order_of s count L recs out)))
          × (out ≡ (order_of s count L recs out).out)
      unfolding beside
      too_small none less =
          let less_es : length out < length es = omega (arith, n_is none) in
          rw (refused_by no_room (λ z. omega arith) (no_room_lem (length out) (none_is none) less_es)) (refl, refl)

      pub written : (wide : length recs ≡ 16) (none : d.refusal ≡ None) → d.n ≤ length out → (list : List ℕ)
          → list ≡ sets out 0 (within d.n (scripts_of s) L l).made → (b : ℕ) → b ≡ bound_of s count L recs
          → (◌≡◌ {A = Answer} (record { refusal = None; n = d.n; bound = b }) (answer_of (order_of s count L recs out))) × (list ≡ (order_of s count L recs out).out)
      written wide none fits list e b of_bound =
          let fits_es : length es ≤ length out = omega (arith, n_is none) in
          let same = within_is wide (none_is none) d.n (n_is none) in
          let front : 0 + length es ≡ length es = omega arith in
          let stored : sets out 0 es ≡ es ++ drop (length es) out = sets-eq es out 0 (omega arith) ∙ ap (λ (m : ℕ). es ++ drop m out) front in
          rw (made (room_enough (length out) (none_is none) fits_es), is_none s 0 refl, e, same, stored, n_is none, of_bound, bounded (none_is none)) (refl, refl)
