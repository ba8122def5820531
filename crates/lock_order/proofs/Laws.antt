-- The laws of the entries: what is written is machine's drain order, of which demand 3 is known.
use Prim.Native.Nat.{ℕ, ◌*◌, ◌≤◌}
use mathlib.Core.Path.{◌≡◌, refl, ap, sym, ◌∙◌}
use mathlib.Core.Bool.{Bool, true, false}
use mathlib.Core.List.{List, [], ◌∷◌}
use native.Mathlib.Omega.{arith}
use lib.Dec.{eqb, ltb}
use lib.ListN.{length, take, drop, length-append, length-drop}
use lib.Seq.{take_at, drop_at, take-length}
use package.borrow.Author.Tests.{eqb-true, eqb-false, ltb-true, ltb-false}
use Rattle.machine.specs.Lists.{Lent, scripts_of, beside}
use Rattle.machine.specs.Run.{run, accepted, entries}
use Rattle.machine.specs.Drain.{drain, DrainLeft}
use Rattle.machine.specs.Ends.{AllAccepted, Drained}
use Rattle.machine.specs.declared.Lock.{Lock}
use Rattle.machine.specs.declared.Rec.{Rec}
use Rattle.machine.specs.declared.Row.{Row}
use Rattle.machine.specs.declared.Refusal.{Refusal}
use Rattle.machine.proofs.Order.{order_is_one}
use Rattle.machine.proofs.Drains.{demand_3}
use Rattle.machine.proofs.RunRule.{rows_length}
use Rattle.lock.specs.ByValue.{run_refusal_of, run_of, drain_refusal_of, drain_of}
use Rattle.lock.proofs.Refusing.{number_beside}
use Rattle.lock.proofs.Draining.{none_of_run}
use Rattle.lock_order.specs.Order.{order_refusal_of, OrderLeft, order_of}
use Rattle.lock_order.specs.Laws.{entries_of, Ordered, OrderIsDrain, RunOfOrder, RefusedOrder, OrderNumbers}
use Rattle.lock_order.proofs.Ordering.{told, admitted, refused_first, no_room_lem, room_enough, refused_by, made}

-- rows that are all accepted are counted whole
all_counted : (rows : List Row) → AllAccepted rows → accepted rows ≡ length rows
unfolding AllAccepted accepted
all_counted [] a = refl
all_counted (r ∷ rows) a = rw a.0 (omega (arith, all_counted rows a.1))

module _ (s : Lent) (count : ℕ) (L : Lock) (recs : List Rec) where
  abbrev l : List Rec
  l = take count recs

  abbrev k : ℕ
  k = drain_refusal_of s count L l

  abbrev es : List ℕ
  es = (drain (scripts_of s) L l).made

  drain_made : k ≡ 0
      → drain_of s count L recs
      ≡ record { refusal = beside s 0; n = length es; lock = (drain (scripts_of s) L l).lock; recs = (drain (scripts_of s) L l).recs }
  unfolding drain_of
  drain_made none = rw none refl

  drain_number : (drain_of s count L recs).refusal.number ≡ k
  drain_number = ap (λ (r : Refusal). r.number) (told s count L recs) ∙ number_beside s k

  module _ (out : List ℕ) where
    abbrev j : ℕ
    j = order_refusal_of s count L l (length out)

    refusal_is : (order_of s count L recs out).refusal ≡ beside s j
    unfolding order_of
    refusal_is = go (eqb j 0) refl
      where
        go : (b : Bool) → eqb j 0 ≡ b → (order_of s count L recs out).refusal ≡ beside s j
        go true e = rw e (ap (beside s) (sym (eqb-true j 0 e)))
        go false e = rw e refl

    number_is : (order_of s count L recs out).refusal.number ≡ j
    number_is = ap (λ (r : Refusal). r.number) refusal_is ∙ number_beside s j

    drain_none : j ≡ 0 → k ≡ 0
    drain_none none = go (eqb k 0) refl
      where
        go : (b : Bool) → eqb k 0 ≡ b → k ≡ 0
        go true e = eqb-true k 0 e
        go false e = let some = eqb-false k 0 e in absurd (some (sym (refused_first s count L recs (length out) some) ∙ none))

    has_room : j ≡ 0 → length es ≤ length out
    has_room none = go (ltb (length out) (length es)) refl
      where
        go : (b : Bool) → ltb (length out) (length es) ≡ b → length es ≤ length out
        go true e = let full = no_room_lem s count L recs (length out) (drain_none none) (ltb-true _ _ e) in absurd (omega (arith, none, full))
        go false e = ltb-false _ _ e

    entries_are : j ≡ 0 → entries_of s count L recs out ≡ es
    unfolding entries_of
    entries_are none = rw (made s count L recs out none) (take_at es _ (length es) refl)

    module _ (wide : length recs ≡ 16) (none : j ≡ 0) where
      drained : Drained (scripts_of s) L l
      drained = let (sound, tidy) = admitted s count L recs wide (drain_none none) in demand_3 (scripts_of s) L l sound tidy

      ordered : Ordered s count L recs out
      ordered =
          let same = entries_are none in
          let d = drain_made (drain_none none) in
          let left = made s count L recs out none in
          let fits = has_room none in
          record {
            many = rw (same, d) refl;
            n = rw (left, d) refl;
            told = rw left refl;
            bounded = rw (same, left) drained.bounded;
            order = rw (same, d) drained.order;
            one = λ fs M m o. rw same (order_is_one (scripts_of s) L M (drain (scripts_of s) L l).lock l m (drain (scripts_of s) L l).recs fs es o drained.order).0;
            accepted = rw same drained.accepted;
            same_lock = rw (same, d) drained.lock;
            same_recs = rw (same, d) drained.recs;
            size = rw left (omega (arith, length-append es (drop (length es) out), length-drop (length es) out, fits));
            behind = rw left (drop_at es (drop (length es) out) (length es) refl);
          }

      run_is : (budget : ℕ) (trace : List ℕ) → length es ≤ budget → 6 * length es ≤ length trace
          → let left = run_of s count L recs es budget trace in
          let w = drain (scripts_of s) L l in
          (left.refusal.number ≡ 0) × (left.n ≡ length es) × (left.done ≡ length es) × (left.lock ≡ w.lock) × (left.recs ≡ w.recs)
      unfolding run_of
      run_is budget trace enough room =
          let run_none : run_refusal_of s count L l ≡ 0 = none_of_run s count L l (drain_none none) in
          let all : entries budget es trace ≡ length es = omega arith in
          let rows = (run (scripts_of s) L l es).rows in
          rw (run_none, all, take-length es) (
            number_beside s 0,
            refl,
            all_counted rows drained.accepted ∙ rows_length (scripts_of s) L l es,
            drained.lock,
            drained.recs,
          )

pub order_is_drain : OrderIsDrain
order_is_drain s count L recs out wide none = ordered s count L recs out wide (sym (number_is s count L recs out) ∙ none)

pub run_of_order : RunOfOrder
run_of_order s count L recs out budget trace wide none enough room =
    let zero = sym (number_is s count L recs out) ∙ none in
    let many : (order_of s count L recs out).n ≡ length (drain (scripts_of s) L (take count recs)).made = ap (λ (x : OrderLeft). x.n) (made s count L recs out zero) in
    rw (entries_are s count L recs out zero, drain_made s count L recs (drain_none s count L recs out zero))
    (run_is s count L recs out wide zero budget trace (omega (arith, many)) (omega (arith, many)))

pub refused_order : RefusedOrder
refused_order s count L recs out some =
    let left = refused_by s count L recs out (order_refusal_of s count L (take count recs) (length out)) (λ z. some (number_is s count L recs out ∙ z)) refl in
    rw left (refl, refl, refl)

pub order_numbers : OrderNumbers
unfolding beside
order_numbers s count L recs out = (
  λ some.
      let not_none : drain_refusal_of s count L (take count recs) ≡ 0 → ⊥ = λ z. some (drain_number s count L recs ∙ z) in
      refusal_is s count L recs out ∙ ap (beside s) (refused_first s count L recs (length out) not_none) ∙ sym (told s count L recs),
  λ none less.
      let zero = sym (drain_number s count L recs) ∙ none in
      let many : (drain_of s count L recs).n ≡ length (drain (scripts_of s) L (take count recs)).made = ap (λ (x : DrainLeft). x.n) (drain_made s count L recs zero) in
      refusal_is s count L recs out ∙ ap (beside s) (no_room_lem s count L recs (length out) zero (omega (arith, many))),
  λ none fits.
      let zero = sym (drain_number s count L recs) ∙ none in
      let many : (drain_of s count L recs).n ≡ length (drain (scripts_of s) L (take count recs)).made = ap (λ (x : DrainLeft). x.n) (drain_made s count L recs zero) in
      refusal_is s count L recs out
      ∙ ap (beside s) (room_enough s count L recs (length out) zero (omega (arith, many)) ∙ sym zero)
      ∙ sym (told s count L recs),
)
