-- Drain as code: its refusals, its three parts, and that with a count of at most 16 it is machine's drain of the first records of the
-- array.
use Prim.Native.Nat.{ℕ, zero, suc, ◌+◌, ◌<◌, ◌≤◌}
use mathlib.Core.Path.{◌≡◌, refl, ap, sym, ◌∙◌}
use mathlib.Core.Bool.{Bool, true, false, not}
use mathlib.Core.List.{List, [], ◌∷◌, append_assoc}
use native.Mathlib.Omega.{arith}
use lib.Dec.{eqb}
use lib.ListN.{length, take, drop, take-append-drop}
use lib.Seq.{take_at, length-take-le}
use package.borrow.Author.Tests.{eqb-true, eqb-false, ne_eqb}
use Rattle.machine.specs.Names.{untidy, most_threads}
use Rattle.machine.specs.Refusals.{gives, lowest}
use Rattle.machine.specs.Lists.{Lent, scripts_of, beside, answered}
use Rattle.machine.specs.Step.{Scripts}
use Rattle.machine.specs.Tidy.{tidy, bound}
use Rattle.machine.specs.Drain.{Went, after, until, sweep, enough, drain, drain_refusal, drain_lent}
use Rattle.machine.specs.declared.Lock.{Lock}
use Rattle.machine.specs.declared.Rec.{Rec}
use Rattle.machine.specs.declared.Refusal.{Refusal}
use Rattle.std.specs.Prelude.{Ok, Err, Some, None}
use Rattle.lock_words.specs.Refused.{alone}
use Rattle.machine.proofs.Refusals.{passed, Passed}
use Rattle.lock.specs.ByValue.{run_checks_of, run_refusal_of, drain_refusal_of, drain_of, bound_of}
use Rattle.lock.specs.Run.{Ready}
use Rattle.lock.specs.Drain.{stop_of, start_of, going_of, drained_of}
use Rattle.lock.specs.declared.drain.DrainReturn.{DrainReturn}
use Rattle.lock.specs.declared.drain.Going.{Going}
use Rattle.lock.specs.declared.drain.Stop.{Stop}
use Rattle.lock.specs.declared.drain.Stop.TheVariants.{IdleOrWait, Idle as IdleOnly, End}
use Rattle.lock.proofs.Told.{Told, none_told, some_told, is_none, is_some, earlier, still, fine, applies}
use Rattle.lock.proofs.Refusing.{none_refused}
use Rattle.lock.proofs.Sweeps.{going_then, until_length}

-- ---- the refusals
module _ (s : Lent) (count : ℕ) (L : Lock) (l : List Rec) where
  -- where drain is not refused, run is not
  pub none_of_run : drain_refusal_of s count L l ≡ 0 → run_refusal_of s count L l ≡ 0
  unfolding drain_refusal_of run_refusal_of
  none_of_run none = go (eqb (lowest (run_checks_of s count L l)) 0) refl
    where
      go : (b : Bool) → eqb (lowest (run_checks_of s count L l)) 0 ≡ b → lowest (run_checks_of s count L l) ≡ 0
      go true e = eqb-true _ 0 e
      go false e = let some = eqb-false _ 0 e in absurd (some (sym (earlier (run_checks_of s count L l) _ some) ∙ none))

  pub run_refuses : (why : Refusal) → ◌≡◌ {A = Told} (Err why) (answered s (run_refusal_of s count L l)) → ◌≡◌ {A = Told} (Err why) (answered s (drain_refusal_of s count L l))
  unfolding drain_refusal_of run_refusal_of
  run_refuses = still s (run_checks_of s count L l) (gives untidy (not (tidy (scripts_of s) L l)) ∷ [])

  module _ (none : ◌≡◌ {A = Told} (Ok tt) (answered s (run_refusal_of s count L l))) where
    pass : Passed (run_checks_of s count L l)
    unfolding run_refusal_of
    pass = passed 0 (run_checks_of s count L l) (omega arith) (none_told s (lowest (run_checks_of s count L l)) none)

    pub none_refuse : tidy (scripts_of s) L l ≡ true → ◌≡◌ {A = Told} (Ok tt) (answered s (drain_refusal_of s count L l))
    unfolding drain_refusal_of
    none_refuse e = fine s (run_checks_of s count L l) pass untidy (not (tidy (scripts_of s) L l)) (ap not e)

    pub untidy_refused : tidy (scripts_of s) L l ≡ false → ◌≡◌ {A = Told} (Err (alone untidy)) (answered s (drain_refusal_of s count L l))
    unfolding drain_refusal_of beside
    untidy_refused e = applies s (run_checks_of s count L l) pass untidy (not (tidy (scripts_of s) L l)) (ap not e) (λ z. absurd (omega arith)) refl

-- where run is not refused there are as many records as threads, 16 at most
pub few_records : (s : Lent) (count : ℕ) (L : Lock) (recs : List Rec) → ◌≡◌ {A = Told} (Ok tt) (answered s (run_refusal_of s count L (take count recs))) → count ≤ 16
few_records s count L recs none =
    let (same, ready) = none_refused s count L recs (none_told s (run_refusal_of s count L (take count recs)) none) in
    omega (arith, same, ready.threads)

-- ---- the three parts
pub sweep_length : (stop : ℕ → Rec → Bool) (S : Scripts) (f k c : ℕ) (L : Lock) (l : List Rec) → length (sweep stop S f k c L l).recs ≡ length l
unfolding sweep
sweep_length stop S f k zero L l = refl
sweep_length stop S f k (suc c) L l =
    let w = until stop S k f L l in
    sweep_length stop S f (suc k) c w.lock w.recs ∙ until_length stop S k f L l

-- what one part makes of a drain under way
abbrev pub part_of : Lent → Stop → ℕ → Going → Going
part_of s stop f g =
    let n = length s.lens in
    going_of s g (sweep (stop_of stop (scripts_of s)) (scripts_of s) f 0 n g.lock (take n g.recs))

-- one part more, after those that left w
part_then : (s : Lent) (stop : Stop) (f : ℕ) (g : Going) (w : Went) → length w.recs ≡ length s.lens
    → part_of s stop f (going_of s g w) ≡ going_of s g (after w.made (sweep (stop_of stop (scripts_of s)) (scripts_of s) f 0 (length s.lens) w.lock w.recs))
part_then s stop f g w n = rw (take_at w.recs (drop (length s.lens) g.recs) (length s.lens) n) (sym (going_then s g w _ n))

module _ (s : Lent) (L : Lock) (recs : List Rec) (size : length (take (length s.lens) recs) ≡ length s.lens) where
  abbrev l : List Rec
  l = take (length s.lens) recs

  pub three_parts : (f : ℕ) → f ≡ enough (scripts_of s) l
      → part_of s End f (part_of s IdleOnly f (part_of s IdleOrWait f (start_of s L recs))) ≡ going_of s (start_of s L recs) (drain (scripts_of s) L l)
  unfolding drain
  three_parts f e =
      let S = scripts_of s in
      let n = length s.lens in
      let g = start_of s L recs in
      let a = sweep (stop_of IdleOrWait S) S f 0 n L l in
      let b = sweep (stop_of IdleOnly S) S f 0 n a.lock a.recs in
      let c = sweep (stop_of End S) S f 0 n b.lock b.recs in
      let first : length a.recs ≡ n = sweep_length (stop_of IdleOrWait S) S f 0 n L l ∙ size in
      let second : length b.recs ≡ n = sweep_length (stop_of IdleOnly S) S f 0 n a.lock a.recs ∙ first in
      let whole = append_assoc a.made b.made c.made in
      rw (← e, size)
      (ap (part_of s End f) (part_then s IdleOnly f g a first)
      ∙ part_then s End f g (after a.made b) second
      ∙ ap (λ (es : List ℕ). going_of s g (record { lock = c.lock; recs = c.recs; made = es })) whole)

-- ---- what drain leaves, by what was answered
module _ (s : Lent) (count : ℕ) (L : Lock) (recs : List Rec) where
  pub left_alone : (why : Refusal) → ◌≡◌ {A = Told} (Err why) (answered s (drain_refusal_of s count L (take count recs)))
      → ◌≡◌ {A = DrainReturn} (record { drained = record { refusal = Some why; n = 0; lock = L }; recs = recs }) (drained_of count recs (drain_of s count L recs))
  unfolding drain_of
  left_alone why told =
      let k = drain_refusal_of s count L (take count recs) in
      let (some, is) = some_told s k why told in
      rw (ne_eqb k 0 some, is_some s k some, is, take-append-drop count recs) refl

  pub no_bound : (why : Refusal) → ◌≡◌ {A = Told} (Err why) (answered s (drain_refusal_of s count L (take count recs))) → 0 ≡ bound_of s count L recs
  unfolding bound_of
  no_bound why told =
      let k = drain_refusal_of s count L (take count recs) in
      rw (ne_eqb k 0 (some_told s k why told).0) refl

  module _ (none : ◌≡◌ {A = Told} (Ok tt) (answered s (drain_refusal_of s count L (take count recs)))) where
    zero_is : drain_refusal_of s count L (take count recs) ≡ 0
    zero_is = none_told s (drain_refusal_of s count L (take count recs)) none

    both : (count ≡ length s.lens) × Ready s L recs
    both = none_refused s count L recs (none_of_run s count L (take count recs) zero_is)

    pub ready : Ready s L recs
    ready = both.1

    pub made : (g : Going) → g ≡ going_of s (start_of s L recs) (drain (scripts_of s) L (take (length s.lens) recs))
        → ◌≡◌ {A = DrainReturn} (record { drained = record { refusal = None; n = g.used; lock = g.lock }; recs = g.recs }) (drained_of count recs (drain_of s count L recs))
    unfolding drain_of
    made g e =
        let w = drain (scripts_of s) L (take (length s.lens) recs) in
        let used : 0 + length w.made ≡ length w.made = omega arith in
        rw (zero_is, both.0, is_none s 0 refl, e, used) refl

    pub bound_told : bound (scripts_of s) (take (length s.lens) recs) ≡ bound_of s count L recs
    unfolding bound_of
    bound_told = rw (zero_is, both.0) refl

-- ---- with a count of at most 16
module _ (s : Lent) (count : ℕ) (L : Lock) (recs : List Rec) where
  pub drain_by_value : count ≤ length recs → drain_of s count L recs ≡ drain_lent s L (take count recs)
  unfolding drain_of drain_lent drain_refusal_of drain_refusal
  drain_by_value few = rw (length-take-le count recs few) refl

  pub too_many : most_threads < count → drain_refusal_of s count L (take count recs) ≡ 0 → ⊥
  too_many many none =
      let (same, ready) = none_refused s count L recs (none_of_run s count L (take count recs) none) in
      omega (arith, ready.threads)
