-- The refusal of a run: those of the lists first, then that of the state. And what a state has that is not refused.
use Prim.Native.Nat.{ℕ, ◌+◌, ◌<◌, ◌≤◌, min}
use mathlib.Core.Path.{◌≡◌, refl, ap, sym, ◌∙◌}
use mathlib.Core.Bool.{Bool, true, false, ◌||◌, not, true≢false, or-true, and-eq-true_iff}
use mathlib.Core.List.{List, [], ◌∷◌}
use native.Mathlib.Omega.{arith}
use lib.Dec.{eqb, ltb, leb}
use lib.ListN.{length, get_or, take, take-append-drop}
use package.borrow.Author.Tests.{ltb-false, leb-true, leb-false, eqb-true, lt-ltb, le-ltb, ne_eqb, not-false}
use Rattle.machine.specs.Names.{unsound, most_threads, longest_script}
use Rattle.machine.specs.Refusals.{gives, lowest}
use Rattle.machine.specs.Lists.{Lent, start, scripts_of, long_thread, list_checks, beside, answered}
use Rattle.lock_scripts.proofs.Starts.{start_later, start_last}
use Rattle.machine.specs.Sound.{sound}
use Rattle.machine.specs.Run.{entries}
use Rattle.machine.specs.declared.Lock.{Lock}
use Rattle.machine.specs.declared.Rec.{Rec}
use Rattle.machine.specs.declared.Refusal.{Refusal}
use Rattle.std.specs.Prelude.{Ok, Err, Some}
use Rattle.lock_words.specs.Refused.{alone}
use Rattle.machine.proofs.Refusals.{passed, Passed}
use Rattle.machine.proofs.Find.{first}
use Rattle.machine.proofs.SoundTest.{sound_tested}
use Rattle.lock.specs.ByValue.{run_checks_of, run_refusal_of, run_of}
use Rattle.lock.specs.Run.{ran_of, ready_of, Ready}
use Rattle.lock.specs.declared.run.RunReturn.{RunReturn}
use Rattle.lock.proofs.Told.{Told, number_beside, none_told, some_told, is_some, still, fine, applies}
pub use Rattle.lock.proofs.Told.{number_beside, earlier, later}

-- the two tests of an order are each other's opposite
pub leb_ltb : (a b : ℕ) → leb a b ≡ not (ltb b a)
leb_ltb a b = go (leb a b) refl
  where
    go : (t : Bool) → leb a b ≡ t → leb a b ≡ not (ltb b a)
    go true e = rw (e, le-ltb b a (leb-true a b e))
    go false e = rw (e, lt-ltb b a (leb-false a b e))

-- ---- a run's
-- 10 applies
abbrev pub bad : Lent → Lock → List Rec → Bool
bad s L l = eqb (length s.lens) 0 || (ltb most_threads (length s.lens) || not (sound (scripts_of s) L l))

neither : (a b : Bool) → not (a || b) ≡ true → b ≡ false
neither true b e = absurd (true≢false (sym e))
neither false true e = absurd (true≢false (sym e))
neither false false e = refl

-- `none` is answered of the lists
module _ (s : Lent) (count : ℕ) (L : Lock) (l : List Rec) where
  pub lists_refuse : (why : Refusal) → ◌≡◌ {A = Told} (Err why) (answered s (lowest (list_checks s count))) → ◌≡◌ {A = Told} (Err why) (answered s (run_refusal_of s count L l))
  unfolding run_refusal_of
  lists_refuse = still s (list_checks s count) (gives unsound (bad s L l) ∷ [])

  module _ (none : ◌≡◌ {A = Told} (Ok tt) (answered s (lowest (list_checks s count)))) where
    pass : Passed (list_checks s count)
    pass = passed 0 (list_checks s count) (omega arith) (none_told s (lowest (list_checks s count)) none)

    -- as many records as lengths, 16 at most
    pub few_records : not (eqb (length s.lens) 0 || ltb most_threads (length s.lens)) ≡ true → count ≤ 16
    few_records few =
        let (o, vc) = (and-eq-true_iff _ _).0 (not-false _ pass.1.0) in
        let (v, c) = (and-eq-true_iff _ _).0 vc in
        let same : count ≡ length s.lens = eqb-true _ _ c in
        omega (arith, same, ltb-false most_threads (length s.lens) (neither (eqb (length s.lens) 0) (ltb most_threads (length s.lens)) few))

    pub none_refuse : bad s L l ≡ false → ◌≡◌ {A = Told} (Ok tt) (answered s (run_refusal_of s count L l))
    unfolding run_refusal_of
    none_refuse = fine s (list_checks s count) pass unsound (bad s L l)

    pub state_refuses : bad s L l ≡ true → ◌≡◌ {A = Told} (Err (alone unsound)) (answered s (run_refusal_of s count L l))
    unfolding run_refusal_of beside
    state_refuses e = applies s (list_checks s count) pass unsound (bad s L l) e (λ z. absurd (omega arith)) refl

-- ---- the two tests of the state
module _ (s : Lent) (L : Lock) (l : List Rec) where
  pub not_bad : not (eqb (length s.lens) 0 || ltb most_threads (length s.lens)) ≡ true → sound (scripts_of s) L l ≡ true → bad s L l ≡ false
  not_bad few ok = go (eqb (length s.lens) 0) (ltb most_threads (length s.lens)) few
    where
      go : (e m : Bool) → not (e || m) ≡ true → (e || (m || not (sound (scripts_of s) L l))) ≡ false
      go true m h = absurd (true≢false (sym h))
      go false true h = absurd (true≢false (sym h))
      go false false h = rw ok

  pub bad_number : not (eqb (length s.lens) 0 || ltb most_threads (length s.lens)) ≡ false → bad s L l ≡ true
  bad_number many = go (eqb (length s.lens) 0) (ltb most_threads (length s.lens)) many
    where
      go : (e m : Bool) → not (e || m) ≡ false → (e || (m || not (sound (scripts_of s) L l))) ≡ true
      go true m h = refl
      go false true h = refl
      go false false h = absurd (true≢false h)

  pub bad_state : sound (scripts_of s) L l ≡ false → bad s L l ≡ true
  bad_state fails = rw (fails, or-true, or-true)

-- ---- what a state has that is not refused
either_not : (a b c : Bool) → (a || (b || not c)) ≡ false → (b ≡ false) × (c ≡ true)
either_not true b c e = absurd (true≢false e)
either_not false true c e = absurd (true≢false e)
either_not false false c e = (refl, not-false c e)

-- no script is above the longest, where none is found
none_long : (s : Lent) → length s.lens ≤ long_thread s.lens → (i : ℕ) → i < length s.lens → (scripts_of s).len i ≤ longest_script
none_long s none i h = go (ltb longest_script ((scripts_of s).len i)) refl
  where
    go : (b : Bool) → ltb longest_script ((scripts_of s).len i) ≡ b → (scripts_of s).len i ≤ longest_script
    go true e = absurd (omega (arith, first (λ t. ltb longest_script (get_or s.lens t 0)) (length s.lens) i h e))
    go false e = ltb-false _ _ e

pub none_refused : (s : Lent) (count : ℕ) (L : Lock) (recs : List Rec) → run_refusal_of s count L (take count recs) ≡ 0 → (count ≡ length s.lens) × Ready s L recs
unfolding run_refusal_of
none_refused s count L recs none =
    let p = passed 0 (run_checks_of s count L (take count recs)) (omega arith) none in
    let (o, vc) = (and-eq-true_iff _ _).0 (not-false _ p.1.0) in
    let (v, c) = (and-eq-true_iff _ _).0 vc in
    let state = either_not (eqb (length s.lens) 0) _ _ p.1.1.1.0 in
    let same : count ≡ length s.lens = eqb-true _ _ c in (
      same,
      record {
        threads = ltb-false most_threads (length s.lens) state.0;
        short = none_long s (ltb-false (long_thread s.lens) (length s.lens) p.0);
        whole = eqb-true _ _ o;
        values = eqb-true _ _ v ∙ sym (eqb-true _ _ o);
        sound = rw (← same) ((sound_tested (scripts_of s) L (take count recs)).0 state.1);
      },
    )

-- a script lies inside the list of operations, from its start, which may be cut at the list's end
pub inside : (s : Lent) (L : Lock) (recs : List Rec) (i from : ℕ) → Ready s L recs → i < length s.lens → from ≡ min (start s.lens i) (length s.ops)
    → from + (scripts_of s).len i ≤ length s.ops
inside s L recs i from p h cut = omega (arith, p.whole, start_later s.lens i (length s.lens) h, start_last s.lens)

pub no_number : (s : Lent) (k : ℕ) (why : Refusal) → why ≡ beside s k → why.number ≡ 0 → k ≡ 0
no_number s k why is none = sym (number_beside s k) ∙ ap (λ (r : Refusal). r.number) (sym is) ∙ none

-- ---- the run
module _ (s : Lent) (count : ℕ) (L : Lock) (recs : List Rec) (schedule : List ℕ) (budget : ℕ) (trace : List ℕ) where
  pub made : (n : ℕ) → run_refusal_of s count L (take count recs) ≡ 0 → n ≡ entries budget schedule trace
      → run_of s count L recs schedule budget trace ≡ ready_of s L recs schedule n trace
  unfolding run_of
  made n none many = rw (none, (none_refused s count L recs none).0, many) refl

  pub left : (why : Refusal) → ◌≡◌ {A = Told} (Err why) (answered s (run_refusal_of s count L (take count recs)))
      → (◌≡◌ {A = RunReturn} (record { ran = record { refusal = Some why; n = 0; done = 0; lock = L }; recs = recs })
      (ran_of count recs (run_of s count L recs schedule budget trace)))
      × (trace ≡ (run_of s count L recs schedule budget trace).trace)
  unfolding run_of
  left why told =
      let k = run_refusal_of s count L (take count recs) in
      let (some, is) = some_told s k why told in
      let not_none : eqb k 0 ≡ false = ne_eqb k 0 some in
      (rw (not_none, is_some s k some, is, take-append-drop count recs) refl, rw not_none refl)
