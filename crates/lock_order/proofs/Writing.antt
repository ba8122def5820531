-- Entries under way: one entry as a run of it, a thread's turn, the turns of a part, the three parts; and what the list gets.
use Prim.Native.Nat.{ℕ, zero, suc, ◌+◌, ◌-◌, ◌<◌, ◌≤◌}
use mathlib.Core.Path.{◌≡◌, refl, sym, ◌∙◌}
use mathlib.Core.Bool.{Bool, true, false}
use mathlib.Core.List.{List, [], ◌∷◌, ◌++◌}
use native.Mathlib.Numerals.{add-one}
use native.Mathlib.Omega.{arith}
use lib.ListN.{length, take, drop, set, length-append, take-append-drop}
use lib.Seq.{sets, take_at, drop_at, length-take-le, length_front, get_or-take}
use Rattle.machine.specs.Words.{unbegun}
use Rattle.machine.specs.Lists.{Lent, scripts_of}
use Rattle.machine.specs.Step.{Scripts, here, step}
use Rattle.machine.specs.Sound.{sound}
use Rattle.machine.specs.Run.{run, entries}
use Rattle.machine.specs.Drain.{Went, stays, after, until, sweep}
use Rattle.machine.specs.declared.Lock.{Lock}
use Rattle.machine.specs.declared.Rec.{Rec}
use Rattle.machine.proofs.Steps.{step_sound}
use Rattle.machine.proofs.RunRule.{step_length}
use Rattle.machine.proofs.SoundTest.{sound_tested}
use Rattle.lock.specs.ByValue.{run_refusal_of, run_of}
use Rattle.lock.specs.Run.{ran_of, Ready}
use Rattle.lock.specs.declared.run.RunReturn.{RunReturn}
use Rattle.lock.proofs.Refusing.{none_refused}
use Rattle.lock.proofs.Sweeps.{until_length}
use Rattle.lock_order.specs.Write.{Able, one_of, went_of}
use Rattle.lock_order.specs.declared.Going.{Going}

-- ---- the list
-- entries stored after entries
pub sets_then : (l : List ℕ) (p : ℕ) (es fs : List ℕ) → sets (sets l p es) (p + length es) fs ≡ sets l p (es ++ fs)
sets_then l p [] fs = let none : p + 0 ≡ p = omega arith in rw none refl
sets_then l p (e ∷ es) fs = let next : p + suc (length es) ≡ suc p + length es = omega arith in rw next (sets_then (set l p e) (suc p) es fs)

-- ---- entries put together
module _ (count : ℕ) (g : Going) where
  pub went_then : (w v : Went) → length w.recs ≡ count → went_of count g (after w.made v) ≡ went_of count (went_of count g w) v
  went_then w v n =
      let used : g.used + length (w.made ++ v.made) ≡ g.used + length w.made + length v.made = omega (arith, length-append w.made v.made) in
      rw (used, drop_at w.recs (drop count g.recs) count n) refl

  pub went_none : went_of count g (stays g.lock (take count g.recs)) ≡ g
  went_none = let used : g.used + 0 ≡ g.used = omega arith in rw (used, take-append-drop count g.recs) refl

-- ---- a run from there is not refused
-- the refusal looks at the state by the test of soundness alone
same_refusal : (s : Lent) (count : ℕ) (L M : Lock) (l m : List Rec) → sound (scripts_of s) M m ≡ sound (scripts_of s) L l
    → run_refusal_of s count M m ≡ run_refusal_of s count L l
unfolding run_refusal_of
same_refusal s count L M l m test = rw test

module _ (s : Lent) (count : ℕ) (g : Going) (able : Able s count g) where
  abbrev S : Scripts
  S = scripts_of s

  abbrev l : List Rec
  l = take count g.recs

  pub as_many : count ≡ length s.lens
  as_many = (none_refused s count g.lock g.recs able.0).0

  pub ready : Ready s g.lock g.recs
  ready = (none_refused s count g.lock g.recs able.0).1

  pub few : count ≤ 16
  few = omega (arith, as_many, ready.threads)

  pub first_size : length l ≡ count
  first_size = length-take-le count g.recs (omega (arith, able.1, few))

  module _ (i : ℕ) where
    abbrev pub next : Going
    next = went_of count g (one_of S g.lock l i)

    front_is : take count next.recs ≡ (step S g.lock l i).recs
    front_is = take_at (step S g.lock l i).recs (drop count g.recs) count (step_length S g.lock l i ∙ first_size)

    pub next_able : Able s count next
    next_able =
        let sound_here = rw (← as_many) at ready.sound in
        let before : sound S g.lock l ≡ true = (sound_tested S g.lock l).1 sound_here in
        let later : sound S (step S g.lock l i).lock (step S g.lock l i).recs ≡ true =
        (sound_tested S (step S g.lock l i).lock (step S g.lock l i).recs).1 (step_sound S g.lock l i sound_here)
        in (
          rw front_is (same_refusal s count g.lock (step S g.lock l i).lock l (step S g.lock l i).recs (later ∙ sym before) ∙ able.0),
          length_front g.recs (step S g.lock l i).recs count (step_length S g.lock l i) ∙ able.1,
        )

    -- a run of the one entry leaves what the step leaves
    pub ran_one : (row : List ℕ) → length row ≡ 6 → (r : RunReturn) → r ≡ ran_of count g.recs (run_of s count g.lock g.recs (i ∷ []) 1 row)
        → ◌≡◌ {A = Going} (record { lock = r.ran.lock; recs = r.recs; used = g.used + 1 }) next
    unfolding run_of run
    ran_one row six r is =
        let one : entries 1 (i ∷ []) row ≡ 1 = omega (arith, six) in
        rw is (rw (able.0, one) refl)

    module _ (there : i < count) where
      -- thread i's record, by the array
      rec_is : here l i ≡ here g.recs i
      rec_is = get_or-take count g.recs i unbegun there

      -- an entry less to make, from the state after it
      pub further : (stop : ℕ → Rec → Bool) (left : ℕ) → 0 < left → stop i (here g.recs i) ≡ false
          → let w = until stop S i (left - 1) next.lock (take count next.recs) in
          until stop S i left g.lock l ≡ after (i ∷ []) w
      unfolding until
      further stop zero lt e = absurd (omega arith)
      further stop (suc f) lt e = let less : suc f - 1 ≡ f = omega arith in rw (less, front_is, rec_is, e) refl

      pub stopped : (stop : ℕ → Rec → Bool) (left : ℕ) → 0 < left → stop i (here g.recs i) ≡ true → until stop S i left g.lock l ≡ stays g.lock l
      unfolding until
      stopped stop zero lt e = absurd (omega arith)
      stopped stop (suc f) lt e = rw (rec_is, e) refl

      pub spent : (stop : ℕ → Rec → Bool) (left : ℕ) → left ≤ 0 → until stop S i left g.lock l ≡ stays g.lock l
      unfolding until
      spent stop zero none = refl
      spent stop (suc f) none = absurd (omega arith)

      -- ---- what the list gets
      abbrev Left : (ℕ → Rec → Bool) → ℕ → Went
      Left stop left = until stop S i left g.lock l

      abbrev More : (ℕ → Rec → Bool) → ℕ → Went
      More stop left = until stop S i (left - 1) next.lock (take count next.recs)

      module _ (stop : ℕ → Rec → Bool) (left : ℕ) (out : List ℕ) where
        pub on_more : 0 < left → stop i (here g.recs i) ≡ false
            → (went_of count next (More stop left) ≡ went_of count g (Left stop left))
            × (sets (set out g.used i) next.used (More stop left).made ≡ sets out g.used (Left stop left).made)
            × (length (Left stop left).made ≡ suc (length (More stop left).made))
        on_more lt e =
            let one : g.used + 1 ≡ suc g.used = omega arith in
            rw (further stop left lt e) (
              sym (went_then count g (one_of S g.lock l i) (More stop left) (step_length S g.lock l i ∙ first_size)),
              rw one refl,
              refl,
            )

-- no entries are left
pub over : (count : ℕ) (g : Going) (w : Went) (out : List ℕ) → w ≡ stays g.lock (take count g.recs)
    → (g ≡ went_of count g w) × (out ≡ sets out g.used w.made)
over count g w out none = rw none (sym (went_none count g), refl)

-- ---- a part
pub sweep_length : (stop : ℕ → Rec → Bool) (S : Scripts) (f k c : ℕ) (L : Lock) (l : List Rec) → length (sweep stop S f k c L l).recs ≡ length l
unfolding sweep
sweep_length stop S f k zero L l = refl
sweep_length stop S f k (suc c) L l =
    let w = until stop S k f L l in
    sweep_length stop S f (suc k) c w.lock w.recs ∙ until_length stop S k f L l

module _ (s : Lent) (count : ℕ) (g : Going) (able : Able s count g) (stop : ℕ → Rec → Bool) (f k : ℕ) (out : List ℕ) where
  -- the turns from thread j on
  abbrev rest_of : Going → ℕ → Went
  rest_of x j = sweep stop (scripts_of s) f j (count - j) x.lock (take count x.recs)

  abbrev turn_of : Went
  turn_of = until stop (scripts_of s) k f g.lock (take count g.recs)

  -- thread k has its turn
  pub turned : k < count
      → let x = went_of count g turn_of in
      (went_of count x (rest_of x (k + 1)) ≡ went_of count g (rest_of g k))
      × (sets (sets out g.used turn_of.made) x.used (rest_of x (k + 1)).made ≡ sets out g.used (rest_of g k).made)
      × (length turn_of.made ≤ length (rest_of g k).made)
  unfolding sweep
  turned lt =
      let w = turn_of in
      let same : length w.recs ≡ count = until_length stop (scripts_of s) k f g.lock (take count g.recs) ∙ first_size s count g able in
      let more : count - k ≡ suc (count - (k + 1)) = omega arith in
      let v = sweep stop (scripts_of s) f (suc k) (count - suc k) w.lock w.recs in
      rw (more, take_at w.recs (drop count g.recs) count same, add-one) (
        sym (went_then count g w v same),
        sets_then out g.used w.made v.made,
        omega (arith, length-append w.made v.made),
      )

  -- all had their turns
  pub all_turned : count ≤ k → rest_of g k ≡ stays g.lock (take count g.recs)
  unfolding sweep
  all_turned over = let none : count - k ≡ 0 = omega arith in rw none refl
