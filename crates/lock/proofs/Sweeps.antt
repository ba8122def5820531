-- A drain under way: entries put together, one entry of the code as the definition's step, a thread's turn, and the turns of a part.
use Prim.Native.Nat.{ℕ, zero, suc, ◌+◌, ◌-◌, ◌<◌, ◌≤◌, min}
use mathlib.Core.Path.{◌≡◌, refl, ap, sym, ◌∙◌}
use mathlib.Core.Bool.{Bool, true, false}
use mathlib.Core.List.{List, [], ◌∷◌, ◌++◌}
use native.Mathlib.Numerals.{add-one}
use native.Mathlib.Omega.{arith}
use lib.ListN.{length, take, drop, set, get_or, length-append, take-append-drop}
use lib.Seq.{take_at, drop_at, length-take-le, length_front, set-append_left, get_or-take}
use Rattle.machine.specs.Words.{unbegun}
use Rattle.machine.specs.Lists.{Lent, start, scripts_of}
use Rattle.machine.specs.Step.{Scripts, busy_of, here, step}
use Rattle.machine.specs.Drain.{Went, stays, after, until, sweep}
use Rattle.machine.specs.declared.Lock.{Lock}
use Rattle.machine.specs.declared.Rec.{Rec}
use Rattle.machine.proofs.Sums.{sum_le, sum_const, sum_part}
use Rattle.machine.proofs.Moves.{either_way}
use Rattle.machine.proofs.Steps.{step_sound}
use Rattle.machine.proofs.RunRule.{step_length}
use Rattle.machine.proofs.Accesses.{others_stay}
use Rattle.lock_scripts.proofs.Starts.{capped}
use Rattle.lock.specs.Room.{Room}
use Rattle.lock.specs.Entered.{entered_of}
use Rattle.lock.specs.declared.entered.Entered.{Entered}
use Rattle.lock.specs.Drain.{UnderWay, going_of}
use Rattle.lock.specs.declared.drain.Going.{Going}
use Rattle.lock.proofs.Room.{room}
use Rattle.lock.proofs.Stepped.{entered, step_entered}

-- ---- entries put together
-- what the entries of v, after those of w, make of a drain under way
pub going_then : (s : Lent) (g : Going) (w v : Went) → length w.recs ≡ length s.lens
    → going_of s g (after w.made v) ≡ going_of s (going_of s g w) v
going_then s g w v n =
    let used : g.used + length (w.made ++ v.made) ≡ g.used + length w.made + length v.made = omega (arith, length-append w.made v.made) in
    rw (used, drop_at w.recs (drop (length s.lens) g.recs) (length s.lens) n) refl

-- no entries
pub going_none : (s : Lent) (g : Going) → UnderWay s g → going_of s g (stays g.lock (take (length s.lens) g.recs)) ≡ g
going_none s g r =
    let used : g.used + 0 ≡ g.used = omega arith in
    rw (used, ← r.busy, take-append-drop (length s.lens) g.recs) refl

-- ---- one entry
-- what an entry leaves
abbrev one : Scripts → Lock → List Rec → ℕ → Went
one S L l i = record { lock = (step S L l i).lock; recs = (step S L l i).recs; made = i ∷ [] }

module _ (s : Lent) (g : Going) (ready : UnderWay s g) where
  pub first_size : length (take (length s.lens) g.recs) ≡ length s.lens
  first_size = length-take-le (length s.lens) g.recs (omega (arith, ready.size, ready.state.threads))

  pub busy_most : g.busy ≤ 16
  busy_most =
      let l : List Rec = take (length s.lens) g.recs in
      omega (arith, ready.busy, ready.state.threads, first_size, sum_le (λ k r. busy_of r) (λ k r. 1) (λ k r. omega arith) 0 l, sum_const 1 0 l)

  module _ (i : ℕ) (there : i < length s.lens) where
    abbrev S : Scripts
    S = scripts_of s

    abbrev l : List Rec
    l = take (length s.lens) g.recs

    abbrev pub next : Going
    next = going_of s g (one S g.lock l i)

    within : i < length l
    within = omega (arith, first_size)

    -- thread i's record, by the array
    rec_is : here l i ≡ here g.recs i
    rec_is = get_or-take (length s.lens) g.recs i unbegun there

    pub own_busy : busy_of (here g.recs i) ≤ g.busy
    own_busy = omega (arith, ready.busy, ap busy_of rec_is, sum_part (λ k r. busy_of r) l i unbegun within)

    pub has_room : (here g.recs i).at < S.len i → Room g.lock (here g.recs i)
    has_room more = rw (← rec_is) (room S g.lock l i ready.state.sound within (rw rec_is more) (ready.state.short i there) ready.wide)

    -- what the code of the entry is given is what the definition reads
    pub read_is : (from : ℕ) → from ≡ min (start s.lens i) (length s.ops)
        → entered_of g.lock (here g.recs i) i (S.len i) g.busy (get_or s.ops (from + (here g.recs i).at) 0) (get_or s.vals (from + (here g.recs i).at) 0)
        ≡ entered S g.lock l i
    read_is from cut =
        rw (rec_is, cut, capped s.ops (start s.lens i) (here g.recs i).at, ← ready.state.values, capped s.vals (start s.lens i) (here g.recs i).at, ready.busy)
        refl

    -- what the code keeps of the entry is what the definition leaves
    pub next_is : (e : Entered) → e ≡ entered S g.lock l i
        → ◌≡◌ {A = Going} (record { lock = e.lock; recs = set g.recs i e.rec; busy = e.busy; used = g.used + 1 }) next
    next_is e is =
        let x = step_entered S g.lock l i within in
        let whole = rw (take-append-drop (length s.lens) g.recs) at (set-append_left l (drop (length s.lens) g.recs) i e.rec within) in
        λ j.
        record {
          lock = (ap (λ (t : Entered). t.lock) is ∙ sym x.0) j;
          recs = (whole ∙ ap (λ (m : List Rec). m ++ drop (length s.lens) g.recs) (ap (λ (t : Entered). set l i t.rec) is ∙ sym x.1)) j;
          busy = (ap (λ (t : Entered). t.busy) is ∙ sym x.3) j;
          used = g.used + 1;
        }

    front_is : take (length s.lens) next.recs ≡ (step S g.lock l i).recs
    front_is = take_at (step S g.lock l i).recs (drop (length s.lens) g.recs) (length s.lens) (step_length S g.lock l i ∙ first_size)

    next_ready : UnderWay s next
    next_ready =
        record {
          state =
              record {
                threads = ready.state.threads;
                short = ready.state.short;
                whole = ready.state.whole;
                values = ready.state.values;
                sound = rw front_is (step_sound S g.lock l i ready.state.sound);
              };
          busy = rw front_is refl;
          size = length_front g.recs (step S g.lock l i).recs (length s.lens) (step_length S g.lock l i) ∙ ready.size;
          wide = rw (others_stay S g.lock l i).1 ready.wide;
        }

    -- an entry less to make, from the state after it
    pub further : (stop : ℕ → Rec → Bool) (left : ℕ) → 0 < left → stop i (here g.recs i) ≡ false
        → UnderWay s next
        × (going_of s next (until stop S i (left - 1) next.lock (take (length s.lens) next.recs)) ≡ going_of s g (until stop S i left g.lock l))
    unfolding until
    further stop zero lt e = absurd (omega arith)
    further stop (suc f) lt e =
        let less : suc f - 1 ≡ f = omega arith in
        let w = until stop S i f (step S g.lock l i).lock (step S g.lock l i).recs in (
          next_ready,
          rw (less, front_is, rec_is, e) (sym (going_then s g (one S g.lock l i) w (step_length S g.lock l i ∙ first_size))),
        )

    -- the thread stops
    pub stopped : (stop : ℕ → Rec → Bool) (left : ℕ) → 0 < left → stop i (here g.recs i) ≡ true → going_of s g (until stop S i left g.lock l) ≡ g
    unfolding until
    stopped stop zero lt e = absurd (omega arith)
    stopped stop (suc f) lt e = rw (rec_is, e) (going_none s g ready)

    -- no entry is left to make
    pub spent : (stop : ℕ → Rec → Bool) (left : ℕ) → left ≤ 0 → going_of s g (until stop S i left g.lock l) ≡ g
    unfolding until
    spent stop zero none = going_none s g ready
    spent stop (suc f) none = absurd (omega arith)

-- ---- a part
pub until_length : (stop : ℕ → Rec → Bool) (S : Scripts) (i f : ℕ) (L : Lock) (l : List Rec) → length (until stop S i f L l).recs ≡ length l
unfolding until
until_length stop S i zero L l = refl
until_length stop S i (suc f) L l =
    either_way (λ (w : Went). length w.recs ≡ length l) (stop i (here l i)) (λ e. refl)
    (λ e. until_length stop S i f (step S L l i).lock (step S L l i).recs ∙ step_length S L l i)

module _ (s : Lent) (g : Going) (ready : UnderWay s g) (stop : ℕ → Rec → Bool) (f : ℕ) where
  -- the part from thread k on
  abbrev pub rest_of : Going → ℕ → Going
  rest_of x k = going_of s x (sweep stop (scripts_of s) f k (length s.lens - k) x.lock (take (length s.lens) x.recs))

  -- thread k has its turn
  pub turned : (k : ℕ) → k < length s.lens
      → let x = going_of s g (until stop (scripts_of s) k f g.lock (take (length s.lens) g.recs)) in
      rest_of x (k + 1) ≡ rest_of g k
  unfolding sweep
  turned k lt =
      let n = length s.lens in
      let l : List Rec = take n g.recs in
      let w = until stop (scripts_of s) k f g.lock l in
      let same : length w.recs ≡ n = until_length stop (scripts_of s) k f g.lock l ∙ first_size s g ready in
      let more : n - k ≡ suc (n - (k + 1)) = omega arith in
      rw (more, take_at w.recs (drop n g.recs) n same, add-one)
      (sym (going_then s g w (sweep stop (scripts_of s) f (suc k) (n - suc k) w.lock w.recs) same))

  -- all had their turns
  pub all_turned : (k : ℕ) → length s.lens ≤ k → rest_of g k ≡ g
  unfolding sweep
  all_turned k over = let none : length s.lens - k ≡ 0 = omega arith in rw none (going_none s g ready)
