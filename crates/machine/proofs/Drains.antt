-- Demand 3: from a sound and tidy state drain follows its order, refuses nothing, ends every script within the plain cost and three
-- entries a thread, and leaves the flag clear, the count 0 and the cell full.
use Prim.Native.Nat.{ℕ, ◌+◌, ◌-◌, ◌*◌, ◌<◌, ◌≤◌}
use mathlib.Core.Path.{◌≡◌, refl, ap, sym, subst, ◌∙◌}
use mathlib.Core.Logic.{◌≢◌}
use mathlib.Core.Bool.{Bool, true, false, ◌||◌, true≢false, or-true, or-false}
use mathlib.Core.List.{List, ◌++◌}
use native.Mathlib.Omega.{arith, ne_cases}
use lib.ListN.{length, set, length-append}
use lib.Seq.{set-get_or}
use package.borrow.Author.Tests.{not-true, not-false, eq-eqb, leb-true, leb-false}
use Rattle.cell.specs.Value.{is_full}
use Rattle.machine.specs.Words.{bit, is, is_at, unbegun}
use Rattle.machine.specs.Step.{Scripts, here, sum, busy_of, unread}
use Rattle.machine.specs.Sound.{tally}
use Rattle.machine.specs.Tidy.{cost, bound}
use Rattle.machine.specs.Drain.{not_waiting, waiting, all, at_idle, at_end, at_idle_or_wait, Went, sweep, enough, drain}
use Rattle.machine.specs.Ends.{Drained, Demand3}
use Rattle.machine.specs.declared.Did.{Did}
use Rattle.machine.specs.declared.Lock.{Lock}
use Rattle.machine.specs.declared.Rec.{Rec}
use Rattle.machine.specs.declared.Place.{Place}
use Rattle.machine.specs.declared.Place.TheVariants.{Idle, ReadTry, ReadCheck, ReadBack, Reading, WriteWait, WriteTake, Writing, WritePut}
use Rattle.machine.proofs.Sums.{sum_le, sum_add, sum_const, sum_zeros, all_set}
use Rattle.machine.proofs.Keep.{bit_le, bit_true, bit_false}
use Rattle.machine.proofs.Steps.{MoveOf, rest, tally_split}
use Rattle.machine.proofs.Refusals.{either, not_so}
use Rattle.machine.proofs.Every.{says_bit}
use Rattle.machine.proofs.ExactEntry.{is_same}
use Rattle.machine.proofs.Falls.{unfinished, up, up', ahead, Alone, Still, falls, falls_alone}
use Rattle.machine.proofs.Order.{accepts_then, accepts_run}
use Rattle.machine.proofs.Sweep.{Base, small, Work, Part, measure, Swept, part}

ruleset tests = (arith, bit_true, bit_false)

bit_zero : (b : Bool) → bit b ≡ 0 → b ≡ false
bit_zero b e = not_so b (λ t. omega (arith, bit_true b t))

-- ---- where no record is
absent : (p : Place) (l : List Rec) → ((j : ℕ) → j < length l → is_at p (here l j) ≡ 0) → sum (λ k r. is_at p r) 0 l ≡ 0
absent p l h = sum_zeros (λ k r. is_at p r) unbegun l h

abbrev IsIdle : ℕ → Rec → Type 0
IsIdle j r = r.place ≡ Idle

abbrev IsOut : ℕ → Rec → Type 0
IsOut j r = at_idle_or_wait j r ≡ true

elsewhere : (p o : Place) → is o p ≡ false → (r : Rec) → r.place ≡ o → is_at p r ≡ 0
elsewhere p o ne r e = ap (λ (x : Place). bit (is x p)) e ∙ ap bit ne

out_elsewhere : (p : Place) → is Idle p ≡ false → is WriteWait p ≡ false → (r : Rec) → IsOut 0 r → is_at p r ≡ 0
out_elsewhere p i w r =
    either (is r.place Idle) (is r.place WriteWait) (λ e. elsewhere p Idle i r (is_same _ _ e)) (λ e. elsewhere p WriteWait w r (is_same _ _ e))

-- all records are Idle
pub idle_still : (S : Scripts) (l : List Rec) → ((j : ℕ) → j < length l → IsIdle j (here l j)) → Still (tally S l)
idle_still S l idle =
    omega (
      arith,
      none ReadCheck refl,
      none ReadBack refl,
      none Reading refl,
      none WriteWait refl,
      none WriteTake refl,
      none Writing refl,
      none WritePut refl,
    )
  where
    none : (p : Place) → is Idle p ≡ false → sum (λ k r. is_at p r) 0 l ≡ 0
    none p ne = absent p l (λ j q. elsewhere p Idle ne (here l j) (idle j q))

-- all are Idle or at WriteWait: no reader is counted
out_unread : (S : Scripts) (L : Lock) (l : List Rec) → Base S L l → ((j : ℕ) → j < length l → IsOut j (here l j)) → L.rc.0 ≡ 0
out_unread S L l b out = omega (arith, b.sound.counts.count, b.tidy.clean, none ReadCheck refl refl, none ReadBack refl refl, none Reading refl refl)
  where
    none : (p : Place) → is Idle p ≡ false → is WriteWait p ≡ false → sum (λ k r. is_at p r) 0 l ≡ 0
    none p i w = absent p l (λ j q. out_elsewhere p i w (here l j) (out j q))

-- ---- a thread at work, in the first two parts
busy_of_lem : (r : Rec) → at_idle 0 r ≡ false → busy_of r ≡ 1
busy_of_lem r e = omega (arith, bit_false (is r.place Idle) e)

module _ (S : Scripts) {Pre Post : ℕ → Rec → Type 0} (i : ℕ) (L : Lock) (l : List Rec) (w : Work Pre Post S i L l) where
  -- what holds of those before and those after the thread at work holds of the others
  others_are : (P : ℕ → Rec → Type 0) → ((j : ℕ) (r : Rec) → Post j r → P j r) → ((j : ℕ) (r : Rec) → Pre j r → P j r) → (j : ℕ) → j ≢ i → j < length l
      → P j (here l j)
  others_are P f g j ne q = ne_cases j i (P j (here l j)) ne (λ lt. f j _ ((w.side j ne q).0 lt)) (λ lt. g j _ ((w.side j ne q).1 lt))

  busy_more : at_idle i (here l i) ≡ false → (here l i).at < S.len i
  busy_more e =
      unfinished L.pred (S.len i) (S.op i) (S.val i) L.top.0 (here l i) (here l i).place (w.base.tidy.rest i w.valid)
      (w.base.sound.kept i w.valid) (busy_of_lem (here l i) e)

  outward : at_idle i (here l i) ≡ false → is_at WriteWait (here l i) ≤ bit (unread L) → (d : Did) → MoveOf S L l i d
      → (ahead up (S.op i) (S.len i) d.rec < ahead up (S.op i) (S.len i) (here l i)) × (is_at WriteWait d.rec ≤ is_at WriteWait (here l i))
  outward e ready d mv =
      let m = busy_more e in
      falls i L (S.len i) (S.op i) (here l i) _ m (small S L l i w.base w.valid m) (here l i).place d mv (busy_of_lem (here l i) e) ready

module _ (S : Scripts) where
  -- ---- first part: all but the one at WriteWait. None comes there
  no_wait_agree : (a b : Bool) → bit b ≡ 0 → a ≡ (a || b)
  no_wait_agree a b e = rw (bit_zero b e, or-false a) refl

  abbrev first : Part S
  first =
      record {
        who = not_waiting;
        halt = at_idle;
        stop = at_idle_or_wait;
        up = up;
        Pre = λ j r. Unit {0};
        Mid = λ r. is_at WriteWait r ≡ 0;
        Post = IsOut;
        start = λ j r p e. ap bit (not-true (waiting r) e);
        idles = λ j r p e. rw (not-false (waiting r) e) (or-true (at_idle j r));
        agree = λ j r m. no_wait_agree (at_idle j r) (waiting r) m;
        finish = λ i L l w e. e;
        more = busy_more S;
        falls = λ i L l w m e d mv. let f = outward S i L l w e (omega arith) d mv in (f.0, omega (arith, f.1));
      }

  -- ---- second part: the one at WriteWait. Where it waits all others are Idle or at WriteWait, so it does not wait
  all_out : (i : ℕ) (L : Lock) (l : List Rec) → Work IsOut IsIdle S i L l → IsOut i (here l i) → (j : ℕ) → j < length l → IsOut j (here l j)
  all_out i L l w own =
      subst (λ (m : List Rec). (j : ℕ) → j < length m → IsOut j (here m j)) (set-get_or l i unbegun)
      (all_set IsOut l i (here l i) unbegun own (others_are S i L l w IsOut (λ j r e. ap (λ (p : Place). is p Idle || is p WriteWait) e) (λ j r o. o)))

  waits_not : (i : ℕ) (L : Lock) (l : List Rec) → Work IsOut IsIdle S i L l → is_at WriteWait (here l i) ≤ bit (unread L)
  waits_not i L l w = go (waiting (here l i)) refl
    where
      go : (b : Bool) → waiting (here l i) ≡ b → is_at WriteWait (here l i) ≤ bit (unread L)
      go true e =
          let own : IsOut i (here l i) = rw e (or-true (at_idle i (here l i))) in
          let none = out_unread S L l w.base (all_out i L l w own) in
          omega (arith, bit_true (unread L) (eq-eqb L.rc.0 0 none), bit_le (waiting (here l i)))
      go false e = omega (arith, bit_false (waiting (here l i)) e)

  abbrev second : Part S
  second =
      record {
        who = waiting;
        halt = at_idle;
        stop = at_idle;
        up = up;
        Pre = IsOut;
        Mid = λ r. Unit {0};
        Post = IsIdle;
        start = λ j r p e. tt;
        idles = λ j r p e. either (at_idle j r) (waiting r) (λ h. h) (λ h. absurd (true≢false (sym h ∙ e))) p;
        agree = λ j r m. refl;
        finish = λ i L l w e. is_same (here l i).place Idle e;
        more = busy_more S;
        falls = λ i L l w m e d mv. ((outward S i L l w e (waits_not i L l w) d mv).0, tt);
      }

  -- ---- third part: each alone to its script's end
  abbrev IsDone : ℕ → Rec → Type 0
  IsDone j r = (r.place ≡ Idle) × (r.at ≡ S.len j)

  ended : (i : ℕ) (L : Lock) (l : List Rec) → Work IsIdle IsDone S i L l → at_end S i (here l i) ≡ true → IsDone i (here l i)
  ended i L l w e = go (at_idle i (here l i)) refl
    where
      le : S.len i ≤ (here l i).at
      le = leb-true (S.len i) (here l i).at e

      go : (b : Bool) → at_idle i (here l i) ≡ b → IsDone i (here l i)
      go true h = let idle = is_same (here l i).place Idle h in (idle, omega (arith, le, rw idle at (w.base.sound.kept i w.valid)))
      go false h = absurd (omega (arith, le, busy_more S i L l w h))

  still : (i : ℕ) (L : Lock) (l : List Rec) → Work IsIdle IsDone S i L l → Still (rest S l i)
  still i L l w = idle_still S (set l i unbegun) (all_set IsIdle l i unbegun unbegun refl (others_are S i L l w IsIdle (λ j r d. d.0) (λ j r p. p)))

  onward : (i : ℕ) (L : Lock) (l : List Rec) → Work IsIdle IsDone S i L l → Alone (here l i) → at_end S i (here l i) ≡ false → (d : Did) → MoveOf S L l i d
      → (ahead up' (S.op i) (S.len i) d.rec < ahead up' (S.op i) (S.len i) (here l i)) × Alone d.rec
  onward i L l w a e d mv =
      let m = leb-false (S.len i) (here l i).at e in
      falls_alone i L (S.len i) (S.op i) (here l i) _ m (small S L l i w.base w.valid m) (rest S l i) (still i L l w) w.base.tidy.clean
      w.base.sound.top (here l i).place d mv (rw (tally_split S l i w.valid) at w.base.sound.counts) a

  abbrev third : Part S
  third =
      record {
        who = all;
        halt = at_end S;
        stop = at_end S;
        up = up';
        Pre = IsIdle;
        Mid = Alone;
        Post = IsDone;
        start = λ j r p e. rw p (omega arith);
        idles = λ j r p e. absurd (true≢false e);
        agree = λ j r m. refl;
        finish = ended;
        more = λ i L l w e. leb-false (S.len i) (here l i).at e;
        falls = onward;
      }

-- ---- the measure at the start and at the end
up_most : (p : Place) → (up' p ≤ up p) × (up p ≤ 5)
up_most Idle = omega arith
up_most ReadTry = omega arith
up_most ReadCheck = omega arith
up_most ReadBack = omega arith
up_most Reading = omega arith
up_most WriteWait = omega arith
up_most WriteTake = omega arith
up_most Writing = omega arith
up_most WritePut = omega arith

module _ (S : Scripts) (l : List Rec) where
  measure_alone : measure up' S l ≤ measure up S l
  measure_alone = sum_le (λ k r. ahead up' (S.op k) (S.len k) r) (λ k r. ahead up (S.op k) (S.len k) r) (λ k r. omega (arith, (up_most r.place).0)) 0 l

  measure_enough : measure up S l ≤ enough S l
  measure_enough =
      omega (
        arith,
        sum_le (λ k r. ahead up (S.op k) (S.len k) r) (λ k r. cost (S.op k) (S.len k) r.at + 3 + 2) (λ k r. omega (arith, (up_most r.place).1)) 0 l,
        sum_add (λ k r. cost (S.op k) (S.len k) r.at + 3) (λ k r. 2) 0 l,
        sum_const 2 0 l,
      )

  -- an Idle record's measure is 2 at least
  measure_idle : ((j : ℕ) → j < length l → IsIdle j (here l j)) → 2 * length l ≤ measure up' S l
  measure_idle idle =
      omega (
        arith,
        sum_const 2 0 l,
        sum_le (λ k r. 2) (λ k r. 2 - up' r.place + ahead up' (S.op k) (S.len k) r) (λ k r. omega arith) 0 l,
        sum_add (λ k r. 2 - up' r.place) (λ k r. ahead up' (S.op k) (S.len k) r) 0 l,
        sum_zeros (λ k r. 2 - up' r.place) unbegun l (λ j q. ap (λ (p : Place). 2 - up' p) (idle j q)),
      )

-- ---- the whole order
-- where every record is Idle, the flag is clear, the count 0 and the cell full
lock_idle : (S : Scripts) (L : Lock) (l : List Rec) → Base S L l → ((j : ℕ) → j < length l → IsIdle j (here l j))
    → (L.exc ≡ false) × (L.rc.0 ≡ 0) × (is_full L.cell ≡ true)
lock_idle S L l b idle =
    let bits : (bit L.exc ≡ 0) × (L.rc.0 ≡ 0) × (bit (is_full L.cell) ≡ 1) =
    omega (tests, idle_still S l idle, b.tidy.clean, b.sound.counts)
    in
    (bit_zero L.exc bits.0, bits.1, (says_bit (is_full L.cell)).1 bits.2)

module _ (S : Scripts) (L : Lock) (l : List Rec) (base : Base S L l) where
  abbrev went₁ : Went
  went₁ = sweep at_idle_or_wait S (enough S l) 0 (length l) L l

  swept₁ : Swept S (first S) 0 (length l) L l went₁
  swept₁ = part S (first S) (enough S l) (length l) L l refl base (λ j q. tt) (measure_enough S l)

  abbrev went₂ : Went
  went₂ = sweep at_idle S (enough S l) 0 (length l) went₁.lock went₁.recs

  swept₂ : Swept S (second S) 0 (length l) went₁.lock went₁.recs went₂
  swept₂ =
      part S (second S) (enough S l) (length l) went₁.lock went₁.recs (sym swept₁.used.size) swept₁.base swept₁.done
      (omega (arith, swept₁.used.used, measure_enough S l))

  abbrev went₃ : Went
  went₃ = sweep (at_end S) S (enough S l) 0 (length l) went₂.lock went₂.recs

  swept₃ : Swept S (third S) 0 (length l) went₂.lock went₂.recs went₃
  swept₃ =
      part S (third S) (enough S l) (length l) went₂.lock went₂.recs (sym swept₁.used.size ∙ sym swept₂.used.size) swept₂.base swept₂.done
      (omega (arith, swept₁.used.used, swept₂.used.used, measure_alone S went₂.recs, measure_enough S l))

  size : length went₃.recs ≡ length l
  size = swept₃.used.size ∙ swept₂.used.size ∙ swept₁.used.size

  entries_most : length (went₁.made ++ (went₂.made ++ went₃.made)) ≤ bound S l
  entries_most =
      omega (
        arith,
        length-append went₁.made (went₂.made ++ went₃.made),
        length-append went₂.made went₃.made,
        swept₁.used.used,
        swept₂.used.used,
        swept₃.used.used,
        size,
        measure_enough S l,
        measure_alone S went₂.recs,
        measure_idle S went₃.recs (λ j q. (swept₃.done j q).0),
      )

  drained : Drained S L l
  unfolding drain
  drained =
      let ran = accepts_run S (accepts_then S swept₁.used.accepts (accepts_then S swept₂.used.accepts swept₃.used.accepts)) in
      let end = lock_idle S went₃.lock went₃.recs swept₃.base (λ j q. (swept₃.done j q).0) in
      record {
        order =
            record {
              lock₁ = went₁.lock;
              recs₁ = went₁.recs;
              es₁ = went₁.made;
              lock₂ = went₂.lock;
              recs₂ = went₂.recs;
              es₂ = went₂.made;
              es₃ = went₃.made;
              first = swept₁.turns;
              second = swept₂.turns;
              third = swept₃.turns;
              whole = refl;
            };
        accepted = ran.0;
        lock = ran.1;
        recs = ran.2;
        bounded = entries_most;
        size = size;
        ended = λ j q. swept₃.done j (rw size q);
        clear = end.0;
        count = end.1;
        full = end.2;
      }

pub demand_3 : Demand3
demand_3 S L l s t = drained S L l (record { sound = s; tidy = t })
