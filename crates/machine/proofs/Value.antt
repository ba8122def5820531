-- Demand 2c: under every schedule each borrow, take and into_inner gets what the last finished release put, or the first value; and
-- handles held at once borrow the same value. The records' script places are those that the rows say.
use Prim.Native.Nat.{ℕ, zero, suc, ◌+◌, ◌<◌, ◌≤◌}
use mathlib.Core.Path.{◌≡◌, refl, ap, sym, ◌∙◌, subst}
use mathlib.Core.Logic.{◌⊎◌, inl, inr, ⊎_elim, ◌≢◌}
use mathlib.Core.Bool.{Bool, true, false, cond, ◌||◌, true≢false}
use mathlib.Core.List.{List, [], ◌∷◌, reverse, reverse_aux}
use native.Mathlib.Omega.{arith}
use native.Mathlib.Nat.{add-zero}
use lib.Dec.{eqb}
use lib.ListN.{length}
use package.borrow.Author.Tests.{eqb-true, eq-eqb, ne_eqb}
use Rattle.cell.specs.Value.{kept}
use Rattle.cell.specs.Pred.{permits}
use Rattle.cell.specs.declared.pred.Pred.{Pred}
use Rattle.machine.specs.Names.{release_write, borrows_cell, takes_cell, puts_cell, stores_exc}
use Rattle.machine.specs.Words.{bit, place_no, is, is_at, unbegun, unused}
use Rattle.machine.specs.Step.{Scripts, here, settle, step}
use Rattle.machine.specs.Sound.{tally, Tally, away, Sound}
use Rattle.machine.specs.Setup.{fresh}
use Rattle.machine.specs.Run.{run}
use Rattle.machine.specs.Trace.{put_by, current, moves_on, place_of, Told, Borrowed}
use Rattle.machine.specs.Demands.{PlacesTold, Demand2c, HoldsThrough, ReadersMatch, past8, at_work, holder}
use Rattle.machine.specs.Move.{Move, by_load_below, by_load_full, by_try_done, by_try_lost, by_check_clear, by_check_set, back, lend, release, by_exc_done, by_exc_lost, into_done, into_lost, by_wait_done, by_wait_more, take, take_last, put, store, drop_read, drop_write}
use Rattle.machine.specs.declared.Did.{Did}
use Rattle.std.specs.Prelude.{Err, Ok, Result}
use Rattle.machine.specs.declared.Lock.{Lock}
use Rattle.machine.specs.declared.Rec.{Rec}
use Rattle.machine.specs.declared.Row.{Row}
use Rattle.machine.specs.declared.Place.{Place}
use Rattle.machine.specs.declared.Place.TheVariants.{Reading, WritePut}
use Rattle.machine.proofs.Sums.{all_set, sum_other}
use Rattle.machine.proofs.Keep.{moved, weighed, Before, bit_true, bit_false}
use Rattle.machine.proofs.Steps.{Passed, MoveOf, answered, before, rest, tally_split, tally_set, step_sound}
use Rattle.machine.proofs.Runs.{setup_sound, here_fresh, always_sound}
use Rattle.machine.proofs.RunLaws.{induction}
use Rattle.machine.proofs.Exclusive.{apart}

ruleset tests = (arith, bit_true, bit_false)

-- ---- one way of the table, on the lock and the own record
-- what the cell keeps: the present value, unless a writer has it, or has put the next one, or it is gone
pub record Value (cell away putting now next : ℕ) : Type 0 where
  pub held : away ≡ 0 → cell ≡ now
  pub pending : 1 ≤ putting → cell ≡ next

-- seen from a thread with the record r, with R the counts of the others
abbrev ValueAt : Lock → (ℕ → ℕ) → Tally → Rec → ℕ → ℕ → Type 0
ValueAt L ops R r now next = Value (kept L.cell) ((weighed ops r R).put + away L (weighed ops r R)) (is_at WritePut r) now next

-- what a row tells: a borrow or a take the value now; a put the operation and its value
abbrev Tells : ℕ → ℕ → ℕ → ℕ → ℕ → Type 0
Tells o v now access got =
    cond (eqb access borrows_cell) (got ≡ now) (Unit {0})
    × cond (eqb access takes_cell) (got ≡ now) (Unit {0})
    × cond (eqb access puts_cell) ((o ≡ release_write) × (got ≡ v)) (Unit {0})

-- the row tells; the thread's own view is kept; the cell keeps what it did, or nobody else has put; the script place is as told
abbrev TellsAll : (ℕ → ℕ) → Tally → ℕ → Rec → ℕ → ℕ → ℕ → Did → Type 0
TellsAll ops R c r v now next d =
    Tells (ops r.at) v now d.access d.got
    × ValueAt d.lock ops R d.rec (cond (eqb d.access stores_exc) next now) (cond (eqb d.access puts_cell) d.got next)
    × ((kept d.lock.cell ≡ c) ⊎ (R.put ≡ 0))
    × (d.rec.at ≡ r.at + bit (moves_on d.access d.got))

silent : Unit {0} × Unit {0} × Unit {0}
silent = (tt, tt, tt)

stays : (at : ℕ) → at ≡ at + 0
stays at = sym (add-zero at)

module _ (i : ℕ) (L : Lock) (n : ℕ) (ops : ℕ → ℕ) (R : Tally) (r : Rec) (v now next : ℕ) where
  tell : (p : Place) (d : Did) → Move i L r (ops r.at) v p d → Before L n ops R (moved r p) v → ValueAt L ops R (moved r p) now next
      → TellsAll ops R (kept L.cell) r v now next d
  tell p d (by_load_below e t) b x = (silent, x, inl refl, stays _)
  tell p d (by_load_full e t) b x = (silent, x, inl refl, stays _)
  tell p d (by_try_done e t) b x = (silent, x, inl refl, stays _)
  tell p d (by_try_lost e t) b x = (silent, x, inl refl, stays _)
  tell p d (by_check_clear e t) b x = (silent, x, inl refl, refl)
  tell p d (by_check_set e t) b x = (silent, x, inl refl, stays _)
  tell p d (back e) b x = (silent, x, inl refl, stays _)
  tell p d (lend e) b x = ((x.held (omega tests), tt, tt), x, inl refl, refl)
  tell p d (release e) b x = (silent, x, inl refl, refl)
  tell p d (by_exc_done e t) b x = (silent, x, inl refl, stays _)
  tell p d (by_exc_lost e t) b x = (silent, x, inl refl, stays _)
  tell p d (into_done e t) b x = (silent, x, inl refl, stays _)
  tell p d (into_lost e t) b x = (silent, x, inl refl, stays _)
  tell p d (by_wait_done e t) b x = (silent, x, inl refl, stays _)
  tell p d (by_wait_more e t) b x = (silent, x, inl refl, stays _)
  tell p d (take e) b x = ((tt, x.held (omega tests), tt), record { held = λ z. omega tests; pending = λ z. omega tests }, inr (omega tests), refl)
  tell p d (take_last e) b x = ((tt, x.held (omega tests), tt), record { held = λ z. omega tests; pending = λ z. omega tests }, inr (omega tests), refl)
  tell p d (put e) b x = ((tt, tt, (e, refl)), record { held = λ z. omega tests; pending = λ z. refl }, inr (omega tests), stays _)
  tell p d (store e) b x = (silent, record { held = λ z. x.pending (omega tests); pending = λ z. omega tests }, inl refl, refl)
  tell p d (drop_read e) b x = (silent, x, inl refl, refl)
  tell p d (drop_write e) b x = (silent, record { held = λ z. omega tests; pending = λ z. omega tests }, inl refl, refl)

-- ---- the whole state, for a trace so far
pub record Values (v : ℕ) (past : List Row) (S : Scripts) (L : Lock) (l : List Rec) : Type 0 where
  pub held : (tally S l).put + away L (tally S l) ≡ 0 → kept L.cell ≡ current v past
  pub pending : (j : ℕ) → j < length l → 1 ≤ is_at WritePut (here l j) → kept L.cell ≡ put_by j past
  pub place : (j : ℕ) → j < length l → (here l j).at ≡ place_of j past

own : (b t : Bool) (g p : ℕ) → t ≡ true → cond b g p ≡ cond b (cond t g p) p
own b t g p e = ap (λ (u : Bool). cond b (cond u g p) p) (sym e)

other : (b t : Bool) (g p : ℕ) → t ≡ false → p ≡ cond b (cond t g p) p
other true t g p e = ap (λ (u : Bool). cond u g p) (sym e)
other false t g p e = refl

chosen : (b : Bool) (x y : ℕ) → b ≡ true → x ≡ cond b x y
chosen true x y e = refl
chosen false x y e = absurd (omega (arith, ap bit e))

unchosen : (b : Bool) (x y : ℕ) → b ≡ false → y ≡ cond b x y
unchosen true x y e = absurd (omega (arith, ap bit e))
unchosen false x y e = refl

-- what is told under a test, where the test holds
told : (a k : ℕ) {X : Type 0} → cond (eqb a k) X (Unit {0}) → a ≡ k → X
told a k {X} x e = subst (λ (b : Bool). cond b X (Unit {0})) (eq-eqb a k e) x

module _ (v : ℕ) (past : List Row) (S : Scripts) (L : Lock) (l : List Rec) (i : ℕ) where
  -- the latest row tells, and the state's values are as the trace has them
  abbrev Next : Result Did ℕ → Type 0
  Next out = let w = settle L l i out in Told S v (w.row ∷ past) × Values v (w.row ∷ past) S w.lock w.recs

  refusal : Told S v past → Values v past S L l → (k : ℕ) → Next (Err k)
  unfolding Told current put_by place_of
  refusal so x k = (
    (λ e. absurd (omega arith), λ e. absurd (omega arith), λ e. absurd (omega arith), so),
    record {
      held = x.held;
      pending = x.pending;
      place = λ j q. x.place j q ∙ same j (eqb i j);
    },
  )
    where
      same : (j : ℕ) (b : Bool) → place_of j past ≡ cond b (place_of j past + 0) (place_of j past)
      same j true = stays _
      same j false = refl

  accepts : Sound S L l → Told S v past → Values v past S L l → Passed S L l i → (d : Did) → MoveOf S L l i d → Next (Ok d)
  unfolding Told current put_by place_of
  accepts h so x p d mv =
      let lt = p.thread in
      let split = tally_split S l i lt in
      let view : ValueAt L (S.op i) (rest S l i) (here l i) (current v past) (put_by i past) =
      record { held = λ z. x.held (omega (arith, ap (λ (N : Tally). N.writing) split, ap (λ (N : Tally). N.put) split)); pending = x.pending i lt }
      in
      let y = tell i L (S.len i) (S.op i) (rest S l i) (here l i) _ _ _ (here l i).place d mv (before S l i lt L h p) view in
      let there = x.place i lt in
      let whole = tally_set S l i d.rec lt in (
        (
          told d.access borrows_cell y.0.0,
          told d.access takes_cell y.0.1,
          λ e. subst (λ (k : ℕ). (S.op i k ≡ release_write) × (d.got ≡ S.val i k)) there (told d.access puts_cell y.0.2 e),
          so,
        ),
        record {
          held = λ z. y.1.held (omega (arith, ap (λ (N : Tally). N.writing) whole, ap (λ (N : Tally). N.put) whole));
          pending =
              all_set (λ j r. 1 ≤ is_at WritePut r → kept d.lock.cell ≡ cond (eqb d.access puts_cell) (cond (eqb i j) d.got (put_by j past)) (put_by j past))
              l i d.rec unbegun
              (λ z. y.1.pending z ∙ own (eqb d.access puts_cell) (eqb i i) d.got (put_by i past) (eq-eqb i i refl))
              (λ j ne q z.
              ⊎_elim
              (λ same. same ∙ x.pending j q z ∙ other (eqb d.access puts_cell) (eqb i j) d.got (put_by j past) (ne_eqb i j (λ e. ne (sym e))))
              (λ nobody. absurd (omega (arith, sum_other (λ k r. is_at WritePut r) l i j unbegun ne q)))
              y.2);
          place =
              all_set (λ j r. r.at ≡ cond (eqb i j) (place_of j past + bit (moves_on d.access d.got)) (place_of j past)) l i d.rec unbegun
              (y.3 ∙ ap (λ (k : ℕ). k + bit (moves_on d.access d.got)) there ∙ chosen (eqb i i) _ _ (eq-eqb i i refl))
              (λ j ne q. x.place j q ∙ unchosen (eqb i j) _ _ (ne_eqb i j (λ e. ne (sym e))));
        },
      )

  pub told_step : Sound S L l → Told S v past → Values v past S L l
      → Told S v ((step S L l i).row ∷ past) × Values v ((step S L l i).row ∷ past) S (step S L l i).lock (step S L l i).recs
  unfolding step
  told_step h so x = answered Next S L l i (refusal so x) (accepts h so x)

-- ---- every schedule from setup
abbrev TellsSoFar : Scripts → ℕ → Lock → List Rec → List Row → Type 0
TellsSoFar S v L l past = Told S v past × Values v past S L l

at_setup : (S : Scripts) (q : Pred) (m v n : ℕ) → TellsSoFar S v (unused q m v) (fresh n) []
unfolding Told current place_of
at_setup S q m v n = (
  tt,
  record {
    held = λ z. refl;
    pending = λ j h z. absurd (omega (arith, ap (λ (r : Rec). is_at WritePut r) (here_fresh n j h)));
    place = λ j h. ap (λ (r : Rec). r.at) (here_fresh n j h);
  },
)

always_tells : (S : Scripts) (q : Pred) (m v n : ℕ) → 1 ≤ m → permits q v ≡ true → (schedule : List ℕ)
    → let w = run S (unused q m v) (fresh n) schedule in
    TellsSoFar S v w.lock w.recs (reverse w.rows)
always_tells S q m v n top ok schedule =
    induction S (TellsSoFar S v) (λ L l past i h t. told_step v past S L l i h t.0 t.1) (unused q m v) (fresh n) (setup_sound S q m v n top ok)
    (at_setup S q m v n) schedule

pub places_told : PlacesTold
places_told S q m v n top ok schedule = (always_tells S q m v n top ok schedule).1.place

pub demand_2c : Demand2c
demand_2c S q m v n top ok schedule = (always_tells S q m v n top ok schedule).0

-- ---- handles held at once
-- the flag is cleared by a record at WritePut alone
abbrev Stores : Place → Did → Type 0
Stores p d = cond (eqb d.access stores_exc) (is p WritePut ≡ true) (Unit {0})

module _ (i : ℕ) (L : Lock) (r : Rec) (o v : ℕ) where
  stores : (p : Place) (d : Did) → Move i L r o v p d → Stores p d
  stores p d (by_load_below e t) = tt
  stores p d (by_load_full e t) = tt
  stores p d (by_try_done e t) = tt
  stores p d (by_try_lost e t) = tt
  stores p d (by_check_clear e t) = tt
  stores p d (by_check_set e t) = tt
  stores p d (back e) = tt
  stores p d (lend e) = tt
  stores p d (release e) = tt
  stores p d (by_exc_done e t) = tt
  stores p d (by_exc_lost e t) = tt
  stores p d (into_done e t) = tt
  stores p d (into_lost e t) = tt
  stores p d (by_wait_done e t) = tt
  stores p d (by_wait_more e t) = tt
  stores p d (take e) = tt
  stores p d (take_last e) = tt
  stores p d (put e) = tt
  stores p d (store e) = refl
  stores p d (drop_read e) = tt
  stores p d (drop_write e) = tt

-- while a record is Reading nobody clears the flag
no_store : (S : Scripts) (L : Lock) (l : List Rec) (i j : ℕ) → Sound S L l → is (here l j).place Reading ≡ true → (step S L l i).row.access ≢ stores_exc
unfolding step
no_store S L l i j h reading =
    answered (λ out. (settle L l i out).row.access ≢ stores_exc) S L l i (λ k e. omega arith)
    (λ p d mv e.
    let putting = told d.access stores_exc (stores i L (here l i) _ _ _ d mv) e in
    apart S L l h (at_work i p.thread (past_put (here l i).place putting)) (holder j (inside l j reading) reading))
  where
    past_put : (p : Place) → is p WritePut ≡ true → past8 p ≡ true
    past_put p e = ap (λ (k : ℕ). eqb k 6 || (eqb k 7 || eqb k 8)) (eqb-true (place_no p) 8 e)

    inside : (l : List Rec) (j : ℕ) → is (here l j).place Reading ≡ true → j < length l
    inside [] j e = absurd (true≢false (sym e))
    inside (r ∷ l) zero e = omega arith
    inside (r ∷ l) (suc j) e = omega (arith, inside l j e)

unchanged : (v : ℕ) (past : List Row) (r : Row) → r.access ≢ stores_exc → current v (r ∷ past) ≡ current v past
unfolding current
unchanged v past r ne = sym (unchosen (eqb r.access stores_exc) _ _ (ne_eqb _ _ ne))

latest : (S : Scripts) (v : ℕ) (past : List Row) (r : Row) → Told S v (r ∷ past) → r.access ≡ borrows_cell → r.got ≡ current v past
unfolding Told
latest S v past r t = t.0

-- what holds through entries in which a handle is held, with x the present value: every borrow gets it, and it stays the present one
record Still (S : Scripts) (v x : ℕ) (L : Lock) (l : List Rec) (past : List Row) (more : List ℕ) : Type 0 where
  same : Borrowed x (run S L l more).rows
  present : current v (reverse_aux (run S L l more).rows past) ≡ x
  sound : Sound S (run S L l more).lock (run S L l more).recs
  tells : TellsSoFar S v (run S L l more).lock (run S L l more).recs (reverse_aux (run S L l more).rows past)

still : (S : Scripts) (v x j : ℕ) (more : List ℕ) (L : Lock) (l : List Rec) (past : List Row) → Sound S L l → TellsSoFar S v L l past
    → current v past ≡ x → HoldsThrough S j L l more → Still S v x L l past more
unfolding run HoldsThrough Borrowed
still S v x j [] L l past h t now q = record { same = tt; present = now; sound = h; tells = t }
still S v x j (i ∷ more) L l past h t now q =
    let w = told_step v past S L l i h t.0 t.1 in
    let stays = unchanged v past (step S L l i).row (no_store S L l i j h q.0) in
    let r = still S v x j more (step S L l i).lock (step S L l i).recs ((step S L l i).row ∷ past) (step_sound S L l i h) w (stays ∙ now) q.1 in
    record { same = (λ e. latest S v past (step S L l i).row w.0 e ∙ now, r.same); present = r.present; sound = r.sound; tells = r.tells }

pub readers_match : ReadersMatch
readers_match S q m v n top ok schedule i j first second p r =
    let a = still S v _ i first _ _ _ (always_sound S q m v n top ok schedule) (always_tells S q m v n top ok schedule) refl p in
    (a.same, (still S v _ j second _ _ _ a.sound a.tells a.present r).same)
