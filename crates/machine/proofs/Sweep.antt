-- One part of the drain order, whatever it is: if every entry of a thread at work brings the measure down, the part follows the
-- order, ends with every record done, refuses nothing, and uses no more entries than its measure has fallen.
use Prim.Native.Nat.{ℕ, zero, suc, ◌+◌, ◌<◌, ◌≤◌}
use mathlib.Core.Path.{◌≡◌, refl, ap, sym, subst, ◌∙◌}
use mathlib.Core.Logic.{◌≢◌, ⊎_elim}
use mathlib.Core.Bool.{Bool, true, false, true≢false}
use mathlib.Core.List.{List, [], ◌∷◌}
use native.Mathlib.Nat.{eq-or-lt_of_le, le_of_suc-le-suc}
use native.Mathlib.Omega.{arith}
use lib.ListN.{length, set, length-set, length-append}
use lib.Seq.{get_or-set_same}
use package.borrow.Author.Tests.{eq-eqb}
use Rattle.machine.specs.Names.{drop_handle}
use Rattle.machine.specs.Words.{moving, unbegun}
use Rattle.machine.specs.Step.{Scripts, fits, op_of, entry_refusal, answer, step, here, sum}
use Rattle.machine.specs.Sound.{Sound}
use Rattle.machine.specs.When.{AtEntry, for_no_thread, for_script_finished, lock_finished, moved_by_another, for_does_not_fit, for_others_busy, for_not_permitted}
use Rattle.machine.specs.Tidy.{Tidy}
use Rattle.machine.specs.Drain.{Until, stops, steps, Turn, skips, works, Turns, over, turn, Went, stays, after, until, sweep}
use Rattle.machine.specs.declared.Did.{Did}
use Rattle.machine.specs.declared.Lock.{Lock}
use Rattle.machine.specs.declared.Rec.{Rec}
use Rattle.machine.specs.declared.Place.{Place}
use Rattle.machine.proofs.Sums.{sum_set, all_set}
use Rattle.machine.proofs.Fits.{fits_table}
use Rattle.machine.proofs.Moves.{either_way, moves}
use Rattle.machine.proofs.Steps.{MoveOf, passed, step_sound}
use Rattle.machine.proofs.ExactEntry.{entry_exact}
use Rattle.machine.proofs.TidyLaws.{rest_small, tidy_is_kept}
use Rattle.machine.proofs.Falls.{rest_permits, suits, ahead}
use Rattle.machine.proofs.Order.{Accepts, none, entry, accepts_then}

-- what the drain order starts from and keeps
pub record Base (S : Scripts) (L : Lock) (l : List Rec) : Type 0 where
  pub sound : Sound S L l
  pub tidy : Tidy S L l

-- ---- a tidy thread that is not at its script's end is not refused
module _ (S : Scripts) (L : Lock) (l : List Rec) (i : ℕ) (b : Base S L l) (valid : i < length l) (more : (here l i).at < S.len i) where
  pub small : op_of S l i < drop_handle
  small = rest_small L.pred (S.len i) (S.op i) (S.val i) more (b.tidy.rest i valid)

  fit : fits (here l i).place (op_of S l i) ≡ true
  fit = suits L.pred (S.len i) (S.op i) (S.val i) L.top.0 (here l i) (here l i).place (b.tidy.rest i valid) (b.sound.kept i valid) more

  nothing : (k : ℕ) → AtEntry S L l i k → ⊥
  nothing k (for_no_thread h) = omega arith
  nothing k (for_script_finished h) = omega arith
  nothing k (lock_finished e) = true≢false (sym e ∙ b.tidy.clean.1)
  nothing k (moved_by_another t e ne) = omega (arith, b.tidy.clean, ap moving e)
  nothing k (for_does_not_fit never) = never ((fits_table _ _).0 fit)
  nothing k (for_others_busy o m j ne h p) = omega (arith, small)
  nothing k (for_not_permitted p o e) = true≢false (sym (rest_permits _ _ _ _ (rw p at (b.tidy.rest i valid))) ∙ e)

  pub unrefused : entry_refusal S L l i ≡ 0
  unrefused = (entry_exact S L l i).1.1 nothing

-- the records that an accepted entry leaves are those of a way of the table
entered : (S : Scripts) (L : Lock) (l : List Rec) (i : ℕ) → entry_refusal S L l i ≡ 0
    → (d : Did) × MoveOf S L l i d × ((step S L l i).recs ≡ set l i d.rec)
unfolding step answer
entered S L l i e = (_, moves i L (here l i) _ _ (here l i).place (passed S L l i e).fit, rw (eq-eqb _ 0 e) refl)

-- ---- what a part is
-- thread i is at work: those before it are done, those after it are not begun
pub record Work (Pre Post : ℕ → Rec → Type 0) (S : Scripts) (i : ℕ) (L : Lock) (l : List Rec) : Type 0 where
  pub base : Base S L l
  pub side : (j : ℕ) → j ≢ i → j < length l → (j < i → Post j (here l j)) × (i < j → Pre j (here l j))
  pub valid : i < length l

-- which records have a turn and where they stop, in the order and as drain asks; what a place adds to the measure; what holds of a
-- record before its turn, in it and after it
pub record Part (S : Scripts) : Type 1 where
  pub who : Rec → Bool
  pub halt : ℕ → Rec → Bool
  pub stop : ℕ → Rec → Bool
  pub up : Place → ℕ
  pub Pre : ℕ → Rec → Type 0
  pub Mid : Rec → Type 0
  pub Post : ℕ → Rec → Type 0
  pub start : (j : ℕ) (r : Rec) → Pre j r → who r ≡ true → Mid r
  -- drain makes no entry for a record that has no turn, and in a turn it stops where the order does
  pub idles : (j : ℕ) (r : Rec) → Pre j r → who r ≡ false → stop j r ≡ true
  pub agree : (j : ℕ) (r : Rec) → Mid r → halt j r ≡ stop j r
  pub finish : (i : ℕ) (L : Lock) (l : List Rec) → Work Pre Post S i L l → stop i (here l i) ≡ true → Post i (here l i)
  pub more : (i : ℕ) (L : Lock) (l : List Rec) → Work Pre Post S i L l → halt i (here l i) ≡ false → (here l i).at < S.len i
  pub falls : (i : ℕ) (L : Lock) (l : List Rec) → Work Pre Post S i L l → Mid (here l i) → halt i (here l i) ≡ false → (d : Did) → MoveOf S L l i d
      → (ahead up (S.op i) (S.len i) d.rec < ahead up (S.op i) (S.len i) (here l i)) × Mid d.rec

abbrev pub measure : (Place → ℕ) → Scripts → List Rec → ℕ
measure up S l = sum (λ k r. ahead up (S.op k) (S.len k) r) 0 l

-- entries that are all accepted, and no more than the measure falls by
pub record Used (S : Scripts) (up : Place → ℕ) (L : Lock) (l : List Rec) (W : Went) : Type 0 where
  pub accepts : Accepts S L l W.made W.lock W.recs
  pub used : length W.made + measure up S W.recs ≤ measure up S l
  pub size : length W.recs ≡ length l

used_none : (S : Scripts) (up : Place → ℕ) (L : Lock) (l : List Rec) → Used S up L l (stays L l)
used_none S up L l = record { accepts = none; used = omega arith; size = refl }

used_then : (S : Scripts) (up : Place → ℕ) (L : Lock) (l : List Rec) (A B : Went) → Used S up L l A → Used S up A.lock A.recs B
    → Used S up L l (after A.made B)
used_then S up L l A B a b =
    record {
      accepts = accepts_then S a.accepts b.accepts;
      used = omega (arith, a.used, b.used, length-append A.made B.made);
      size = b.size ∙ a.size;
    }

module _ (S : Scripts) (P : Part S) where
  abbrev At : ℕ → Lock → List Rec → Type 0
  At i L l = Work P.Pre P.Post S i L l

  -- ---- one entry
  record Stepped (i : ℕ) (L : Lock) (l : List Rec) : Type 0 where
    work : At i (step S L l i).lock (step S L l i).recs
    mid : P.Mid (here (step S L l i).recs i)
    used : Used S P.up L l (record { lock = (step S L l i).lock; recs = (step S L l i).recs; made = i ∷ [] })

  side_set : (i : ℕ) (L : Lock) (l : List Rec) (s : Rec) → At i L l
      → (j : ℕ) → j ≢ i → j < length (set l i s) → (j < i → P.Post j (here (set l i s) j)) × (i < j → P.Pre j (here (set l i s) j))
  side_set i L l s w j ne q =
      all_set (λ j r. j ≢ i → (j < i → P.Post j r) × (i < j → P.Pre j r)) l i s unbegun (λ ne. absurd (ne refl)) (λ j ne q again. w.side j ne q) j q ne

  stepped : (i : ℕ) (L : Lock) (l : List Rec) → At i L l → P.Mid (here l i) → P.halt i (here l i) ≡ false → Stepped i L l
  stepped i L l w m e =
      let ok = unrefused S L l i w.base w.valid (P.more i L l w e) in
      let (d, mv, now) = entered S L l i ok in
      let f = P.falls i L l w m e d mv in
      let whole = sum_set (λ k r. ahead P.up (S.op k) (S.len k) r) l i d.rec unbegun w.valid in
      record {
        work =
            record {
              base = record { sound = step_sound S L l i w.base.sound; tidy = tidy_is_kept S L l i w.base.tidy };
              side = rw now (side_set i L l d.rec w);
              valid = rw (now, length-set l i d.rec) w.valid;
            };
        mid = rw (now, get_or-set_same l i d.rec unbegun w.valid) f.1;
        used = record { accepts = entry ok none; used = rw now (omega (arith, f.0, whole)); size = rw now (length-set l i d.rec) };
      }

  -- ---- a turn
  record Gone (i : ℕ) (L : Lock) (l : List Rec) (W : Went) : Type 0 where
    work : At i W.lock W.recs
    stopped : P.stop i (here W.recs i) ≡ true
    used : Used S P.up L l W

  stood : (i : ℕ) (L : Lock) (l : List Rec) → At i L l → P.stop i (here l i) ≡ true → Gone i L l (stays L l)
  stood i L l w e = record { work = w; stopped = e; used = used_none S P.up L l }

  abbrev UntilTo : ℕ → Lock → List Rec → Went → Type 0
  UntilTo i L l W = Until P.halt S i L l W.made W.lock W.recs

  halted : (i : ℕ) (L : Lock) (l : List Rec) → At i L l → P.Mid (here l i) → P.stop i (here l i) ≡ true
      → Gone i L l (stays L l) × UntilTo i L l (stays L l)
  halted i L l w m e = (stood i L l w e, stops (P.agree i (here l i) m ∙ e))

  -- f is enough, as the measure falls with every entry
  gone : (i f : ℕ) (L : Lock) (l : List Rec) → At i L l → P.Mid (here l i) → measure P.up S l ≤ f
      → Gone i L l (until P.stop S i f L l) × UntilTo i L l (until P.stop S i f L l)
  unfolding until
  gone i zero L l w m h = go (P.stop i (here l i)) refl
    where
      go : (b : Bool) → P.stop i (here l i) ≡ b → Gone i L l (stays L l) × UntilTo i L l (stays L l)
      go true e = halted i L l w m e
      go false e = absurd (omega (arith, (stepped i L l w m (P.agree i (here l i) m ∙ e)).used.used))
  gone i (suc f) L l w m h =
      either_way (λ W. Gone i L l W × UntilTo i L l W) (P.stop i (here l i)) (halted i L l w m)
      (λ e.
      let on = P.agree i (here l i) m ∙ e in
      let s = stepped i L l w m on in
      let (g, u) = gone i f (step S L l i).lock (step S L l i).recs s.work s.mid (omega (arith, s.used.used)) in
      (record { work = g.work; stopped = g.stopped; used = used_then S P.up L l _ _ s.used g.used }, steps on u))

  stands : (i f : ℕ) (L : Lock) (l : List Rec) → P.stop i (here l i) ≡ true → until P.stop S i f L l ≡ stays L l
  unfolding until
  stands i zero L l e = refl
  stands i (suc f) L l e = rw e refl

  abbrev TurnTo : ℕ → Lock → List Rec → Went → Type 0
  TurnTo i L l W = Turn P.who P.halt S i L l W.made W.lock W.recs

  turned : (i f : ℕ) (L : Lock) (l : List Rec) → At i L l → P.Pre i (here l i) → measure P.up S l ≤ f
      → Gone i L l (until P.stop S i f L l) × TurnTo i L l (until P.stop S i f L l)
  turned i f L l w p h = go (P.who (here l i)) refl
    where
      go : (b : Bool) → P.who (here l i) ≡ b → Gone i L l (until P.stop S i f L l) × TurnTo i L l (until P.stop S i f L l)
      go true e = let (g, u) = gone i f L l w (P.start i (here l i) p e) h in (g, works e u)
      go false e = let s = P.idles i (here l i) p e in rw (stands i f L l s) (stood i L l w s, skips e)

  -- ---- the whole part
  -- threads before k are done, the others are not begun
  abbrev Edge : ℕ → List Rec → Type 0
  Edge k l = (j : ℕ) → j < length l → (j < k → P.Post j (here l j)) × (k ≤ j → P.Pre j (here l j))

  -- the turns of c threads, from thread k on
  pub record Swept (k c : ℕ) (L : Lock) (l : List Rec) (W : Went) : Type 0 where
    pub base : Base S W.lock W.recs
    pub done : (j : ℕ) → j < length W.recs → P.Post j (here W.recs j)
    pub used : Used S P.up L l W
    pub turns : Turns P.who P.halt S k c L l W.made W.lock W.recs

  work_at : (k : ℕ) (L : Lock) (l : List Rec) → k < length l → Base S L l → Edge k l → At k L l
  work_at k L l q b e = record { base = b; side = λ j ne q. ((e j q).0, λ lt. (e j q).1 (omega arith)); valid = q }

  -- thread k is done
  edge_next : (k : ℕ) (L : Lock) (l : List Rec) → At k L l → P.stop k (here l k) ≡ true → Edge (suc k) l
  edge_next k L l w s j q = (
    λ lt.
        ⊎_elim
        (λ (same : j ≡ k). subst (λ (i : ℕ). P.Post i (here l i)) (sym same) (P.finish k L l w s))
        (λ less. (w.side j (omega arith) q).0 less)
        (eq-or-lt_of_le (le_of_suc-le-suc lt)),
    λ le. (w.side j (omega arith) q).1 (omega arith),
  )

  swept : (f c k : ℕ) (L : Lock) (l : List Rec) → k + c ≡ length l → Base S L l → Edge k l → measure P.up S l ≤ f
      → Swept k c L l (sweep P.stop S f k c L l)
  unfolding sweep
  swept f zero k L l n b e h = record { base = b; done = λ j q. (e j q).0 (omega arith); used = used_none S P.up L l; turns = over }
  swept f (suc c) k L l n b e h =
      let q : k < length l = omega arith in
      let (g, t) = turned k f L l (work_at k L l q b e) ((e k q).1 (omega arith)) h in
      let W : Went = until P.stop S k f L l in
      let edge = edge_next k W.lock W.recs g.work g.stopped in
      let s = swept f c (suc k) W.lock W.recs (omega (arith, g.used.size)) g.work.base edge (omega (arith, g.used.used)) in
      record { base = s.base; done = s.done; used = used_then S P.up L l _ _ g.used s.used; turns = turn t s.turns }

  -- from a state in which no thread is begun
  pub part : (f c : ℕ) (L : Lock) (l : List Rec) → c ≡ length l → Base S L l → ((j : ℕ) → j < length l → P.Pre j (here l j))
      → measure P.up S l ≤ f → Swept 0 c L l (sweep P.stop S f 0 c L l)
  part f c L l n b pre h = swept f c 0 L l (omega arith) b (λ j q. (λ lt. absurd (omega arith), λ le. pre j q)) h
