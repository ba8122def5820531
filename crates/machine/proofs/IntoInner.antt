-- into_inner ends: with nothing dropped and all records Idle, three entries of its thread finish the lock, and the third takes what
-- is in the cell.
use Prim.Native.Nat.{ℕ, ◌<◌}
use mathlib.Core.Path.{◌≡◌, refl, ap, sym, ◌∙◌}
use mathlib.Core.Bool.{true, false, true≢false}
use mathlib.Core.List.{List}
use native.Mathlib.Omega.{arith}
use lib.ListN.{length, set, length-set}
use lib.Seq.{get_or-set_same, set-set}
use package.borrow.Author.Tests.{eqb-true, eq-eqb}
use Rattle.machine.specs.Names.{into_inner}
use Rattle.machine.specs.Words.{bit, is, may_go, goes, next, unbegun, with_exc}
use Rattle.machine.specs.Step.{Scripts, act, fits, busy_of, busy, others, here, op_of, answer, step, settle, claimed, exc_done, wait_done, taken_last}
use Rattle.machine.specs.Sound.{tally, Sound}
use Rattle.machine.specs.When.{AtEntry, for_no_thread, for_script_finished, lock_finished, moved_by_another, for_does_not_fit, for_others_busy, for_not_permitted}
use Rattle.machine.specs.Run.{run}
use Rattle.machine.specs.Ends.{IntoInnerEnds}
use Rattle.machine.specs.declared.Lock.{Lock}
use Rattle.machine.specs.declared.Rec.{Rec}
use Rattle.std.specs.Prelude.{Ok, Option}
use Rattle.machine.specs.declared.Place.{Place}
use Rattle.machine.specs.declared.Place.TheVariants.{Idle, WriteWait, WriteTake}
use Rattle.machine.proofs.Sums.{sum_set, sum_part, sum_other}
use Rattle.machine.proofs.Keep.{bit_le, bit_true, bit_false}
use Rattle.machine.proofs.Refusals.{not_so}
use Rattle.machine.proofs.Fits.{fits_table}
use Rattle.machine.proofs.Every.{says_bit}
use Rattle.machine.proofs.ExactEntry.{is_same, entry_exact}
use Rattle.machine.proofs.Falls.{Still}
use Rattle.machine.proofs.Drains.{idle_still}

ruleset tests = (arith, bit_true, bit_false)

-- ---- where nobody is busy
idle_of : (r : Rec) → busy_of r ≡ 0 → r.place ≡ Idle
idle_of r e = is_same r.place Idle ((says_bit (is r.place Idle)).1 (omega (arith, bit_le (is r.place Idle))))

still_of : (S : Scripts) (l : List Rec) → busy l ≡ 0 → Still (tally S l)
still_of S l calm = idle_still S l (λ j q. idle_of (here l j) (omega (arith, sum_part (λ k r. busy_of r) l j unbegun q)))

-- with nothing dropped the flag is down and the count is 0
free : (S : Scripts) (L : Lock) (l : List Rec) → Sound S L l → L.reads.0 ≡ 0 → L.writes.0 ≡ 0 → L.finished ≡ false → busy l ≡ 0
    → (L.exc ≡ false) × (L.rc.0 ≡ 0)
free S L l h reads writes going calm =
    let still = still_of S l calm in
    let bits : (bit L.exc ≡ 0) × (L.rc.0 ≡ 0) = omega (tests, still, h.counts.flag, h.counts.count) in
    (not_so L.exc (λ t. omega (tests, bits.0)), bits.1)

-- ---- a thread at into_inner that is not refused
record Ready (S : Scripts) (L : Lock) (l : List Rec) (i : ℕ) : Type 0 where
  thread : i < length l
  more : (here l i).at < S.len i
  into : op_of S l i ≡ into_inner
  going : L.finished ≡ false
  mine : may_go L.mover i ≡ true
  calm : others l i ≡ 0

module _ (S : Scripts) (L : Lock) (l : List Rec) (i : ℕ) (h : Ready S L l i) where
  nothing : fits (here l i).place into_inner ≡ true → (k : ℕ) → AtEntry S L l i k → ⊥
  nothing fit k (for_no_thread q) = omega (arith, h.thread)
  nothing fit k (for_script_finished q) = omega (arith, h.more)
  nothing fit k (lock_finished e) = true≢false (sym e ∙ h.going)
  nothing fit k (moved_by_another t e ne) = ne (eqb-true t i (ap (λ (m : Option ℕ). may_go m i) (sym e) ∙ h.mine))
  nothing fit k (for_does_not_fit never) = never ((fits_table _ _).0 (ap (λ (o : ℕ). fits (here l i).place o) h.into ∙ fit))
  nothing fit k (for_others_busy o m j ne q busy) = busy (idle_of (here l j) (omega (arith, sum_other (λ k r. busy_of r) l i j unbegun ne q, h.calm)))
  nothing fit k (for_not_permitted p o e) = omega (arith, h.into)

  -- its entry is what the table does
  accepts : fits (here l i).place into_inner ≡ true
      → step S L l i ≡ settle L l i (Ok (act i L (here l i) (here l i).place into_inner (S.val i (here l i).at)))
  unfolding step answer
  accepts fit = rw ((entry_exact S L l i).1.1 (nothing fit), h.into) refl

  first : (here l i).place ≡ Idle → L.exc ≡ false → step S L l i ≡ settle L l i (Ok (exc_done (claimed L i) (here l i)))
  unfolding act fits
  first p down = accepts (rw p refl) ∙ rw (p, down) refl

  second : (here l i).place ≡ WriteWait → L.rc.0 ≡ 0 → step S L l i ≡ settle L l i (Ok (wait_done L (here l i)))
  unfolding act fits
  second p none = accepts (rw p refl) ∙ rw (p, none) refl

  third : (here l i).place ≡ WriteTake → step S L l i ≡ settle L l i (Ok (taken_last L (here l i)))
  unfolding act fits
  third p = accepts (rw p refl) ∙ rw p refl

-- ---- the three entries
module _ (S : Scripts) (L : Lock) (l : List Rec) (i : ℕ) (h : Ready S L l i) where
  -- inside into_inner, at the place p: the flag is up and the thread is the mover
  abbrev raised : Lock
  raised = with_exc (claimed L i) true

  abbrev inside : Place → List Rec
  inside p = set l i (goes (here l i) p)

  own : (p : Place) → here (inside p) i ≡ goes (here l i) p
  own p = get_or-set_same l i (goes (here l i) p) unbegun h.thread

  within : (p : Place) → Ready S raised (inside p) i
  within p =
      record {
        thread = rw (length-set l i (goes (here l i) p)) h.thread;
        more = rw (own p) h.more;
        into = ap (λ (r : Rec). S.op i r.at) (own p) ∙ h.into;
        going = h.going;
        mine = eq-eqb i i refl;
        calm = rw (set-set l i (goes (here l i) p) unbegun) h.calm;
      }

  waits : L.rc.0 ≡ 0 → step S raised (inside WriteWait) i ≡ settle raised l i (Ok (wait_done raised (here l i)))
  waits none =
      second S raised (inside WriteWait) i (within WriteWait) (ap (λ (r : Rec). r.place) (own WriteWait)) none
      ∙ rw (own WriteWait, set-set l i (goes (here l i) WriteWait) (goes (here l i) WriteTake)) refl

  takes : step S raised (inside WriteTake) i ≡ settle raised l i (Ok (taken_last raised (here l i)))
  takes =
      third S raised (inside WriteTake) i (within WriteTake) (ap (λ (r : Rec). r.place) (own WriteTake))
      ∙ rw (own WriteTake, set-set l i (goes (here l i) WriteTake) (next (here l i) Idle)) refl

pub into_inner_ends : IntoInnerEnds
unfolding run
into_inner_ends S L l i sound reads writes going calm thread more into mine =
    let (down, none) = free S L l sound reads writes going calm in
    let out = sum_set (λ k r. busy_of r) l i unbegun unbegun thread in
    let own = sum_part (λ k r. busy_of r) l i unbegun thread in
    let h : Ready S L l i = record { thread = thread; more = more; into = into; going = going; mine = mine; calm = omega arith } in
    rw (first S L l i h (idle_of (here l i) (omega arith)) down, waits S L l i h none, takes S L l i h, none) (refl, refl, refl)
