-- The answer to an entry is exact: 11 to 16 are given in the cases that the table of refusals names, lowest first, and in no other.
use Prim.Native.Nat.{ℕ, zero, suc, ◌<◌}
use mathlib.Core.Path.{◌≡◌, refl, sym, ◌∙◌, ap}
use mathlib.Core.Logic.{◌≢◌, inl, inr}
use mathlib.Core.Bool.{true, false, ◌&&◌, not, cond, true≢false, false≢true, and-eq-true_iff, or-true}
use mathlib.Core.List.{List, [], ◌∷◌}
use native.Mathlib.Omega.{arith}
use lib.Dec.{eqb, ltb}
use lib.ListN.{length, get_or, set, length-set}
use lib.Seq.{get_or-set_other}
use package.borrow.Author.Tests.{ltb-true, lt-ltb, leb-true, le-leb, eqb-true, eqb-false, eq-eqb, ne_eqb, not-true}
use Rattle.cell.specs.Pred.{permits}
use Rattle.machine.specs.Names.{release_write, into_inner, lock_gone, others_busy, not_permitted}
use Rattle.machine.specs.Words.{bit, place_no, is, may_go, begun, unbegun}
use Rattle.machine.specs.Step.{Scripts, sum, busy_of, others, here, op_of, val_of, entry_checks, entry_refusal}
use Rattle.machine.specs.When.{AtEntry, for_no_thread, for_script_finished, lock_finished, moved_by_another, for_does_not_fit, for_others_busy, for_not_permitted, EntryExact}
use Rattle.machine.specs.declared.Lock.{Lock}
use Rattle.machine.specs.declared.Rec.{Rec}
use Rattle.std.specs.Prelude.{None, Option, Some}
use Rattle.machine.specs.declared.Place.{Place}
use Rattle.machine.specs.declared.Place.TheVariants.{Idle, ReadTry, ReadCheck, ReadBack, Reading, WriteWait, WriteTake, Writing, WritePut}
use Rattle.machine.proofs.Refusals.{Applies, Means, ◌and◌, either, not_so, exact}
use Rattle.machine.proofs.Sums.{sum_other}
use Rattle.machine.proofs.Fits.{fits_table}

-- ---- places: by its number a place is found again, so the test says that two are one
numbered : ℕ → Place
numbered n =
    cond (eqb n 0) Idle
    (cond (eqb n 1) ReadTry
    (cond (eqb n 2) ReadCheck
    (cond (eqb n 3) ReadBack
    (cond (eqb n 4) Reading
    (cond (eqb n 5) WriteWait
    (cond (eqb n 6) WriteTake
    (cond (eqb n 7) Writing WritePut)))))))

numbered_is : (p : Place) → numbered (place_no p) ≡ p
unfolding numbered
numbered_is Idle = refl
numbered_is ReadTry = refl
numbered_is ReadCheck = refl
numbered_is ReadBack = refl
numbered_is Reading = refl
numbered_is WriteWait = refl
numbered_is WriteTake = refl
numbered_is Writing = refl
numbered_is WritePut = refl

pub is_same : (p q : Place) → is p q ≡ true → p ≡ q
is_same p q e = sym (numbered_is p) ∙ ap numbered (eqb-true (place_no p) (place_no q) e) ∙ numbered_is q

-- ---- a record weighs something exactly if it is not Idle
weighs : (r : Rec) → r.place ≢ Idle → 0 < busy_of r
weighs r ne = omega (arith, ap bit (not_so (is r.place Idle) (λ e. ne (is_same r.place Idle e))))

not_idle : (r : Rec) → 0 < busy_of r → r.place ≢ Idle
not_idle r h e = omega (arith, ap (λ (p : Place). bit (is p Idle)) e)

-- in a sum above 0 some record weighs something
positive : (f : Rec → ℕ) (d : Rec) (k : ℕ) (l : List Rec) → 0 < sum (λ k r. f r) k l → (j : ℕ) × (j < length l) × (0 < f (get_or l j d))
unfolding sum
positive f d k [] h = absurd (omega arith)
positive f d k (r ∷ l) h = go (f r) refl (positive f d (suc k) l)
  where
    go : (w : ℕ) → f r ≡ w → (0 < sum (λ k r. f r) (suc k) l → (j : ℕ) × (j < length l) × (0 < f (get_or l j d)))
        → (j : ℕ) × (j < suc (length l)) × (0 < f (get_or (r ∷ l) j d))
    go zero e more = let (j, below, some) = more (omega arith) in (suc j, omega arith, some)
    go (suc w) e more = (0, omega arith, omega arith)

-- ---- another record is not Idle
-- record i is out of the sum of the others
set_out_own : (l : List Rec) (i j : ℕ) (d : Rec) → j ≡ i → get_or (set l i d) j d ≡ d
set_out_own [] i j d e = refl
set_out_own (x ∷ l) zero zero d e = refl
set_out_own (x ∷ l) zero (suc j) d e = absurd (omega arith)
set_out_own (x ∷ l) (suc i) zero d e = absurd (omega arith)
set_out_own (x ∷ l) (suc i) (suc j) d e = set_out_own l i j d (omega arith)

module _ (l : List Rec) (i : ℕ) where
  some_other : 0 < others l i → (j : ℕ) × (j ≢ i) × (j < length l) × ((here l j).place ≢ Idle)
  some_other h =
      let (j, below, busy) = positive busy_of unbegun 0 (set l i unbegun) h in
      let other : j ≢ i = λ e. omega (arith, ap busy_of (set_out_own l i j unbegun e)) in
      (j, other, rw length-set at below, not_idle (here l j) (rw (get_or-set_other l i j unbegun unbegun other) at busy))

  busy_counted : (j : ℕ) → j ≢ i → j < length l → (here l j).place ≢ Idle → 0 < others l i
  busy_counted j ne h busy = omega (arith, sum_other (λ k r. busy_of r) l i j unbegun ne h, weighs (here l j) busy)

-- ---- the mover
begun_by : (m : Option ℕ) (i : ℕ) → begun m i ≡ false → m ≢ Some i
begun_by m i e q = true≢false (sym (eq-eqb i i refl) ∙ ap (λ (m : Option ℕ). begun m i) (sym q) ∙ e)

not_begun : (m : Option ℕ) (i : ℕ) → m ≢ Some i → begun m i ≡ false
not_begun None i ne = refl
not_begun (Some t) i ne = ne_eqb t i (λ e. ne (ap Some e))

-- ---- each check has its condition, and each condition its check
module _ (S : Scripts) (L : Lock) (l : List Rec) (i : ℕ) where
  moved : (m : Option ℕ) → L.mover ≡ m → not (may_go m i) ≡ true → AtEntry S L l i lock_gone
  moved None e t = absurd (false≢true t)
  moved (Some x) e t = moved_by_another x e (eqb-false x i (not-true _ t))

  busy_means : (eqb (op_of S l i) into_inner && (not (begun L.mover i) && ltb 0 (others l i))) ≡ true → AtEntry S L l i others_busy
  busy_means t =
      let (o, rest) = (and-eq-true_iff _ _).0 t in
      let (fresh, above) = (and-eq-true_iff _ _).0 rest in
      let (j, other, below, busy) = some_other l i (ltb-true _ _ above) in
      for_others_busy (eqb-true _ _ o) (begun_by L.mover i (not-true _ fresh)) j other below busy

  permit_means : (is (here l i).place Writing && (eqb (op_of S l i) release_write && not (permits L.pred (val_of S l i)))) ≡ true
      → AtEntry S L l i not_permitted
  permit_means t =
      let (p, rest) = (and-eq-true_iff _ _).0 t in
      let (o, against) = (and-eq-true_iff _ _).0 rest in
      for_not_permitted (is_same _ _ p) (eqb-true _ _ o) (not-true _ against)

  entry_means : Means (AtEntry S L l i) (entry_checks S L l i)
  entry_means =
      (λ t. for_no_thread (leb-true _ _ t))
      and (λ t. for_script_finished (leb-true _ _ t))
      and either _ _ lock_finished (moved L.mover refl)
      and (λ t. for_does_not_fit (λ f. true≢false (sym ((fits_table _ _).1 f) ∙ not-true _ t)))
      and busy_means
      and permit_means
      and tt

  entry_finds : (k : ℕ) → AtEntry S L l i k → Applies (entry_checks S L l i) k
  entry_finds k (for_no_thread h) = inl (refl, le-leb _ _ h)
  entry_finds k (for_script_finished h) = inr (inl (refl, le-leb _ _ h))
  entry_finds k (lock_finished e) = inr (inr (inl (refl, rw e)))
  entry_finds k (moved_by_another t e ne) = inr (inr (inl (refl, rw (e, ne_eqb t i ne, or-true))))
  entry_finds k (for_does_not_fit never) = inr (inr (inr (inl (refl, ap not (not_so _ (λ e. never ((fits_table _ _).0 e)))))))
  entry_finds k (for_others_busy o m j ne h p) =
      inr (inr (inr (inr (inl (refl, rw (eq-eqb _ _ o, not_begun L.mover i m, lt-ltb 0 (others l i) (busy_counted l i j ne h p)))))))
  entry_finds k (for_not_permitted p o e) = inr (inr (inr (inr (inr (inl (refl, rw (p, eq-eqb _ _ o, e)))))))

pub entry_exact : EntryExact
unfolding entry_refusal
entry_exact S L l i = exact (AtEntry S L l i) (entry_checks S L l i) (omega arith) (entry_means S L l i) (entry_finds S L l i)
