-- Each step is as the table has it, code by code: what a way gets and leaves is what the definition of its access gives, and what the
-- table says afterwards. What a borrow and a take got is permitted; and what no entry changes.
use Prim.Native.Nat.{ℕ, ◌≤◌}
use mathlib.Core.Path.{◌≡◌, refl, ap, subst, ◌∙◌}
use mathlib.Core.Logic.{◌≢◌, inl, inr, ⊎_elim}
use mathlib.Core.Bool.{true, cond, ◌||◌, false≢true}
use mathlib.Core.List.{List}
use native.Mathlib.Omega.{arith}
use lib.Dec.{eqb}
use lib.ListN.{length, length-set}
use lib.Seq.{get_or-set_same, get_or-set_other}
use package.borrow.Author.Tests.{le-leb, eq-eqb, eqb-true, eqb-false}
use Rattle.atomic.specs.Permission.{keeps}
use Rattle.cell.specs.Access.{answer_of, value_of}
use Rattle.cell.specs.Value.{kept, is_full}
use Rattle.cell.specs.Value as cell
use Rattle.cell.specs.Pred.{permits}
use Rattle.std.specs.Prelude.{None, Option, Some}
use Rattle.cell.specs.declared.Answer.TheVariants.{Value, Stored}
use Rattle.machine.specs.Names.{loads_rc, exchanges_rc, loads_exc, gives_back, borrows_cell, releases_rc, exchanges_exc, waits_rc, takes_cell, puts_cell, stores_exc, drops_handle, fails_rc, fails_exc}
use Rattle.machine.specs.Words.{bit, unbegun}
use Rattle.machine.specs.Step.{Scripts, Left, unmoved, try_rc, try_exc, claimed, act, answer, step, settle, row_of, here, op_of, val_of, entry_refusal}
use Rattle.machine.specs.Sound.{Tally, Sound}
use Rattle.machine.specs.Accesses.{Rest, TableRow, IsBit, Does1, Does2, Does3, Does4, Does5, Does6, Does7, Does8, Does9, Does10, Does11, Does12, Does13, Does14, Code1, Code2, Code3, Code4, Code5, Code6, Code7, Code8, Code9, Code10, Code11, Code12, Code13, Code14, TellsRc, TellsExc, ExchangeTold, OneOrNought, OneOfFourteen, GotPermitted, OthersStay}
use Rattle.machine.specs.Move.{Move, by_load_below, by_load_full, by_try_done, by_try_lost, by_check_clear, by_check_set, back, lend, release, by_exc_done, by_exc_lost, into_done, into_lost, by_wait_done, by_wait_more, take, take_last, put, store, drop_read, drop_write}
use Rattle.machine.specs.declared.Did.{Did}
use Rattle.machine.specs.declared.Lock.{Lock}
use Rattle.machine.specs.declared.Rec.{Rec}
use Rattle.machine.specs.declared.Row.{Row}
use Rattle.machine.specs.declared.Place.{Place}
use Rattle.machine.proofs.Moves.{either_way, moves}
use Rattle.machine.proofs.Keep.{moved, Before, bit_le}
use Rattle.machine.proofs.Steps.{frame, passed, answered, before}
use Rattle.machine.proofs.Every.{says_bit}

-- what is to be shown of a row of that access, for all codes in one; of a number that is no code nothing, and so of a refused row
abbrev AsTable : ℕ → TableRow
AsTable access i L r o v M s got =
    cond (eqb access loads_rc) (Does1 i L r o v M s got)
    (cond (eqb access exchanges_rc) (Does2 i L r o v M s got)
    (cond (eqb access loads_exc) (Does3 i L r o v M s got)
    (cond (eqb access gives_back) (Does4 i L r o v M s got)
    (cond (eqb access borrows_cell) (Does5 i L r o v M s got)
    (cond (eqb access releases_rc) (Does6 i L r o v M s got)
    (cond (eqb access exchanges_exc) (Does7 i L r o v M s got)
    (cond (eqb access waits_rc) (Does8 i L r o v M s got)
    (cond (eqb access takes_cell) (Does9 i L r o v M s got)
    (cond (eqb access puts_cell) (Does10 i L r o v M s got)
    (cond (eqb access stores_exc) (Does11 i L r o v M s got)
    (cond (eqb access drops_handle) (Does12 i L r o v M s got)
    (cond (eqb access fails_rc) (Does13 i L r o v M s got)
    (cond (eqb access fails_exc) (Does14 i L r o v M s got)
    (Unit {0}))))))))))))))

-- ---- what the cell answers, by what is in it
of_full : (c : Option ℕ) → bit (is_full c) ≡ 1 → (cell.borrow c ≡ keeps c (Value (kept c))) × (cell.take c ≡ record { leaves = None; answers = Value (kept c) })
of_full None e = absurd (omega arith)
of_full (Some x) e = (refl, refl)

of_empty : (v : ℕ) (c : Option ℕ) → bit (is_full c) ≡ 0 → cell.put v c ≡ record { leaves = Some v; answers = Stored }
of_empty v None e = refl
of_empty v (Some x) e = absurd (omega arith)

-- nothing else of the lock has changed
rest : (L : Lock) → Rest L L
rest L = ((refl, refl), (refl, refl))

module _ (i : ℕ) (L : Lock) (n : ℕ) (ops : ℕ → ℕ) (R : Tally) (r : Rec) (v : ℕ) where
  -- Counts gives that the count is not 0 where it goes down, that the cell is full for a borrow and a take, and empty for a put
  as_table : (p : Place) (d : Did) → Move i L r (ops r.at) v p d → Before L n ops R (moved r p) v
      → AsTable d.access i L (moved r p) (ops r.at) v d.lock d.rec d.got
  as_table p d (by_load_below e t) b = (refl, e, (refl, refl, refl, refl), rw t refl, rest L)
  as_table p d (by_load_full e t) b = (refl, e, (refl, refl, refl, refl), rw t refl, rest L)
  as_table p d (by_try_done e t) b = (refl, e, rw t (refl, refl, refl, refl), eqb-true L.rc.0 r.seen.0 t, refl, rest L)
  as_table p d (by_try_lost e t) b = (refl, e, rw t (refl, refl, refl, refl), eqb-false L.rc.0 r.seen.0 t, refl, rest L)
  as_table p d (by_check_clear e t) b = (refl, e, rw t (refl, refl, refl, refl), refl, refl, rest L)
  as_table p d (by_check_set e t) b = (refl, e, rw t (refl, refl, refl, refl), refl, refl, rest L)
  as_table p d (back e) b = (refl, e, rw (le-leb 1 L.rc.0 (omega arith)) (refl, refl, refl, refl), refl, rest L)
  as_table p d (lend e) b = (refl, e, rw (of_full L.cell (omega arith)).0 (refl, refl, refl, refl), refl, rest L)
  as_table p d (release e) b = (refl, e, rw (le-leb 1 L.rc.0 (omega arith)) (refl, refl, refl, refl), refl, rest L)
  as_table p d (by_exc_done e t) b = (refl, inl e, rw t (refl, refl, refl, refl), refl, refl, rw e refl, refl, (refl, refl))
  as_table p d (by_exc_lost e t) b = (refl, inl e, rw t (refl, refl, refl, refl), refl, refl, rw e refl, refl, (refl, refl))
  as_table p d (into_done e t) b = (refl, inr e, rw t (refl, refl, refl, refl), refl, refl, rw e refl, refl, (refl, refl))
  as_table p d (into_lost e t) b = (refl, inr e, rw t (refl, refl, refl, refl), refl, refl, rw e refl, refl, (refl, refl))
  as_table p d (by_wait_done e t) b = (refl, e, (refl, refl, refl, refl), rw t refl, rest L)
  as_table p d (by_wait_more e t) b = (refl, e, (refl, refl, refl, refl), rw t refl, rest L)
  as_table p d (take e) b = (refl, inl e, rw (of_full L.cell (omega arith)).1 (refl, refl, refl, refl), rw e refl, rw e refl, rw e refl, (refl, refl))
  as_table p d (take_last e) b = (refl, inr e, rw (of_full L.cell (omega arith)).1 (refl, refl, refl, refl), rw e refl, rw e refl, rw e refl, (refl, refl))
  as_table p d (put e) b = (refl, e, rw (of_empty v L.cell (omega arith)) (refl, refl, refl, refl), refl, refl, rest L)
  as_table p d (store e) b = (refl, e, (refl, refl, refl, refl), refl, refl, rest L)
  as_table p d (drop_read e) b = (inl refl, e, (refl, refl, refl), refl, refl, refl, omega arith, (refl, refl))
  as_table p d (drop_write e) b = (inr refl, e, (refl, refl, refl), refl, refl, omega arith, refl, (refl, refl))

module _ (code : ℕ) (S : Scripts) (L : Lock) (l : List Rec) (i : ℕ) where
  -- the step's row, as the table has the code k
  abbrev Tabled : ℕ → Left → Type 0
  Tabled k w = AsTable k i L (here l i) (op_of S l i) (val_of S l i) w.lock (here w.recs i) w.row.got

  at_code : Sound S L l → (step S L l i).row.access ≡ code → Tabled code (step S L l i)
  unfolding step
  at_code h e =
      subst (λ (k : ℕ). Tabled k (step S L l i)) e
      (answered (λ out. let w = settle L l i out in Tabled w.row.access w) S L l i (λ k. tt)
      (λ p d mv. rw (get_or-set_same l i d.rec unbegun p.thread) (as_table _ _ _ _ _ _ _ _ d mv (before S l i p.thread L h p))))

-- ---- one statement a code
pub code_1 : Code1
code_1 = at_code loads_rc

pub code_2 : Code2
code_2 = at_code exchanges_rc

pub code_3 : Code3
code_3 = at_code loads_exc

pub code_4 : Code4
code_4 = at_code gives_back

pub code_5 : Code5
code_5 = at_code borrows_cell

pub code_6 : Code6
code_6 = at_code releases_rc

pub code_7 : Code7
code_7 = at_code exchanges_exc

pub code_8 : Code8
code_8 = at_code waits_rc

pub code_9 : Code9
code_9 = at_code takes_cell

pub code_10 : Code10
code_10 = at_code puts_cell

pub code_11 : Code11
code_11 = at_code stores_exc

pub code_12 : Code12
code_12 = at_code drops_handle

pub code_13 : Code13
code_13 = at_code fails_rc

pub code_14 : Code14
code_14 = at_code fails_exc

-- ---- what an exchange returned: no state has to be sound for it
-- the row of what was done by thread i
abbrev done_row : ℕ → Did → Row
done_row i d = row_of i d.lock d.access 0 d.got

tells_rc : (i : ℕ) (L : Lock) (r : Rec) → TellsRc L r (done_row i (try_rc L r))
tells_rc i L r = either_way (λ (d : Did). TellsRc L r (done_row i d)) (unmoved L r) (λ e. (inl refl, rw e refl)) (λ e. (inr refl, rw e refl))

tells_exc : (i : ℕ) (L : Lock) (r : Rec) → TellsExc L (done_row i (try_exc L r))
tells_exc i L r = either_way (λ (d : Did). TellsExc L (done_row i d)) L.exc (λ e. (inr refl, rw e refl)) (λ e. (inl refl, rw e refl))

pub exchange_told : ExchangeTold
unfolding step answer act
exchange_told S L l i none =
    rw (eq-eqb (entry_refusal S L l i) 0 none) (
      λ p. rw p (tells_rc i L (here l i)),
      λ p. ⊎_elim (λ e. rw (p, e) (tells_exc i L (here l i))) (λ e. rw (p, e) (tells_exc i (claimed L i) (here l i))),
    )

-- ---- what every row has: no state has to be sound for it
-- got is 1 or 0, if the access is a load or an exchange of the flag
abbrev GotBit : ℕ → ℕ → Type 0
GotBit access got = (eqb access loads_exc || (eqb access exchanges_exc || eqb access fails_exc)) ≡ true → IsBit got

-- and the code is one of the fourteen
abbrev Known : ℕ → ℕ → Type 0
Known access got = (1 ≤ access) × (access ≤ fails_exc) × GotBit access got

module _ (i : ℕ) (L : Lock) (r : Rec) (o v : ℕ) where
  known : (p : Place) (d : Did) → Move i L r o v p d → Known d.access d.got
  known p d (by_load_below e t) = (omega arith, omega arith, λ h. absurd (false≢true h))
  known p d (by_load_full e t) = (omega arith, omega arith, λ h. absurd (false≢true h))
  known p d (by_try_done e t) = (omega arith, omega arith, λ h. absurd (false≢true h))
  known p d (by_try_lost e t) = (omega arith, omega arith, λ h. absurd (false≢true h))
  known p d (by_check_clear e t) = (omega arith, omega arith, λ h. refl)
  known p d (by_check_set e t) = (omega arith, omega arith, λ h. refl)
  known p d (back e) = (omega arith, omega arith, λ h. absurd (false≢true h))
  known p d (lend e) = (omega arith, omega arith, λ h. absurd (false≢true h))
  known p d (release e) = (omega arith, omega arith, λ h. absurd (false≢true h))
  known p d (by_exc_done e t) = (omega arith, omega arith, λ h. refl)
  known p d (by_exc_lost e t) = (omega arith, omega arith, λ h. refl)
  known p d (into_done e t) = (omega arith, omega arith, λ h. refl)
  known p d (into_lost e t) = (omega arith, omega arith, λ h. refl)
  known p d (by_wait_done e t) = (omega arith, omega arith, λ h. absurd (false≢true h))
  known p d (by_wait_more e t) = (omega arith, omega arith, λ h. absurd (false≢true h))
  known p d (take e) = (omega arith, omega arith, λ h. absurd (false≢true h))
  known p d (take_last e) = (omega arith, omega arith, λ h. absurd (false≢true h))
  known p d (put e) = (omega arith, omega arith, λ h. absurd (false≢true h))
  known p d (store e) = (omega arith, omega arith, λ h. absurd (false≢true h))
  known p d (drop_read e) = (omega arith, omega arith, λ h. absurd (false≢true h))
  known p d (drop_write e) = (omega arith, omega arith, λ h. absurd (false≢true h))

pub one_or_nought : OneOrNought
unfolding step
one_or_nought S L l i =
    answered (λ out. GotBit (settle L l i out).row.access (settle L l i out).row.got) S L l i
    (λ k h. absurd (false≢true h))
    (λ p d mv. (known _ _ _ _ _ _ d mv).2)

pub one_of_fourteen : OneOfFourteen
unfolding step answer
one_of_fourteen S L l i e =
    let k = known _ _ _ _ _ _ _ (moves i L (here l i) (op_of S l i) (val_of S l i) (here l i).place (passed S L l i e).fit) in
    rw (eq-eqb (entry_refusal S L l i) 0 e) (k.0, k.1)

-- ---- what a borrow and a take got is permitted
-- a cell that gave x to a borrow keeps x
gave : (c : Option ℕ) (x : ℕ) → (cell.borrow c).answers ≡ Value x → (bit (is_full c) ≡ 1) × (kept c ≡ x)
gave None x e = absurd (omega (arith, ap answer_of e))
gave (Some v) x e = (refl, ap value_of e)

-- a take answers as a borrow does
answers_alike : (c : Option ℕ) → (cell.borrow c).answers ≡ (cell.take c).answers
answers_alike None = refl
answers_alike (Some v) = refl

module _ (S : Scripts) (L : Lock) (l : List Rec) (h : Sound S L l) where
  permitted : (x : ℕ) → (cell.borrow L.cell).answers ≡ Value x → permits L.pred x ≡ true
  permitted x e =
      let (full, keeps) = gave L.cell x e in
      subst (λ (n : ℕ). permits L.pred n ≡ true) keeps
      ((says_bit (permits L.pred (kept L.cell))).1 (omega (arith, full, h.counts.value, bit_le (permits L.pred (kept L.cell)))))

pub got_permitted : GotPermitted
got_permitted = (
  λ S L l i h e. permitted S L l h _ (code_5 S L l i h e).2.0,
  λ S L l i h e. permitted S L l h _ (answers_alike L.cell ∙ (code_9 S L l i h e).2.0),
)

-- ---- what no entry changes
abbrev Stays : Lock → List Rec → ℕ → Left → Type 0
Stays L l i left =
    (left.lock.pred ≡ L.pred)
    × (left.lock.top ≡ L.top)
    × (length left.recs ≡ length l)
    × ((j : ℕ) → j ≢ i → here left.recs j ≡ here l j)

pub others_stay : OthersStay
unfolding step
others_stay S L l i =
    answered (λ out. Stays L l i (settle L l i out)) S L l i (λ k. (refl, refl, refl, λ j ne. refl))
    (λ p d mv.
    let s = frame _ _ _ _ _ _ d mv in
    (s.pred, s.top, length-set l i d.rec, λ j ne. get_or-set_other l i j d.rec unbegun ne))
