-- The reason is the one that there is: true of the state, and no other is.
use Prim.Native.Nat.{ℕ, ◌+◌, ◌<◌, ◌≤◌}
use mathlib.Core.Path.{◌≡◌, refl, sym, ap, ◌∙◌, subst}
use mathlib.Core.Logic.{◌≢◌, ◌⊎◌, inl, inr, ⊎_elim}
use mathlib.Core.Bool.{Bool, true, false, true≢false, false≢true, beq}
use mathlib.Core.List.{List}
use native.Mathlib.Omega.{arith}
use lib.Dec.{eqb}
use lib.ListN.{length}
use package.borrow.Author.Tests.{eqb-true, eqb-false, eq-eqb}
use Rattle.atomic.specs.Access.{Reply, old, failed, nothing, refused, compare_exchange}
use Rattle.machine.specs.Names.{loads_rc, loads_exc, waits_rc, fails_rc, fails_exc}
use Rattle.machine.specs.Step.{Scripts, here, entry_refusal, step}
use Rattle.machine.specs.Sound.{Sound}
use Rattle.machine.specs.declared.Lock.{Lock}
use Rattle.machine.specs.declared.Rec.{Rec}
use Rattle.machine.specs.declared.Row.{Row}
use Rattle.machine.specs.declared.Place.{Place}
use Rattle.machine.specs.declared.Place.TheVariants.{Idle, ReadCheck, WriteWait}
use Rattle.machine.specs.Words.{plain}
use Rattle.machine.proofs.Accesses.{code_1, code_3, code_8, code_13, code_14}
use Rattle.machine.proofs.RunLaws.{row_says, refused_entry}
use Rattle.machine.proofs.Steps.{passed}
use Rattle.why.specs.Why.{has_flag, is_counted, blocker_of, why}
use Rattle.why.specs.Reasons.{Names, holder, reader, SeesFull, LosesCount, MeetsFlag, MeetsReaders, Failed, as_sees_full, as_loses_count, as_meets_flag, as_meets_readers, Waits, HasFlag, Counted, NoneBelow, Because, not_waiting, count_full, count_changed, flag_held, flag_dropped, counted_by, counted_dropped, WaitsExactly, WhyExact, OneReason, OfFlag, OfReaders, FitsRow, ForAnother, NotFinished, LowestCounted}
use Rattle.why.specs.declared.Reason.{Reason}
use Rattle.why.specs.declared.Reason.TheVariants.{NotWaiting, CountFull, CountChanged, Flag, Readers}
use Rattle.std.specs.Prelude.{Some}
use Rattle.why.proofs.Means.{says_has_flag, says_counted, reason_by, at_full, at_loses, at_flag, at_readers}
use Rattle.why.proofs.Blockers.{blocker_by, lowest_is, none_is, same_holder, dropped_write, dropped_read}

-- ---- waiting
-- a row that has an access is accepted
taken : (S : Scripts) (L : Lock) (l : List Rec) (i k : ℕ) → (step S L l i).row.access ≡ k → 1 ≤ k → (step S L l i).row.answer ≡ 0
taken S L l i k e some = go (eqb (entry_refusal S L l i) 0) refl
  where
    go : (b : Bool) → eqb (entry_refusal S L l i) 0 ≡ b → (step S L l i).row.answer ≡ 0
    go true z = (row_says S L l i).0 ∙ eqb-true _ 0 z
    go false z = absurd (omega (arith, e, ap (λ (r : Row). r.access) (refused_entry S L l i (eqb-false _ 0 z)).2))

failed_taken : (S : Scripts) (L : Lock) (l : List Rec) (i : ℕ) → Failed L.top.0 (step S L l i).row → Waits S L l i
failed_taken S L l i f = (go f, f)
  where
    go : Failed L.top.0 (step S L l i).row → (step S L l i).row.answer ≡ 0
    go (as_sees_full h) = taken S L l i loads_rc h.0 (omega arith)
    go (as_loses_count h) = taken S L l i fails_rc h (omega arith)
    go (as_meets_flag (inl h)) = taken S L l i loads_exc h.0 (omega arith)
    go (as_meets_flag (inr h)) = taken S L l i fails_exc h (omega arith)
    go (as_meets_readers h) = taken S L l i waits_rc h.0 (omega arith)

-- whether a reason is one of waiting
abbrev of_waiting : Reason → Bool
of_waiting NotWaiting = false
of_waiting CountFull = true
of_waiting CountChanged = true
of_waiting (Flag b) = true
of_waiting (Readers b) = true

other : (y : Reason) → of_waiting y ≡ true → y ≢ NotWaiting
other y e z = false≢true (sym (ap of_waiting z) ∙ e)

module _ (S : Scripts) (L : Lock) (l : List Rec) (i : ℕ) where
  abbrev M : ℕ
  M = L.top.0

  abbrev row : Row
  row = (step S L l i).row

  is_waiting : Waits S L l i → why S L l i ≢ NotWaiting
  is_waiting w = go w.1
    where
      go : Failed M row → why S L l i ≢ NotWaiting
      go (as_sees_full h) = other _ (ap of_waiting (at_full M row l h))
      go (as_loses_count h) = other _ (ap of_waiting (at_loses M row l h))
      go (as_meets_flag h) = other _ (ap of_waiting (at_flag M row l h))
      go (as_meets_readers h) = other _ (ap of_waiting (at_readers M row l h))

  waiting_is : why S L l i ≢ NotWaiting → Waits S L l i
  waiting_is =
      reason_by M row (λ y. y ≢ NotWaiting → Waits S L l i) l
      (λ h _. failed_taken S L l i (as_sees_full h))
      (λ h _. failed_taken S L l i (as_loses_count h))
      (λ h _. failed_taken S L l i (as_meets_flag h))
      (λ h _. failed_taken S L l i (as_meets_readers h))
      (λ _ n. absurd (n refl))

  not_finished_here : Waits S L l i → L.finished ≡ false
  not_finished_here w = (passed S L l i (sym (row_says S L l i).0 ∙ w.0)).going

  -- ---- what each failed row says of the state
  module _ (h : Sound S L l) where
    -- the value of an answer, and whether it is one of a done access
    loaded : {A : Type 0} (x y : A) → old x ≡ old y → x ≡ y
    loaded {A} x y e = ap (λ (r : Reply A). value r) e
      where
        value : Reply A → A
        value (old v) = v
        value (failed v) = v
        value nothing = x
        value (refused k) = x

    abbrev is_done : {A : Type 0} → Reply A → Bool
    is_done (old v) = true
    is_done (failed v) = false
    is_done nothing = true
    is_done (refused k) = false

    pub full_here : SeesFull M row → L.rc.0 ≡ M
    full_here (code, got) = loaded _ _ (code_1 S L l i h code).2.0 ∙ got

    pub readers_here : MeetsReaders row → L.rc.0 ≢ 0
    readers_here (code, got) z = got (sym (loaded _ _ (code_8 S L l i h code).2.0) ∙ z)

    pub changed_here : LosesCount row → L.rc.0 ≢ (here l i).seen.0
    changed_here code same =
        let won : is_done (compare_exchange eqb (here l i).seen.0 ((here l i).seen.0 + 1) L.rc.0).answers ≡ true = rw (eq-eqb _ _ same) refl in
        true≢false (sym won ∙ ap is_done (code_13 S L l i h code).2.0)

    pub up_here : MeetsFlag row → L.exc ≡ true
    up_here (inl (code, got)) = loaded _ _ (code_3 S L l i h code).2.0 ∙ eq-eqb _ _ got
    up_here (inr code) = go L.exc (ap is_done (code_14 S L l i h code).2.0)
      where
        go : (b : Bool) → is_done (compare_exchange beq false true b).answers ≡ false → b ≡ true
        go true e = refl
        go false e = absurd (true≢false e)

    -- ---- whom the thread waits for
    flag_because : MeetsFlag row → Because S L l i (Flag (blocker_of has_flag l))
    flag_because m =
        let up = up_here m in
        let going = not_finished_here (failed_taken S L l i (as_meets_flag m)) in
        blocker_by has_flag HasFlag says_has_flag l (λ b. Because S L l i (Flag b))
        (λ w lt p below. flag_held w m up lt p)
        (λ free. flag_dropped m up free (dropped_write S L l h up going free))

    readers_because : MeetsReaders row → Because S L l i (Readers (blocker_of is_counted l))
    readers_because m =
        let some = readers_here m in
        blocker_by is_counted Counted says_counted l (λ b. Because S L l i (Readers b))
        (λ w lt p below. counted_by w m some lt p below)
        (λ free. counted_dropped m some free (dropped_read S L l h free))

    because : Because S L l i (why S L l i)
    because =
        reason_by M row (Because S L l i) l (λ m. count_full m (full_here m)) (λ m. count_changed m (changed_here m)) flag_because readers_because
        (λ n. not_waiting (λ w. n w.1))

    -- ---- and no other reason is true
    -- the one holder is the lowest-numbered
    no_holder_below : (w : ℕ) → w < length l → HasFlag (here l w) → NoneBelow HasFlag l w
    no_holder_below w lt p j less q = omega (arith, same_holder S L l h w j lt (omega arith) p q)

    only : (y : Reason) → Because S L l i y → why S L l i ≡ y
    only y (not_waiting n) =
        reason_by M row (λ x. x ≡ NotWaiting) l
        (λ m. absurd (n (failed_taken S L l i (as_sees_full m))))
        (λ m. absurd (n (failed_taken S L l i (as_loses_count m))))
        (λ m. absurd (n (failed_taken S L l i (as_meets_flag m))))
        (λ m. absurd (n (failed_taken S L l i (as_meets_readers m))))
        (λ _. refl)
    only y (count_full m e) = at_full M row l m
    only y (count_changed m e) = at_loses M row l m
    only y (flag_held w m up lt p) = at_flag M row l m ∙ ap Flag (lowest_is has_flag HasFlag says_has_flag l w lt p (no_holder_below w lt p))
    only y (flag_dropped m up free e) = at_flag M row l m ∙ ap Flag (none_is has_flag HasFlag says_has_flag l free)
    only y (counted_by w m some lt p below) = at_readers M row l m ∙ ap Readers (lowest_is is_counted Counted says_counted l w lt p below)
    only y (counted_dropped m some free e) = at_readers M row l m ∙ ap Readers (none_is is_counted Counted says_counted l free)

pub waits_exactly : WaitsExactly
waits_exactly S L l i = (waiting_is S L l i, is_waiting S L l i)

pub why_exact : WhyExact
why_exact S L l i h y = (λ e. rw e at (because S L l i h), only S L l i h y)

-- the reader that is named
pub lowest_counted : LowestCounted
lowest_counted S L l i w h e = go ((why_exact S L l i h (Readers (Some w))).0 e)
  where
    go : Because S L l i (Readers (Some w)) → (w < length l) × Counted (here l w) × NoneBelow Counted l w
    go (counted_by v m some lt p below) = (lt, p, below)

pub one_reason : OneReason
one_reason S L l i h w = (is_waiting S L l i w, because S L l i h, λ z b. sym (only S L l i h z b))

pub not_finished : NotFinished
not_finished S L l i w = not_finished_here S L l i w

-- ---- each reason is given for its rows
abbrev kind_of : Reason → ℕ
kind_of NotWaiting = 0
kind_of CountFull = 1
kind_of CountChanged = 2
kind_of (Flag b) = 3
kind_of (Readers b) = 4

of_flag : (y : Reason) → OfFlag y → kind_of y ≡ 3
of_flag y (OfFlag.flag b) = refl

of_readers : (y : Reason) → OfReaders y → kind_of y ≡ 4
of_readers y (OfReaders.readers b) = refl

-- the row that a reason of each kind has
abbrev Row_of : ℕ → Row → ℕ → Type 0
Row_of M row n = (n ≡ 1 → SeesFull M row) × (n ≡ 2 → LosesCount row) × (n ≡ 3 → MeetsFlag row) × (n ≡ 4 → MeetsReaders row)

row_of : (S : Scripts) (L : Lock) (l : List Rec) (i : ℕ) → Row_of L.top.0 (step S L l i).row (kind_of (why S L l i))
row_of S L l i =
    reason_by L.top.0 (step S L l i).row (λ y. Row_of L.top.0 (step S L l i).row (kind_of y)) l
    (λ m. (λ e. m, λ e. absurd (omega arith), λ e. absurd (omega arith), λ e. absurd (omega arith)))
    (λ m. (λ e. absurd (omega arith), λ e. m, λ e. absurd (omega arith), λ e. absurd (omega arith)))
    (λ m. (λ e. absurd (omega arith), λ e. absurd (omega arith), λ e. m, λ e. absurd (omega arith)))
    (λ m. (λ e. absurd (omega arith), λ e. absurd (omega arith), λ e. absurd (omega arith), λ e. m))
    (λ n. (λ e. absurd (omega arith), λ e. absurd (omega arith), λ e. absurd (omega arith), λ e. absurd (omega arith)))

pub fits_row : FitsRow
fits_row S L l i =
    let M = L.top.0 in
    let row = (step S L l i).row in
    let (full, loses, flag, readers) = row_of S L l i in (
      (λ e. full (ap kind_of e), at_full M row l),
      (λ e. loses (ap kind_of e), at_loses M row l),
      (λ f. flag (of_flag _ f), λ m. rw (at_flag M row l m) (OfFlag.flag _)),
      (λ f. readers (of_readers _ f), λ m. rw (at_readers M row l m) (OfReaders.readers _)),
    )

-- ---- nobody waits for itself
-- a record that holds the flag is at no place at which the flag is met
flag_places : (r : Rec) → HasFlag r → (r.place ≡ ReadCheck) ⊎ (r.place ≡ Idle) → ⊥
flag_places r p at = true≢false (sym ((says_has_flag r).1 p) ∙ ⊎_elim (ap flag_at) (ap flag_at) at)
  where
    flag_at : Place → Bool
    flag_at q = has_flag (plain 0 q)

count_places : (r : Rec) → Counted r → r.place ≡ WriteWait → ⊥
count_places r p at = true≢false (sym ((says_counted r).1 p) ∙ ap count_at at)
  where
    count_at : Place → Bool
    count_at q = is_counted (plain 0 q)

pub for_another : ForAnother
for_another S L l i w h n = go (why S L l i) (because S L l i h) n
  where
    place : MeetsFlag (step S L l i).row → ((here l i).place ≡ ReadCheck) ⊎ ((here l i).place ≡ Idle)
    place (inl m) = inl (code_3 S L l i h m.0).0
    place (inr m) = inr (code_14 S L l i h m).0

    -- the record w stands where thread i does not
    go : (y : Reason) → Because S L l i y → Names y w → w ≢ i
    go y (flag_held v m up lt p) holder same = flag_places (here l i) (subst (λ (k : ℕ). HasFlag (here l k)) same p) (place m)
    go y (counted_by v m some lt p below) reader same = count_places (here l i) (subst (λ (k : ℕ). Counted (here l k)) same p) (code_8 S L l i h m.0).0
    go _ (not_waiting _) none same = elim none [ ]
    go _ (count_full _ _) none same = elim none [ ]
    go _ (count_changed _ _) none same = elim none [ ]
    go _ (flag_dropped _ _ _ _) none same = elim none [ ]
    go _ (counted_dropped _ _ _ _) none same = elim none [ ]
