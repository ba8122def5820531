-- What is told of a run of one entry: a refusal of the run, a refusal of the entry, or the reason that its row has.
use Prim.Native.Nat.{ℕ, ◌≤◌}
use mathlib.Core.Path.{◌≡◌, refl, sym, ap, ◌∙◌}
use mathlib.Core.Logic.{◌≢◌}
use mathlib.Core.List.{List, [], ◌∷◌, ◌++◌}
use native.Mathlib.Omega.{arith}
use lib.ListN.{length, get_or, take, drop}
use package.borrow.Author.Tests.{ne_eqb}
use Rattle.machine.specs.Names.{no_thread, row_words}
use Rattle.machine.specs.Lists.{Lent, scripts_of, beside, some_refusal}
use Rattle.machine.specs.Step.{Scripts, entry_checks, entry_refusal, step}
use Rattle.machine.specs.Run.{words_of, run_checks, run_refusal}
use Rattle.machine.specs.declared.Lock.{Lock}
use Rattle.machine.specs.declared.Rec.{Rec}
use Rattle.machine.specs.declared.Refusal.{Refusal}
use Rattle.machine.proofs.ExactEntry.{entry_exact}
use Rattle.machine.proofs.ExactLists.{beside_others}
use Rattle.machine.proofs.RunLaws.{row_says}
use Rattle.machine.proofs.Refusals.{passed}
use Rattle.lock.specs.ByValue.{run_checks_of, run_refusal_of, run_of}
use Rattle.lock.specs.Run.{ran_of}
use Rattle.lock.specs.declared.run.RunReturn.{RunReturn}
use Rattle.lock.proofs.Told.{earlier, later, none_some, some_some}
use Rattle.lock_promises.proofs.Refusing.{run_told_by_value}
use Rattle.lock_promises.proofs.Accesses.{one_entry_by_value}
use Rattle.why.specs.Why.{reason_of}
use Rattle.why.specs.Told.{told_by, why_refusal}
use Rattle.why_code.specs.ByValue.{why_refusal_of, told_of}
use Rattle.why.specs.declared.Reason.{Reason}
use Rattle.std.specs.Prelude.{Err, None, Ok, Some}
use Rattle.why.proofs.Answers.{entry_above}

-- ---- the refusal's number
-- an entry's is 11 or above
above : (S : Scripts) (L : Lock) (l : List Rec) (i : ℕ) → entry_refusal S L l i ≢ 0 → no_thread ≤ entry_refusal S L l i
above S L l i some = entry_above S L l i _ (((entry_exact S L l i).0 (entry_refusal S L l i) some).0 refl).0

module _ (s : Lent) (count : ℕ) (L : Lock) (l : List Rec) (i : ℕ) where
  pub run_first : run_refusal_of s count L l ≢ 0 → why_refusal_of s count L l i ≡ run_refusal_of s count L l
  unfolding why_refusal_of run_refusal_of
  run_first some = earlier (run_checks_of s count L l) (entry_checks (scripts_of s) L l i) some

  pub then_entry : run_refusal_of s count L l ≡ 0 → why_refusal_of s count L l i ≡ entry_refusal (scripts_of s) L l i
  unfolding why_refusal_of run_refusal_of entry_refusal
  then_entry none = later (run_checks_of s count L l) (entry_checks (scripts_of s) L l i) (passed 0 (run_checks_of s count L l) (omega arith) none)

-- the same over a list of records
module _ (s : Lent) (L : Lock) (l : List Rec) (i : ℕ) where
  pub run_first_of_list : run_refusal s L l ≢ 0 → why_refusal s L l i ≡ run_refusal s L l
  unfolding why_refusal run_refusal
  run_first_of_list some = earlier (run_checks s L l) (entry_checks (scripts_of s) L l i) some

  pub then_entry_of_list : run_refusal s L l ≡ 0 → why_refusal s L l i ≡ entry_refusal (scripts_of s) L l i
  unfolding why_refusal run_refusal entry_refusal
  then_entry_of_list none = later (run_checks s L l) (entry_checks (scripts_of s) L l i) (passed 0 (run_checks s L l) (omega arith) none)

-- ---- the call
module _
    (s : Lent) (count : ℕ) (L : Lock) (recs : List Rec) (i : ℕ) (trace : List ℕ) (room : row_words ≤ length trace) (r : RunReturn) (trace' : List ℕ)
    (is : r ≡ ran_of count recs (run_of s count L recs (i ∷ []) 1 trace)) (trace_is : trace' ≡ (run_of s count L recs (i ∷ []) 1 trace).trace) where
  abbrev l : List Rec
  l = take count recs

  abbrev S : Scripts
  S = scripts_of s

  told : r.ran.refusal ≡ some_refusal (beside s (run_refusal_of s count L l))
  told = run_told_by_value s count L recs (i ∷ []) 1 trace r is

  pub run_refused : (why : Refusal) → r.ran.refusal ≡ Some why → Err why ≡ told_of s count L recs i
  unfolding told_of told_by
  run_refused why some =
      let (not_none, same) = some_some s (run_refusal_of s count L l) why (sym told ∙ some) in
      rw (run_first s count L l i not_none, ne_eqb _ 0 not_none) (ap Err (sym same))

  module _ (none : r.ran.refusal ≡ None) where
    no_refusal : run_refusal_of s count L l ≡ 0
    no_refusal = none_some s (run_refusal_of s count L l) (sym told ∙ none)

    row_told : trace' ≡ words_of ((step S L l i).row ∷ []) ++ drop row_words trace
    row_told = (one_entry_by_value s count L recs i 1 trace r trace' is trace_is none (omega arith) room).4

    answer_is : get_or trace' 2 0 ≡ entry_refusal S L l i
    unfolding words_of
    answer_is = rw row_told (row_says S L l i).0

    pub step_refused : get_or trace' 2 0 ≢ 0 → Err (record { number = get_or trace' 2 0; thread = 0; place = 0 }) ≡ told_of s count L recs i
    unfolding told_of told_by
    step_refused some =
        let k = entry_refusal S L l i in
        let not_none : k ≢ 0 = λ z. some (answer_is ∙ z) in
        let high = above S L l i not_none in
        let (number, thread, place) = beside_others s k in
        let same : ◌≡◌ {A = Refusal} (record { number = k; thread = 0; place = 0 }) (beside s k) =
        λ j. record { number = sym number j; thread = sym (thread (λ e. omega arith) (λ e. omega arith)) j; place = sym (place (λ e. omega arith)) j }
        in
        rw (answer_is, then_entry s count L l i no_refusal, ne_eqb k 0 not_none) (ap Err same)

    pub reason_told : get_or trace' 2 0 ≡ 0 → (y : Reason) → y ≡ reason_of L.top.0 l (get_or trace' 1 0) (get_or trace' 3 0)
        → Ok y ≡ told_of s count L recs i
    unfolding told_of told_by words_of
    reason_told zero y e =
        let accepted : entry_refusal S L l i ≡ 0 = sym answer_is ∙ zero in
        rw (then_entry s count L l i no_refusal, accepted) (ap Ok (rw row_told at e))
