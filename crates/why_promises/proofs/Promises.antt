-- What is promised of an answer: from what is proved of such a refusal in `why`, with a run's refusal over a list and by value.
use Prim.Native.Nat.{ℕ, ◌<◌}
use mathlib.Core.Path.{◌≡◌, refl, sym, ap, subst, ◌∙◌}
use mathlib.Core.List.{List, [], ◌∷◌, ◌++◌}
use native.Mathlib.Omega.{arith}
use lib.ListN.{length, take, drop}
use lib.Seq.{take_all}
use Rattle.machine.specs.Names.{no_thread, row_words}
use Rattle.machine.specs.Refusals.{Nothing, Exact}
use Rattle.machine.specs.Lists.{Lent, scripts_of}
use Rattle.machine.specs.Step.{entry_refusal, step}
use Rattle.machine.specs.Sound.{Sound}
use Rattle.machine.specs.Tidy.{Tidy}
use Rattle.machine.specs.Run.{run_refusal, words_of}
use Rattle.machine.specs.When.{AtEntry, AtRun}
use Rattle.machine.specs.declared.Lock.{Lock}
use Rattle.machine.specs.declared.Rec.{Rec}
use Rattle.machine.specs.declared.Row.{Row}
use Rattle.machine.specs.declared.Refusal.{Refusal}
use Rattle.machine.proofs.Exact.{run_exact}
use Rattle.machine.proofs.ExactEntry.{entry_exact}
use Rattle.lock.specs.ByValue.{run_refusal_of, run_of}
use Rattle.lock.specs.Run.{ran_of}
use Rattle.lock.specs.declared.run.RunReturn.{RunReturn}
use Rattle.lock.proofs.Refusing.{none_refused, no_number, number_beside}
use Rattle.lock.proofs.Told.{none_some}
use Rattle.lock_promises.specs.Answers.{AtRunOf}
use Rattle.lock_promises.specs.Reached.{row_in}
use Rattle.lock_promises.proofs.Answers.{run_answer_by_value}
use Rattle.lock_promises.specs.Given.{refusal_in}
use Rattle.lock_promises.proofs.Refusing.{run_told, run_told_by_value, in_some}
use Rattle.lock_promises.proofs.Promises.{runs_go_on_by_value}
use Rattle.lock_promises.proofs.Reached.{runs_on, comes}
use Rattle.lock_promises.proofs.Accesses.{one_entry, one_entry_by_value}
use Rattle.why.specs.Why.{why}
use Rattle.why.specs.Told.{told_by, why_refusal}
use Rattle.why.specs.Reasons.{Answers, AtWhy, as_run, next_step, Names, number_of}
use Rattle.why.specs.WayOn.{WayOn}
use Rattle.why.specs.declared.Reason.{Reason}
use Rattle.std.specs.Prelude.{Ok, Result}
use Rattle.why.proofs.Answers.{lists_below, answers_so, number_told, answer_shown, failure_shown}
use Rattle.why.proofs.Reasons.{why_exact}
use Rattle.why.proofs.WayOn.{named_goes_on as way_on, full_goes_down, changed_looks_again, none_for_dropped}
use Rattle.why_code.specs.ByValue.{why_refusal_of, told_of}
use Rattle.why_code.proofs.Calls.{run_first, then_entry, run_first_of_list, then_entry_of_list}
use Rattle.why_promises.specs.Promises.{Answered, AnsweredByValue, AskedOfReached, AskedOfReachedByValue, AsEntry, Unnamed, OthersGoOn, OthersGoOnByValue, Shows, ShownByRun, ShownByRunByValue, NamedGoesOn, NamedGoesOnByValue}

-- ---- a run's numbers are below an entry's
run_below : (s : Lent) (L : Lock) (l : List Rec) (k : ℕ) → AtRun s L l k → k < no_thread
run_below s L l k (AtRun.lists w) = lists_below s (length l) k w
run_below s L l k (AtRun.no_threads e) = omega arith
run_below s L l k (AtRun.many_threads e) = omega arith
run_below s L l k (AtRun.for_not_sound e) = omega arith

run_below_of : (s : Lent) (count : ℕ) (L : Lock) (l : List Rec) (k : ℕ) → AtRunOf s count L l k → k < no_thread
run_below_of s count L l k (AtRunOf.lists w) = lists_below s count k w
run_below_of s count L l k (AtRunOf.no_threads e) = omega arith
run_below_of s count L l k (AtRunOf.many_threads e) = omega arith
run_below_of s count L l k (AtRunOf.for_not_sound e) = omega arith

-- ---- any state
-- where a run is not refused the state is sound
sound_by_value : (s : Lent) (count : ℕ) (L : Lock) (recs : List Rec) → run_refusal_of s count L (take count recs) ≡ 0 → Sound (scripts_of s) L (take count recs)
sound_by_value s count L recs none = let (same, ready) = none_refused s count L recs none in rw same ready.sound

-- a run over a list is one by value of all its records
same_run : (s : Lent) (L : Lock) (l : List Rec) → run_refusal s L l ≡ run_refusal_of s (length l) L l
unfolding run_refusal run_refusal_of
same_run s L l = refl

sound_of_list : (s : Lent) (L : Lock) (l : List Rec) → run_refusal s L l ≡ 0 → Sound (scripts_of s) L l
sound_of_list s L l none =
    let all : take (length l) l ≡ l = take_all (length l) l (omega arith) in
    subst (Sound (scripts_of s) L) all (sound_by_value s (length l) L l (subst (λ (m : List Rec). run_refusal_of s (length l) L m ≡ 0) (sym all) (sym (same_run s L l) ∙ none)))

pub answered : Answered
answered s L l i r is =
    rw is (answers_so s L l i (AtRun s L l) (run_refusal s L l) (why_refusal s L l i) (run_below s L l) (run_exact s L l)
    (run_first_of_list s L l i) (then_entry_of_list s L l i) (sound_of_list s L l))

run_exact_of : (s : Lent) (count : ℕ) (L : Lock) (recs : List Rec) → Exact (AtRunOf s count L (take count recs)) (run_refusal_of s count L (take count recs))
run_exact_of s count L recs =
    let a = run_refusal_of s count L (take count recs) in
    let r : RunReturn = ran_of count recs (run_of s count L recs [] 0 []) in
    let number : (refusal_in r.ran.refusal).number ≡ a = ap (λ (x : Refusal). x.number) (ap refusal_in (run_told_by_value s count L recs [] 0 [] r refl) ∙ in_some s a) ∙ number_beside s a in
    rw number at (run_answer_by_value s count L recs [] 0 [] r refl).0

pub answered_by_value : AnsweredByValue
unfolding told_of
answered_by_value s count L recs i r is =
    let l = take count recs in
    rw is (answers_so s L l i (AtRunOf s count L l) (run_refusal_of s count L l) (why_refusal_of s count L l i) (run_below_of s count L l) (run_exact_of s count L recs)
    (run_first s count L l i) (then_entry s count L l i) (sound_by_value s count L recs))

-- ---- a state that calls reach
-- where a run is not refused, the conditions are the entry's alone
as_entry : (s : Lent) (L : Lock) (l : List Rec) (i c : ℕ) (Run : ℕ → Type 0) → Nothing Run → c ≡ entry_refusal (scripts_of s) L l i
    → (r : Result Reason Refusal) → r ≡ told_by s c (why (scripts_of s) L l i) → Answers s Run L l i r → AsEntry s L l i r
as_entry s L l i c Run never c_is r is a = (
  subst (Exact (AtEntry (scripts_of s) L l i)) (sym (ap number_of is ∙ number_told s L l i c c_is ∙ c_is)) (entry_exact (scripts_of s) L l i),
  λ none. let (y, told) = a.told (nothing none) in (y, told, ((a.given y).0 told).1),
)
  where
    nothing : Nothing (AtEntry (scripts_of s) L l i) → Nothing (AtWhy Run (AtEntry (scripts_of s) L l i))
    nothing none k (as_run w) = never k w
    nothing none k (next_step w) = none k w

pub asked_of_reached : AskedOfReached
asked_of_reached s q m v L l rows reached i r is =
    let none = runs_on s q m v (comes reached) in
    as_entry s L l i (why_refusal s L l i) (AtRun s L l) ((run_exact s L l).1.0 none) (then_entry_of_list s L l i none) r is (answered s L l i r is)

pub asked_of_reached_by_value : AskedOfReachedByValue
unfolding told_of
asked_of_reached_by_value s q m v count L recs rows reached i r is =
    let l = take count recs in
    let ran : RunReturn = ran_of count recs (run_of s count L recs [] 0 []) in
    let none = none_some s (run_refusal_of s count L l) (sym (run_told_by_value s count L recs [] 0 [] ran refl)
    ∙ runs_go_on_by_value s q m v count L recs rows reached [] 0 [] ran refl) in
    as_entry s L l i (why_refusal_of s count L l i) (AtRunOf s count L l) ((run_exact_of s count L recs).1.0 none) (then_entry s count L l i none) r is
    (answered_by_value s count L recs i r is)

-- ---- a run of that entry
row_in_lem : (row : Row) (rest trace : List ℕ) → trace ≡ words_of (row ∷ []) ++ rest → row_in trace ≡ row
unfolding words_of
row_in_lem row rest trace is = rw is refl

shows_here : (s : Lent) (L : Lock) (l : List Rec) (i c : ℕ) → c ≡ entry_refusal (scripts_of s) L l i → (r : Result Reason Refusal) → r ≡ told_by s c (why (scripts_of s) L l i)
    → (row : Row) → row ≡ (step (scripts_of s) L l i).row → Shows L r row
shows_here s L l i c c_is r is row row_is =
    subst (Shows L r) (sym row_is)
    (subst (λ (x : Result Reason Refusal). Shows L x (step (scripts_of s) L l i).row) (sym is) (answer_shown s L l i c c_is, failure_shown s L l i c c_is))

pub shown_by_run : ShownByRun
shown_by_run s L l i r is trace left left_is none room =
    let no_refusal = no_number s (run_refusal s L l) left.refusal (run_told s L l (i ∷ []) 1 trace left left_is) none in
    let words = (one_entry s L l i 1 trace left left_is none (omega arith) room).4 in
    shows_here s L l i (why_refusal s L l i) (then_entry_of_list s L l i no_refusal) r is (row_in left.trace) (row_in_lem (step (scripts_of s) L l i).row (drop row_words trace) left.trace words)

pub shown_by_run_by_value : ShownByRunByValue
unfolding told_of
shown_by_run_by_value s count L recs i r is trace ran trace' ran_is trace_is none room =
    let l = take count recs in
    let no_refusal = none_some s (run_refusal_of s count L l) (sym (run_told_by_value s count L recs (i ∷ []) 1 trace ran ran_is) ∙ none) in
    let words = (one_entry_by_value s count L recs i 1 trace ran trace' ran_is trace_is none (omega arith) room).4 in
    shows_here s L l i (why_refusal_of s count L l i) (then_entry s count L l i no_refusal) r is (row_in trace') (row_in_lem (step (scripts_of s) L l i).row (drop row_words trace) trace' words)

-- ---- demand 3
-- the reason that is given is the one of the state
of_state : (s : Lent) (Run : ℕ → Type 0) (L : Lock) (l : List Rec) (i : ℕ) (y : Reason) (r : Result Reason Refusal) → Answers s Run L l i r → r ≡ Ok y
    → Sound (scripts_of s) L l × (why (scripts_of s) L l i ≡ y)
of_state s Run L l i y r a is = let h = a.sound y is in (h, (why_exact (scripts_of s) L l i h y).1 ((a.given y).0 is).1)

goes_on_here : (s : Lent) (Run : ℕ → Type 0) (L : Lock) (l : List Rec) (i w : ℕ) (y : Reason) (r : Result Reason Refusal) → Answers s Run L l i r → r ≡ Ok y → Names y w
    → Tidy (scripts_of s) L l → WayOn (scripts_of s) L l w
goes_on_here s Run L l i w y r a is names tidy =
    let (h, same) = of_state s Run L l i y r a is in
    way_on (scripts_of s) L l i w h tidy (subst (λ (x : Reason). Names x w) (sym same) names)

pub named_goes_on : NamedGoesOn
named_goes_on s L l i w y r told = goes_on_here s (AtRun s L l) L l i w y r (answered s L l i r told)

pub named_goes_on_by_value : NamedGoesOnByValue
named_goes_on_by_value s count L recs i w y r told =
    goes_on_here s (AtRunOf s count L (take count recs)) L (take count recs) i w y r (answered_by_value s count L recs i r told)

unnamed_here : (s : Lent) (Run : ℕ → Type 0) (L : Lock) (l : List Rec) (i : ℕ) (y : Reason) (r : Result Reason Refusal) → Answers s Run L l i r → r ≡ Ok y
    → Tidy (scripts_of s) L l → Unnamed s L l i y
unnamed_here s Run L l i y r a is tidy =
    let (h, same) = of_state s Run L l i y r a is in
    let never = none_for_dropped (scripts_of s) L l i h tidy in (
      λ full. full_goes_down (scripts_of s) L l i h tidy (same ∙ full),
      λ changed. changed_looks_again (scripts_of s) L l i h (same ∙ changed),
      λ e. never.0 (same ∙ e),
      λ e. never.1 (same ∙ e),
    )

pub others_go_on : OthersGoOn
others_go_on s L l i y r told = unnamed_here s (AtRun s L l) L l i y r (answered s L l i r told)

pub others_go_on_by_value : OthersGoOnByValue
others_go_on_by_value s count L recs i y r told =
    unnamed_here s (AtRunOf s count L (take count recs)) L (take count recs) i y r (answered_by_value s count L recs i r told)
