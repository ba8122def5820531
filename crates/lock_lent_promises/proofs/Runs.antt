-- What a run over a lent list, a later piece and a run of one entry leave, and that their answers are exact.
use Prim.Native.Nat.{ℕ, ◌*◌}
use mathlib.Core.Path.{◌≡◌, refl, ap, ◌∙◌}
use mathlib.Core.Logic.{◌≢◌}
use mathlib.Core.List.{List, [], ◌∷◌}
use lib.ListN.{length, get_or, drop}
use package.borrow.Author.Tests.{ne_eqb}
use Rattle.machine.specs.Names.{row_words}
use Rattle.machine.specs.Lists.{scripts_of}
use Rattle.machine.specs.Step.{entry_refusal}
use Rattle.machine.specs.Run.{accepted, words_of, run_lent}
use Rattle.machine.specs.Drain.{drain_lent}
use Rattle.machine.proofs.RunLaws.{refused_entry as of_step}
use Rattle.machine.proofs.RunRule.{run_rule}
use Rattle.lock_lent.specs.Run.{rest_lent}
use Rattle.lock_promises.proofs.Rows.{rest_read_back}
use Rattle.lock_promises.proofs.Refusing.{none_number}
use Rattle.lock_promises.proofs.Runs.{not_refused, run_is_run as of_run}
use Rattle.lock_promises.proofs.Accesses.{one_entry as of_entry, entry_left, answered, entry_answer as of_answer}
use Rattle.lock_promises.proofs.Answers.{setup_answer as of_setup, setup_made as of_state, run_answer as of_refusal, drain_answer as of_drain}
use Rattle.lock_lent_promises.proofs.Told.{in_told}
use Rattle.lock_lent_promises.specs.Runs.{RunIsRun, RestIsRun, StepIsRun, OneEntry, EntryAnswer, RefusedEntry, SetupAnswer, SetupState, RunAnswer, RestAnswer, DrainAnswer}

-- ---- runs
pub run_is_run : RunIsRun
run_is_run s L l schedule budget trace r l' trace' given none =
    let (is, list, trace_is) = given in
    rw (is, list, trace_is) (of_run s L l schedule budget trace (run_lent s L l schedule budget trace) refl (none_number _ (rw is at none)))

pub rest_is_run : RestIsRun
rest_is_run s L l schedule budget used trace r l' trace' given none =
    let (is, list, trace_is) = given in
    let k = row_words * used in
    let left = rest_lent s L l schedule budget used trace in
    let piece = of_run s L l schedule budget (drop k trace) left refl (none_number _ (rw is at none)) in
    let zero = not_refused s L l schedule budget (drop k trace) left refl (none_number _ (rw is at none)) in
    let size : length left.trace ≡ length (drop k trace) = (run_rule s L l schedule budget (drop k trace) zero).8 in
    let (there, before) = rest_read_back k trace left.trace size in
    rw (is, list, trace_is, there) (piece, before)

pub step_is_run : StepIsRun
step_is_run s L l i trace r l' trace' given = given

-- ---- one entry
pub one_entry : OneEntry
one_entry s L l i budget trace r l' trace' given none some room =
    let (is, list, trace_is) = given in
    rw (is, list, trace_is) (of_entry s L l i budget trace (run_lent s L l (i ∷ []) budget trace) refl (none_number _ (rw is at none)) some room)

pub entry_answer : EntryAnswer
entry_answer s L l i budget trace r l' trace' given one =
    let (is, list, trace_is) = given in
    rw trace_is (of_answer s L l i budget trace (run_lent s L l (i ∷ []) budget trace) refl (rw is at one))

pub refused_entry : RefusedEntry
unfolding accepted words_of
refused_entry s L l i budget trace r l' trace' given one some =
    let (is, list, trace_is) = given in
    let left = run_lent s L l (i ∷ []) budget trace in
    let one_left : left.n ≡ 1 = rw is at one in
    let answer = answered s L l i budget trace left refl one_left in
    let refused : entry_refusal (scripts_of s) L l i ≢ 0 = λ z. some (ap (λ (t : List ℕ). get_or t 2 0) trace_is ∙ answer ∙ z) in
    let (same, stay, row) = of_step (scripts_of s) L l i refused in
    rw (is, list, trace_is, entry_left s L l i budget trace left refl one_left, same, stay, row, ne_eqb _ 0 refused) (refl, refl, refl, refl)

-- ---- the refusals
pub setup_answer : SetupAnswer
setup_answer s q m v l start l' given = of_setup s q m v l start given.0

pub setup_state : SetupState
setup_state s q m v l start l' L given made = of_state s q m v l start l' L given.0 given.1 made

pub run_answer : RunAnswer
run_answer s L l schedule budget trace r l' trace' given =
    let exact = of_refusal s L l schedule budget trace (run_lent s L l schedule budget trace) refl in rw (given.0, in_told s _ exact.1) exact

pub rest_answer : RestAnswer
rest_answer s L l schedule budget used trace r l' trace' given =
    let exact = of_refusal s L l schedule budget (drop (row_words * used) trace) (rest_lent s L l schedule budget used trace) refl in
    rw (given.0, in_told s _ exact.1) exact

pub drain_answer : DrainAnswer
drain_answer s L l d l' given = let exact = of_drain s L l (drain_lent s L l) refl in rw (given.0, in_told s _ exact.1) exact
