-- A run of one entry is machine's step, its answer is exact, and an accepted one makes the access of the table, as each of any run does.
use Prim.Native.Nat.{ℕ, ◌≤◌}
use mathlib.Core.Path.{◌≡◌, refl, sym, ap, ◌∙◌}
use mathlib.Core.Logic.{⊎_elim}
use mathlib.Core.List.{List, [], ◌∷◌}
use native.Mathlib.Omega.{arith}
use lib.ListN.{length, get_or, take, drop}
use lib.Seq.{length-take-le, take_at, drop_at}
use Rattle.machine.specs.Names.{most_threads, row_words}
use Rattle.machine.specs.Lists.{Lent, scripts_of, beside}
use Rattle.machine.specs.Step.{Scripts, entry_refusal, step}
use Rattle.machine.specs.Sound.{Sound}
use Rattle.machine.specs.Run.{run, accepted, words_of, entries, run_refusal, RunLeft, made_run, run_lent}
use Rattle.machine.specs.declared.Lock.{Lock}
use Rattle.machine.specs.declared.Rec.{Rec}
use Rattle.machine.specs.declared.Row.{Row}
use Rattle.machine.proofs.Accesses.{code_1, code_2, code_3, code_4, code_5, code_6, code_7, code_8, code_9, code_10, code_11, code_12, code_13, code_14, exchange_told, one_of_fourteen, got_permitted, others_stay}
use Rattle.machine.proofs.ExactEntry.{entry_exact}
use Rattle.machine.proofs.RunLaws.{row_says}
use Rattle.machine.proofs.RunRule.{made}
use Rattle.machine.proofs.Runs.{run_sound}
use Rattle.lock.specs.Run.{ran_of}
use Rattle.lock.proofs.ByValue.{run_by_value}
use Rattle.lock.proofs.Piece.{further}
use Rattle.lock_promises.specs.Accesses.{OneEntry, OneEntryByValue, Entered, AcceptedEntry, AcceptedEntryByValue, AcceptedEntries, EntryAnswer, EntryAnswerByValue}
use Rattle.lock_promises.proofs.Rows.{handled}
use Rattle.lock_promises.proofs.Reached.{ran_as}
use Rattle.lock_promises.proofs.Runs.{not_refused as none_refused, handles, run_admits, row_by_row}
use Rattle.lock_promises.proofs.RunByValue.{run_made, run_ready, one_run, not_refused, entry_answered}

-- ---- machine's step
-- a run of one entry that is handled leaves what the step leaves, with its row
abbrev pub step_left : Lent → Lock → List Rec → ℕ → List ℕ → RunLeft
step_left s L l i trace =
    let x = step (scripts_of s) L l i in
    made_run (beside s 0) 1 trace (ran_as x.lock x.recs (x.row ∷ []))

handles_one : (s : Lent) (L : Lock) (l : List Rec) (i budget : ℕ) (trace : List ℕ) → entries budget (i ∷ []) trace ≡ 1
    → made_run (beside s 0) (entries budget (i ∷ []) trace) trace (run (scripts_of s) L l (handled (i ∷ []) budget trace)) ≡ step_left s L l i trace
handles_one s L l i budget trace one = rw (one, one_run (scripts_of s) L l i) refl

room_for_one : (i budget : ℕ) (trace : List ℕ) → 1 ≤ budget → row_words ≤ length trace → entries budget (i ∷ []) trace ≡ 1
room_for_one i budget trace some room = omega (arith, some, room)

pub one_entry : OneEntry
unfolding accepted
one_entry s L l i budget trace left is none some room =
    let whole : left ≡ step_left s L l i trace =
    is
    ∙ made s L l (i ∷ []) budget trace (none_refused s L l (i ∷ []) budget trace left is none)
    ∙ handles_one s L l i budget trace (room_for_one i budget trace some room)
    in
    rw whole (refl, omega arith, refl, refl, refl)

pub one_entry_by_value : OneEntryByValue
unfolding accepted
one_entry_by_value s count L recs i budget trace r trace' is trace_is none some room =
    let (all, list) = run_made s count L recs (i ∷ []) budget trace r trace' is trace_is none in
    let same = handles_one s L (take count recs) i budget trace (room_for_one i budget trace some room) in
    rw (all ∙ ap (ran_of count recs) same, list ∙ ap (λ (x : RunLeft). x.trace) same) (refl, omega arith, refl, refl, refl)

-- ---- the table
entered : (S : Scripts) (L : Lock) (l : List Rec) (i : ℕ) → Sound S L l → entry_refusal S L l i ≡ 0
    → let x = step S L l i in Entered S L l i x.lock x.recs x.row
entered S L l i sound none =
    let (answer, thread, flag, count) = row_says S L l i in
    let (same_pred, same_top, size, others) = others_stay S L l i in
    record {
      thread = thread;
      one_of_fourteen = one_of_fourteen S L l i none;
      code_1 = code_1 S L l i sound;
      code_2 = code_2 S L l i sound;
      code_3 = code_3 S L l i sound;
      code_4 = code_4 S L l i sound;
      code_5 = code_5 S L l i sound;
      code_6 = code_6 S L l i sound;
      code_7 = code_7 S L l i sound;
      code_8 = code_8 S L l i sound;
      code_9 = code_9 S L l i sound;
      code_10 = code_10 S L l i sound;
      code_11 = code_11 S L l i sound;
      code_12 = code_12 S L l i sound;
      code_13 = code_13 S L l i sound;
      code_14 = code_14 S L l i sound;
      told = exchange_told S L l i none;
      permitted = ⊎_elim (got_permitted.0 S L l i sound) (got_permitted.1 S L l i sound);
      flag = flag;
      count = count;
      same_pred = same_pred;
      same_top = same_top;
      size = size;
      others = others;
    }

-- ---- each entry of a run
pub accepted_entries : AcceptedEntries
accepted_entries s L l schedule budget trace n zeros L' l' trace' ran k h answer =
    let S = scripts_of s in
    let w = run S L l (take k schedule) in
    let i = get_or schedule k 0 in
    let row = row_by_row s L l schedule budget trace n zeros L' l' trace' ran k h in
    let (lock, recs, rows) = further S L l schedule k (omega (arith, ran.entries, h)) in
    let none : entry_refusal S w.lock w.recs i ≡ 0 = sym (row_says S w.lock w.recs i).0 ∙ sym (ap (λ (r : Row). r.answer) row) ∙ answer in
    rw (lock, recs, row) (entered S w.lock w.recs i (run_sound S (take k schedule) L l ran.sound) none)

-- ---- a run that handles one entry
module _
    (s : Lent) (L : Lock) (l : List Rec) (i budget : ℕ) (trace : List ℕ) (left : RunLeft) (is : left ≡ run_lent s L l (i ∷ []) budget trace)
    (one : left.n ≡ 1) where
  taken : run_refusal s L l ≡ 0
  taken = handles s L l (i ∷ []) budget trace left is one

  pub entry_left : left ≡ step_left s L l i trace
  entry_left =
      let all = is ∙ made s L l (i ∷ []) budget trace taken in
      all ∙ handles_one s L l i budget trace (sym (ap (λ (x : RunLeft). x.n) all) ∙ one)

  pub answered : get_or left.trace 2 0 ≡ entry_refusal (scripts_of s) L l i
  unfolding words_of
  answered = rw entry_left (row_says (scripts_of s) L l i).0

pub accepted_entry : AcceptedEntry
unfolding words_of
accepted_entry s L l i budget trace left is one zero =
    let none : entry_refusal (scripts_of s) L l i ≡ 0 = sym (answered s L l i budget trace left is one) ∙ zero in
    let sound = run_admits s L l (taken s L l i budget trace left is one) in
    rw (entry_left s L l i budget trace left is one) (entered (scripts_of s) L l i sound none)

pub entry_answer : EntryAnswer
entry_answer s L l i budget trace left is one = rw (answered s L l i budget trace left is one) (entry_exact (scripts_of s) L l i)

pub accepted_entry_by_value : AcceptedEntryByValue
accepted_entry_by_value s count L recs i budget trace r trace' is trace_is wide one zero =
    let l = take count recs in
    let left = run_lent s L l (i ∷ []) budget trace in
    let none = not_refused s count L recs i budget trace r trace' is trace_is one in
    let (same_count, ready) = run_ready s count L recs (i ∷ []) budget trace r trace' is trace_is none in
    let few : count ≤ most_threads = omega (arith, ready.threads) in
    let enough : count ≤ length recs = omega (arith, wide, few) in
    let same = run_by_value s count L recs (i ∷ []) budget trace few wide in
    let done = accepted_entry s L l i budget trace left refl (rw (is, same) at one) (rw (trace_is, same) at zero) in
    let size : length left.recs ≡ count = done.size ∙ length-take-le count recs enough in
    rw (is, trace_is, same, take_at left.recs (drop count recs) count size)
    (done, drop_at left.recs (drop count recs) count size)

pub entry_answer_by_value : EntryAnswerByValue
entry_answer_by_value s count L recs i budget trace r trace' is trace_is one =
    rw (entry_answered s count L recs i budget trace r trace' is trace_is one) (entry_exact (scripts_of s) L (take count recs) i)
