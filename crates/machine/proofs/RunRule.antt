-- Run as it is called: its rule where nothing is refused, that a refused run changes nothing, and that two pieces are one run.
use Prim.Native.Nat.{ℕ, suc, ◌+◌, ◌-◌, ◌*◌, ◌≤◌}
use mathlib.Core.Path.{◌≡◌, refl, ap, sym, ◌∙◌}
use mathlib.Core.Bool.{Bool, true, false, ◌||◌, not, true≢false}
use mathlib.Core.List.{List, [], ◌∷◌, ◌++◌, append_assoc}
use native.Mathlib.Omega.{arith}
use lib.Dec.{eqb, ltb}
use lib.ListN.{length, take, drop, length-append, length-set, length-drop}
use lib.Seq.{length-take-le, take-length, take_at, drop_at, drop-drop}
use package.borrow.Author.Tests.{ne_eqb, not-false}
use Rattle.machine.specs.Names.{most_threads, row_words}
use Rattle.machine.specs.Lists.{Lent, scripts_of, beside}
use Rattle.machine.specs.Step.{Scripts, answer, settle, step}
use Rattle.machine.specs.Sound.{sound}
use Rattle.machine.specs.Run.{run, accepted, words_of, entries, run_checks, run_refusal, made_run, refused_run, run_lent}
use Rattle.machine.specs.RunLaws.{zero_answers, RunRule, RefusedRun, Pieces}
use Rattle.std.specs.Prelude.{Err, Ok, Result}
use Rattle.machine.specs.declared.Did.{Did}
use Rattle.machine.specs.declared.Lock.{Lock}
use Rattle.machine.specs.declared.Rec.{Rec}
use Rattle.machine.specs.declared.Row.{Row}
use Rattle.machine.proofs.Runs.{run_sound}
use Rattle.machine.proofs.Words.{words_length, words_append, accepted_append, zeros_accepted, row_at, rest_stays, length_stays}
use Rattle.machine.proofs.RunLaws.{cutting}
use Rattle.machine.proofs.Refusals.{passed}
use Rattle.machine.proofs.SoundTest.{sound_tested}

pub rows_length : (S : Scripts) (L : Lock) (l : List Rec) (schedule : List ℕ) → length (run S L l schedule).rows ≡ length schedule
unfolding run
rows_length S L l [] = refl
rows_length S L l (i ∷ more) = ap suc (rows_length S (step S L l i).lock (step S L l i).recs more)

module _ (s : Lent) (L : Lock) (l : List Rec) (schedule : List ℕ) (budget : ℕ) (trace : List ℕ) where
  -- what a run leaves that is not refused
  pub made : run_refusal s L l ≡ 0
      → let n = entries budget schedule trace in
      run_lent s L l schedule budget trace ≡ made_run (beside s 0) n trace (run (scripts_of s) L l (take n schedule))
  unfolding run_lent
  made none = rw none

  left_alone : (run_refusal s L l ≡ 0 → ⊥) → run_lent s L l schedule budget trace ≡ refused_run (beside s (run_refusal s L l)) L l trace
  unfolding run_lent
  left_alone some = rw (ne_eqb (run_refusal s L l) 0 some)

pub refused_run_lem : RefusedRun
refused_run_lem s L l schedule budget trace some = rw (left_alone s L l schedule budget trace some) (refl, refl, refl, refl, refl, refl)

-- n is no more than the entries that there are, nor than the rows that there is room for
entries_fit : (budget : ℕ) (schedule trace : List ℕ) → let n = entries budget schedule trace in (n ≤ length schedule) × (row_words * n ≤ length trace)
entries_fit budget schedule trace = omega arith

pub run_rule : RunRule
run_rule s L l schedule budget trace none =
    let n = entries budget schedule trace in
    let rows = (run (scripts_of s) L l (take n schedule)).rows in
    let rest = drop (row_words * n) trace in
    let fit = entries_fit budget schedule trace in
    let many : length rows ≡ n = rows_length (scripts_of s) L l (take n schedule) ∙ length-take-le n schedule fit.0 in
    let zeros : zero_answers n (words_of rows ++ rest) ≡ accepted rows = rw many at (zeros_accepted rows rest) in
    rw (made s L l schedule budget trace none)
    (refl, refl, refl, refl, many, λ k d h. row_at rows rest k d (rw many h), sym zeros, rest_stays rows n many trace, length_stays rows n many trace fit.1)

-- ---- pieces
-- with the budget and the room for a whole schedule, it is run whole
whole : (s : Lent) (L : Lock) (l : List Rec) (schedule : List ℕ) (budget : ℕ) (trace : List ℕ) → run_refusal s L l ≡ 0 → length schedule ≤ budget
    → row_words * length schedule ≤ length trace
    → run_lent s L l schedule budget trace ≡ made_run (beside s 0) (length schedule) trace (run (scripts_of s) L l schedule)
whole s L l schedule budget trace none enough room =
    let all : entries budget schedule trace ≡ length schedule = omega arith in
    made s L l schedule budget trace none ∙ rw (all, take-length schedule)

-- no step and no run makes records more or fewer
pub step_length : (S : Scripts) (L : Lock) (l : List Rec) (i : ℕ) → length (step S L l i).recs ≡ length l
unfolding step
step_length S L l i = left_length (answer S L l i)
  where
    left_length : (out : Result Did ℕ) → length (settle L l i out).recs ≡ length l
    left_length (Err k) = refl
    left_length (Ok d) = length-set l i d.rec

pub run_length : (S : Scripts) (L : Lock) (l : List Rec) (schedule : List ℕ) → length (run S L l schedule).recs ≡ length l
unfolding run
run_length S L l [] = refl
run_length S L l (i ∷ more) = run_length S (step S L l i).lock (step S L l i).recs more ∙ step_length S L l i

last_not : (a b c : Bool) → a || (b || not c) ≡ false → c ≡ true
last_not true b c e = absurd (true≢false e)
last_not false true c e = absurd (true≢false e)
last_not false false c e = not-false c e

none_sound : (s : Lent) (L : Lock) (l : List Rec) → run_refusal s L l ≡ 0 → sound (scripts_of s) L l ≡ true
unfolding run_refusal
none_sound s L l none =
    last_not (eqb (length s.lens) 0) (ltb most_threads (length s.lens)) (sound (scripts_of s) L l) (passed 0 (run_checks s L l) (omega arith) none).1.1.1.0

-- the refusal looks at the lent lists, the number of records and the test of soundness, and at nothing else
same_refusal : (s : Lent) (L M : Lock) (l m : List Rec) → length m ≡ length l → sound (scripts_of s) M m ≡ sound (scripts_of s) L l
    → run_refusal s M m ≡ run_refusal s L l
unfolding run_refusal
same_refusal s L M l m size test = rw (size, test)

-- the words of both pieces, and what was there after them
joined : (first second : List Row) (trace : List ℕ) (m n : ℕ)
    → words_of (first ++ second) ++ drop (row_words * (m + n)) trace ≡ words_of first ++ (words_of second ++ drop (row_words * n) (drop (row_words * m) trace))
joined first second trace m n =
    let apart : row_words * (m + n) ≡ row_words * m + row_words * n = omega arith in
    rw (apart, words_append, ← drop-drop (row_words * n) (row_words * m) trace) (append_assoc (words_of first) (words_of second) _)

-- what a run leaves that is not refused, a run does not refuse
still_none : (s : Lent) (L : Lock) (l : List Rec) (schedule : List ℕ) → run_refusal s L l ≡ 0
    → let w = run (scripts_of s) L l schedule in
    run_refusal s w.lock w.recs ≡ 0
still_none s L l schedule none =
    let S = scripts_of s in
    let w = run S L l schedule in
    let before : sound S L l ≡ true = none_sound s L l none in
    let after : sound S w.lock w.recs ≡ true = (sound_tested S w.lock w.recs).1 (run_sound S schedule L l ((sound_tested S L l).0 before)) in
    same_refusal s L w.lock l w.recs (run_length S L l schedule) (after ∙ sym before) ∙ none

pub pieces : Pieces
pieces s L l first second f g h trace none enough_f enough_g enough_h room =
    let S = scripts_of s in
    let m = row_words * length first in
    let a = run S L l first in
    let b = run S a.lock a.recs second in
    let cut = cutting S L l first second in
    let size : length (first ++ second) ≡ length first + length second = length-append first second in
    let left : length (drop m trace) ≡ length trace - m = length-drop m trace in
    let long : length (words_of a.rows) ≡ m = words_length a.rows (length first) (rows_length S L l first) in
    rw (
      whole s L l (first ++ second) h trace none (omega arith) (omega arith),
      whole s L l first f trace none (omega arith) (omega arith),
      take_at,
      drop_at,
      whole s a.lock a.recs second g (drop m trace) (still_none s L l first none) (omega arith) (omega arith),
    ) (
      cut.0,
      cut.1,
      size,
      ap accepted cut.2 ∙ accepted_append a.rows b.rows,
      rw (cut.2, size) (joined a.rows b.rows trace (length first) (length second)),
    )
