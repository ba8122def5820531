-- What a run leaves that is not refused is machine's run of the entries that it handles; over a list of records, that it is not refused
-- is told by what it leaves, and then the state was sound. Of every such run: its rows one by one, and that it is safe.
use Prim.Native.Nat.{ℕ, zero, suc, ◌+◌, ◌*◌, ◌<◌}
use mathlib.Core.Path.{◌≡◌, refl, sym, ap, ◌∙◌}
use mathlib.Core.Bool.{Bool, true, false, true≢false}
use mathlib.Core.List.{List, [], ◌++◌}
use native.Mathlib.Omega.{arith}
use lib.Dec.{eqb}
use lib.ListN.{length, get_or, take, drop}
use lib.Seq.{drop_at, drop-drop, take-take, get_or-take, length-take-le}
use package.borrow.Author.Tests.{eqb-true, eqb-false}
use Rattle.machine.specs.Names.{row_words, unsound}
use Rattle.machine.specs.Lists.{Lent, scripts_of}
use Rattle.machine.specs.Sound.{Sound, sound}
use Rattle.machine.specs.RunLaws.{zero_answers}
use Rattle.machine.specs.Run.{Ran, run, accepted, words_of, entries, run_refusal, RunLeft, run_lent}
use Rattle.machine.specs.When.{AtRun}
use Rattle.machine.specs.declared.Lock.{Lock}
use Rattle.machine.specs.declared.Rec.{Rec}
use Rattle.machine.specs.declared.Row.{Row}
use Rattle.machine.proofs.Exact.{run_exact}
use Rattle.machine.proofs.Exclusive.{sound_is_safe}
use Rattle.machine.proofs.RunLaws.{each_row}
use Rattle.machine.proofs.RunRule.{made, refused_run_lem}
use Rattle.machine.proofs.Runs.{run_sound}
use Rattle.machine.proofs.SoundTest.{sound_tested}
use Rattle.machine.proofs.Words.{words_length, zeros_accepted}
use Rattle.lock.proofs.Refusing.{no_number}
use Rattle.lock_promises.specs.Reached.{row_in, rows_in}
use Rattle.lock_promises.specs.Runs.{IsRun, RunIsRun, RowByRow, SafeThrough}
use Rattle.lock_promises.proofs.Rows.{handled, row_each, rows_told}
use Rattle.lock_promises.proofs.Refusing.{run_told}

-- a state that run takes is sound
pub run_admits : (s : Lent) (L : Lock) (l : List Rec) → run_refusal s L l ≡ 0 → Sound (scripts_of s) L l
run_admits s L l none = go (sound (scripts_of s) L l) refl
  where
    tested : Sound (scripts_of s) L l → sound (scripts_of s) L l ≡ true
    tested = (sound_tested (scripts_of s) L l).1

    go : (b : Bool) → sound (scripts_of s) L l ≡ b → Sound (scripts_of s) L l
    go true e = (sound_tested (scripts_of s) L l).0 e
    go false e = absurd ((run_exact s L l).1.0 none unsound (AtRun.for_not_sound (λ h. true≢false (sym (tested h) ∙ e))))

module _ (s : Lent) (L : Lock) (l : List Rec) (schedule : List ℕ) (budget : ℕ) (trace : List ℕ) where
  abbrev n : ℕ
  n = entries budget schedule trace

  abbrev after : Ran
  after = run (scripts_of s) L l (handled schedule budget trace)

  pub made_is_run : Sound (scripts_of s) L l → IsRun s L l schedule budget trace n (accepted after.rows) after.lock after.recs (words_of after.rows ++ drop (row_words * n) trace)
  made_is_run sound =
      let rows = after.rows in
      let rest = drop (row_words * n) trace in
      let many : length rows ≡ n = row_each (scripts_of s) L l schedule budget trace in
      let zeros : zero_answers n (words_of rows ++ rest) ≡ accepted rows = rw many at (zeros_accepted rows rest) in
      record {
        sound = sound;
        entries = refl;
        lock = refl;
        recs = refl;
        rows = rows_told (scripts_of s) L l schedule budget trace;
        done = refl;
        told = sym zeros;
        others = drop_at (words_of rows) rest (row_words * n) (words_length rows n many);
      }

  module _ (left : RunLeft) (is : left ≡ run_lent s L l schedule budget trace) where
    pub not_refused : left.refusal.number ≡ 0 → run_refusal s L l ≡ 0
    not_refused none = no_number s (run_refusal s L l) left.refusal (run_told s L l schedule budget trace left is) none

    -- a refused run handles none
    pub handles : left.n ≡ 1 → run_refusal s L l ≡ 0
    handles one = go (eqb (run_refusal s L l) 0) refl
      where
        go : (b : Bool) → eqb (run_refusal s L l) 0 ≡ b → run_refusal s L l ≡ 0
        go true e = eqb-true _ 0 e
        go false e =
            let none = (refused_run_lem s L l schedule budget trace (eqb-false _ 0 e)).1 in
            absurd (omega (arith, one, ap (λ (x : RunLeft). x.n) is ∙ none))

pub run_is_run : RunIsRun
run_is_run s L l schedule budget trace left is none =
    let zero = not_refused s L l schedule budget trace left is none in
    rw (is ∙ made s L l schedule budget trace zero) (made_is_run s L l schedule budget trace (run_admits s L l zero))

-- ---- row by row
row_there : (m k : ℕ) (trace : List ℕ) (d : Row) → k < m → get_or (rows_in m trace) k d ≡ row_in (drop (row_words * k) trace)
unfolding rows_in
row_there zero k trace d h = absurd (omega arith)
row_there (suc m) zero trace d h = refl
row_there (suc m) (suc k) trace d h =
    let on : row_words + row_words * k ≡ row_words * suc k = omega arith in
    row_there m k (drop row_words trace) d (omega arith) ∙ ap row_in (drop-drop (row_words * k) row_words trace ∙ ap (λ (j : ℕ). drop j trace) on)

pub row_by_row : RowByRow
row_by_row s L l schedule budget trace n zeros L' l' trace' ran k h =
    let S = scripts_of s in
    let d = row_in [] in
    let fits : k < length (take n schedule) = rw (length-take-le n schedule (omega (arith, ran.entries))) h in
    let row = each_row S L l (take n schedule) k d fits in
    sym (row_there n k trace' d h) ∙ ap (λ (rows : List Row). get_or rows k d) ran.rows ∙ row ∙ rw (take-take k n schedule (omega arith), get_or-take)

pub safe_through : SafeThrough
safe_through s L l schedule budget trace n zeros L' l' trace' ran =
    let S = scripts_of s in
    (λ k. sound_is_safe S _ _ (run_sound S (take k schedule) L l ran.sound), rw (ran.lock, ran.recs) (sound_is_safe S _ _ (run_sound S (take n schedule) L l ran.sound)))
