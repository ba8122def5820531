-- A run of one entry is machine's step, its answer is exact, and where it is 0 it makes the source's access, as each entry of any run
-- does: said of what the functions of `lock` return.
use Rattle.std.specs.Prelude.{ℕ, suc, ◌*◌, ◌≤◌, ◌<◌, ◌≡◌, ◌≢◌, ◌⊎◌, true, List, [], ◌∷◌, ◌++◌, eqb, length, get_or, take, drop, None}
use Rattle.cell.specs.Pred.{permits}
use Rattle.machine.specs.Names.{loads_rc, exchanges_rc, loads_exc, gives_back, borrows_cell, releases_rc, exchanges_exc, waits_rc, takes_cell, puts_cell, stores_exc, drops_handle, fails_rc, fails_exc, most_threads, row_words}
use Rattle.machine.specs.Words.{bit}
use Rattle.machine.specs.Refusals.{Exact}
use Rattle.machine.specs.Lists.{Lent, scripts_of}
use Rattle.machine.specs.Step.{Scripts, here, op_of, val_of, step}
use Rattle.machine.specs.Accesses.{TableRow, Does1, Does2, Does3, Does4, Does5, Does6, Does7, Does8, Does9, Does10, Does11, Does12, Does13, Does14, TellsExchange}
use Rattle.machine.specs.Run.{run, words_of, RunLeft, run_lent}
use Rattle.machine.specs.When.{AtEntry}
use Rattle.machine.specs.declared.Lock.{Lock}
use Rattle.machine.specs.declared.Rec.{Rec}
use Rattle.machine.specs.declared.Row.{Row}
use Rattle.lock.specs.ByValue.{put_back}
use Rattle.lock.specs.declared.run.RunReturn.{RunReturn}
use Rattle.lock_promises.specs.Given.{ReturnedByRun, LeftByRun}
use Rattle.lock_promises.specs.Reached.{row_in}
use Rattle.lock_promises.specs.Runs.{IsRun}

-- ---- a run of one entry that is not refused, with a budget and room for a row, is machine's step: one row, the lock and the records
abbrev pub OneEntry : Type 0
OneEntry =
    (s : Lent) (L : Lock) (l : List Rec) (i budget : ℕ) (trace : List ℕ) (left : RunLeft) → left ≡ run_lent s L l (i ∷ []) budget trace
    → left.refusal.number ≡ 0 → 1 ≤ budget → row_words ≤ length trace
    → let x = step (scripts_of s) L l i in
    (left.n ≡ 1)
    × (left.done ≡ bit (eqb x.row.answer 0))
    × (left.lock ≡ x.lock)
    × (left.recs ≡ x.recs)
    × (left.trace ≡ words_of (x.row ∷ []) ++ drop row_words trace)

abbrev pub OneEntryByValue : Type 0
OneEntryByValue =
    (s : Lent) (count : ℕ) (L : Lock) (recs : List Rec) (i budget : ℕ) (trace : List ℕ) (r : RunReturn) (trace' : List ℕ)
    → ReturnedByRun s count L recs (i ∷ []) budget trace r → LeftByRun s count L recs (i ∷ []) budget trace trace'
    → r.ran.refusal ≡ None → 1 ≤ budget → row_words ≤ length trace
    → let x = step (scripts_of s) L (take count recs) i in
    (r.ran.n ≡ 1)
    × (r.ran.done ≡ bit (eqb x.row.answer 0))
    × (r.ran.lock ≡ x.lock)
    × (r.recs ≡ put_back count recs x.recs)
    × (trace' ≡ words_of (x.row ∷ []) ++ drop row_words trace)

-- ---- the access of an accepted entry
-- where the row has that code, the table's row is what was done: thread i, the lock L and the records l before, L' and l' after
abbrev pub OfCode : ℕ → TableRow → Scripts → Lock → List Rec → ℕ → Lock → List Rec → Row → Type 0
OfCode code Does S L l i L' l' row = row.access ≡ code → Does i L (here l i) (op_of S l i) (val_of S l i) L' (here l' i) row.got

pub record Entered (S : Scripts) (L : Lock) (l : List Rec) (i : ℕ) (L' : Lock) (l' : List Rec) (row : Row) : Type 0 where
  pub thread : row.thread ≡ i
  pub one_of_fourteen : (1 ≤ row.access) × (row.access ≤ fails_exc)
  pub code_1 : OfCode loads_rc Does1 S L l i L' l' row
  pub code_2 : OfCode exchanges_rc Does2 S L l i L' l' row
  pub code_3 : OfCode loads_exc Does3 S L l i L' l' row
  pub code_4 : OfCode gives_back Does4 S L l i L' l' row
  pub code_5 : OfCode borrows_cell Does5 S L l i L' l' row
  pub code_6 : OfCode releases_rc Does6 S L l i L' l' row
  pub code_7 : OfCode exchanges_exc Does7 S L l i L' l' row
  pub code_8 : OfCode waits_rc Does8 S L l i L' l' row
  pub code_9 : OfCode takes_cell Does9 S L l i L' l' row
  pub code_10 : OfCode puts_cell Does10 S L l i L' l' row
  pub code_11 : OfCode stores_exc Does11 S L l i L' l' row
  pub code_12 : OfCode drops_handle Does12 S L l i L' l' row
  pub code_13 : OfCode fails_rc Does13 S L l i L' l' row
  pub code_14 : OfCode fails_exc Does14 S L l i L' l' row
  -- where the source makes an exchange, code and got are what it returned
  pub told : TellsExchange L (here l i) (op_of S l i) row
  -- what a borrow and a take got is permitted
  pub permitted : (row.access ≡ borrows_cell) ⊎ (row.access ≡ takes_cell) → permits L.pred row.got ≡ true
  -- the row has the flag and the count after it
  pub flag : row.exc ≡ bit L'.exc
  pub count : row.rc ≡ L'.rc.0
  -- predicate, top, the number of records and the other threads' records stay
  pub same_pred : L'.pred ≡ L.pred
  pub same_top : L'.top ≡ L.top
  pub size : length l' ≡ length l
  pub others : (j : ℕ) → j ≢ i → here l' j ≡ here l j

-- a run of one entry from any state, its row's answer 0
abbrev pub AcceptedEntry : Type 0
AcceptedEntry =
    (s : Lent) (L : Lock) (l : List Rec) (i budget : ℕ) (trace : List ℕ) (left : RunLeft) → left ≡ run_lent s L l (i ∷ []) budget trace
    → left.n ≡ 1 → get_or left.trace 2 0 ≡ 0
    → Entered (scripts_of s) L l i left.lock left.recs (row_in left.trace)

abbrev pub AcceptedEntryByValue : Type 0
AcceptedEntryByValue =
    (s : Lent) (count : ℕ) (L : Lock) (recs : List Rec) (i budget : ℕ) (trace : List ℕ) (r : RunReturn) (trace' : List ℕ)
    → ReturnedByRun s count L recs (i ∷ []) budget trace r → LeftByRun s count L recs (i ∷ []) budget trace trace'
    → length recs ≡ most_threads → r.ran.n ≡ 1 → get_or trace' 2 0 ≡ 0
    → Entered (scripts_of s) L (take count recs) i r.ran.lock (take count r.recs) (row_in trace') × (drop count r.recs ≡ drop count recs)

-- each entry of any run, by whichever function and from whatever state, if its row's answer is 0: before it is what the first k entries
-- leave, after it what one more leaves
abbrev pub AcceptedEntries : Type 0
AcceptedEntries =
    (s : Lent) (L : Lock) (l : List Rec) (schedule : List ℕ) (budget : ℕ) (trace : List ℕ) (n zeros : ℕ) (L' : Lock) (l' : List Rec) (trace' : List ℕ)
    → IsRun s L l schedule budget trace n zeros L' l' trace'
    → (k : ℕ) → k < n
    → let row = row_in (drop (row_words * k) trace') in
    row.answer ≡ 0
    → let before = run (scripts_of s) L l (take k schedule) in
    let after = run (scripts_of s) L l (take (suc k) schedule) in
    Entered (scripts_of s) before.lock before.recs (get_or schedule k 0) after.lock after.recs row

-- ---- the answer in the row of an entry, accepted or refused: it is exact, the lowest of 11 to 16 whose condition holds, 0 if none does
abbrev pub EntryAnswer : Type 0
EntryAnswer =
    (s : Lent) (L : Lock) (l : List Rec) (i budget : ℕ) (trace : List ℕ) (left : RunLeft) → left ≡ run_lent s L l (i ∷ []) budget trace
    → left.n ≡ 1
    → Exact (AtEntry (scripts_of s) L l i) (get_or left.trace 2 0)

abbrev pub EntryAnswerByValue : Type 0
EntryAnswerByValue =
    (s : Lent) (count : ℕ) (L : Lock) (recs : List Rec) (i budget : ℕ) (trace : List ℕ) (r : RunReturn) (trace' : List ℕ)
    → ReturnedByRun s count L recs (i ∷ []) budget trace r → LeftByRun s count L recs (i ∷ []) budget trace trace'
    → r.ran.n ≡ 1
    → Exact (AtEntry (scripts_of s) L (take count recs) i) (get_or trace' 2 0)
