-- What is claimed of runs, whatever the state: cutting, refused entries, the rule of run as it is called, and the induction.
use Rattle.std.specs.Prelude.{ℕ, zero, suc, ◌+◌, ◌*◌, ◌/◌, ◌<◌, ◌≤◌, min, ◌≡◌, ◌≢◌, List, [], ◌∷◌, ◌++◌, reverse, eqb, length, get_or, take, drop}
use Rattle.machine.specs.Names.{no_access, row_words}
use Rattle.machine.specs.Words.{bit}
use Rattle.machine.specs.Lists.{Lent, scripts_of, beside}
use Rattle.machine.specs.Step.{Scripts, step, entry_refusal, row_of}
use Rattle.machine.specs.Sound.{Sound}
use Rattle.machine.specs.Run.{run, run_refusal, run_lent}
use Rattle.machine.specs.declared.Lock.{Lock}
use Rattle.machine.specs.declared.Rec.{Rec}
use Rattle.machine.specs.declared.Row.{Row}

-- a run of s, then t, is a run of t from what the run of s leaves, its rows appended
abbrev pub Cutting : Type 0
Cutting =
    (S : Scripts) (L : Lock) (l : List Rec) (s t : List ℕ)
    → let a = run S L l s in
    let b = run S a.lock a.recs t in
    ((run S L l (s ++ t)).lock ≡ b.lock) × ((run S L l (s ++ t)).recs ≡ b.recs) × ((run S L l (s ++ t)).rows ≡ a.rows ++ b.rows)

-- a run of one entry is that entry's step
abbrev pub RunOne : Type 0
RunOne =
    (S : Scripts) (L : Lock) (l : List Rec) (i : ℕ)
    → ((run S L l (i ∷ [])).lock ≡ (step S L l i).lock) × ((run S L l (i ∷ [])).recs ≡ (step S L l i).recs) × ((run S L l (i ∷ [])).rows ≡ (step S L l i).row ∷ [])

-- row k of a run is that of the step of entry k, from the state that the entries before it leave
abbrev pub EachRow : Type 0
EachRow =
    (S : Scripts) (L : Lock) (l : List Rec) (schedule : List ℕ) (k : ℕ) (d : Row) → k < length schedule
    → let before = run S L l (take k schedule) in
    get_or (run S L l schedule).rows k d ≡ (step S before.lock before.recs (get_or schedule k 0)).row

-- a refused entry changes neither lock nor records, and leaves one row with access 0, got 0 and the flag and count as they stand
abbrev pub RefusedEntry : Type 0
RefusedEntry =
    (S : Scripts) (L : Lock) (l : List Rec) (i : ℕ) → entry_refusal S L l i ≢ 0
    → ((step S L l i).lock ≡ L) × ((step S L l i).recs ≡ l) × ((step S L l i).row ≡ row_of i L no_access (entry_refusal S L l i) 0)

-- the row's answer is the refusal's number, 0 for an entry that is accepted; its thread is the entry; flag and count are those after it
abbrev pub RowSays : Type 0
RowSays =
    (S : Scripts) (L : Lock) (l : List Rec) (i : ℕ)
    → ((step S L l i).row.answer ≡ entry_refusal S L l i)
    × ((step S L l i).row.thread ≡ i)
    × ((step S L l i).row.exc ≡ bit (step S L l i).lock.exc)
    × ((step S L l i).row.rc ≡ (step S L l i).lock.rc.0)

-- ---- run as it is called
-- of the first n rows of a trace list, those whose third word is 0
unfoldable pub zero_answers : ℕ → List ℕ → ℕ
zero_answers zero trace = 0
zero_answers (suc n) trace = bit (eqb (get_or trace 2 1) 0) + zero_answers n (drop row_words trace)

-- Where nothing is refused: the state is that of the run of the first n entries; n is the least of the three lengths; n rows are
-- written, six words a row; the number given back is that of the rows in the trace list whose third word is 0; every other word
-- stays, and the list's length does.
abbrev pub RunRule : Type 0
RunRule =
    (s : Lent) (L : Lock) (l : List Rec) (schedule : List ℕ) (budget : ℕ) (trace : List ℕ) → run_refusal s L l ≡ 0
    → let left = run_lent s L l schedule budget trace in
    let ran = run (scripts_of s) L l (take left.n schedule) in
    (left.refusal ≡ beside s 0)
    × (left.lock ≡ ran.lock)
    × (left.recs ≡ ran.recs)
    × (left.n ≡ min budget (min (length schedule) (length trace / row_words)))
    × (length ran.rows ≡ left.n)
    × ((k : ℕ) (d : Row) → k < left.n
    → (get_or left.trace (row_words * k) 0 ≡ (get_or ran.rows k d).thread)
    × (get_or left.trace (row_words * k + 1) 0 ≡ (get_or ran.rows k d).access)
    × (get_or left.trace (row_words * k + 2) 0 ≡ (get_or ran.rows k d).answer)
    × (get_or left.trace (row_words * k + 3) 0 ≡ (get_or ran.rows k d).got)
    × (get_or left.trace (row_words * k + 4) 0 ≡ (get_or ran.rows k d).exc)
    × (get_or left.trace (row_words * k + 5) 0 ≡ (get_or ran.rows k d).rc))
    × (left.done ≡ zero_answers left.n left.trace)
    × ((j : ℕ) → row_words * left.n ≤ j → get_or left.trace j 0 ≡ get_or trace j 0)
    × (length left.trace ≡ length trace)

-- a refused run changes nothing that is lent, and n is 0
abbrev pub RefusedRun : Type 0
RefusedRun =
    (s : Lent) (L : Lock) (l : List Rec) (schedule : List ℕ) (budget : ℕ) (trace : List ℕ) → run_refusal s L l ≢ 0
    → let left = run_lent s L l schedule budget trace in
    (left.refusal ≡ beside s (run_refusal s L l)) × (left.n ≡ 0) × (left.done ≡ 0) × (left.lock ≡ L) × (left.recs ≡ l) × (left.trace ≡ trace)

-- Two pieces are one run: with budgets and room that suffice, the second piece run into the rest of the
-- trace list, from the first unused row on, leaves what one run of both leaves.
abbrev pub Pieces : Type 0
Pieces =
    (s : Lent) (L : Lock) (l : List Rec) (first second : List ℕ) (m n both : ℕ) (trace : List ℕ) → run_refusal s L l ≡ 0
    → length first ≤ m → length second ≤ n → length first + length second ≤ both
    → row_words * (length first + length second) ≤ length trace
    → let a = run_lent s L l first m trace in
    let b = run_lent s a.lock a.recs second n (drop (row_words * length first) a.trace) in
    let whole = run_lent s L l (first ++ second) both trace in
    (whole.lock ≡ b.lock)
    × (whole.recs ≡ b.recs)
    × (whole.n ≡ a.n + b.n)
    × (whole.done ≡ a.done + b.done)
    × (whole.trace ≡ take (row_words * length first) a.trace ++ b.trace)

-- A property of the state and of the rows so far, the latest row first, that holds at the start and is kept by every step from a
-- sound state holds after every schedule.
abbrev pub Induction : Type 1
Induction =
    (S : Scripts) (P : Lock → List Rec → List Row → Type 0)
    → ((L : Lock) (l : List Rec) (past : List Row) (i : ℕ) → Sound S L l → P L l past → P (step S L l i).lock (step S L l i).recs ((step S L l i).row ∷ past))
    → (L : Lock) (l : List Rec) → Sound S L l → P L l [] → (schedule : List ℕ)
    → P (run S L l schedule).lock (run S L l schedule).recs (reverse (run S L l schedule).rows)
