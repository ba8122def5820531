-- A run over a schedule with its rows; and run as it is called: its refusals, how far it goes, and what it leaves in every list.
use Rattle.std.specs.Prelude.{ℕ, ◌+◌, ◌*◌, ◌/◌, min, ◌||◌, not, cond, List, [], ◌∷◌, ◌++◌, eqb, ltb, length, take, drop}
use Rattle.machine.specs.Names.{unsound, most_threads, row_words}
use Rattle.machine.specs.Words.{bit}
use Rattle.machine.specs.Refusals.{Check, gives, lowest}
use Rattle.machine.specs.Lists.{Lent, scripts_of, list_checks, beside}
use Rattle.machine.specs.Step.{Scripts, step}
use Rattle.machine.specs.Sound.{sound}
use Rattle.machine.specs.declared.Lock.{Lock}
use Rattle.machine.specs.declared.Rec.{Rec}
use Rattle.machine.specs.declared.Row.{Row}
use Rattle.machine.specs.declared.Refusal.{Refusal}

pub record Ran : Type 0 where
  pub lock : Lock
  pub recs : List Rec
  pub rows : List Row

-- what comes after a row
abbrev pub later : Row → Ran → Ran
later r w = record { lock = w.lock; recs = w.recs; rows = r ∷ w.rows }

unfoldable pub run : Scripts → Lock → List Rec → List ℕ → Ran
run S L l [] = record { lock = L; recs = l; rows = [] }
run S L l (i ∷ more) = later (step S L l i).row (run S (step S L l i).lock (step S L l i).recs more)

-- how many rows have the answer 0
unfoldable pub accepted : List Row → ℕ
accepted [] = 0
accepted (r ∷ rows) = bit (eqb r.answer 0) + accepted rows

-- ---- run as it is called
-- the rows as words
unfoldable pub words_of : List Row → List ℕ
words_of [] = []
words_of (r ∷ rows) = r.thread ∷ r.access ∷ r.answer ∷ r.got ∷ r.exc ∷ r.rc ∷ words_of rows

-- n: the least of budget, schedule length and whole rows of room
abbrev pub entries : ℕ → List ℕ → List ℕ → ℕ
entries budget schedule trace = min budget (min (length schedule) (length trace / row_words))

abbrev pub run_checks : Lent → Lock → List Rec → List Check
run_checks s L l =
    list_checks s (length l)
    ++ (gives unsound (eqb (length s.lens) 0 || (ltb most_threads (length s.lens) || not (sound (scripts_of s) L l))) ∷ [])

unfoldable pub run_refusal : Lent → Lock → List Rec → ℕ
run_refusal s L l = lowest (run_checks s L l)

-- what a run leaves: the refusal, whose number is 0 for none; n; the number of rows with answer 0; the lock; the lent lists
pub record RunLeft : Type 0 where
  pub refusal : Refusal
  pub n : ℕ
  pub done : ℕ
  pub lock : Lock
  pub recs : List Rec
  pub trace : List ℕ

abbrev pub refused_run : Refusal → Lock → List Rec → List ℕ → RunLeft
refused_run why L l trace = record { refusal = why; n = 0; done = 0; lock = L; recs = l; trace = trace }

abbrev pub made_run : Refusal → ℕ → List ℕ → Ran → RunLeft
made_run none n trace w =
    record {
      refusal = none;
      n = n;
      done = accepted w.rows;
      lock = w.lock;
      recs = w.recs;
      trace = words_of w.rows ++ drop (row_words * n) trace;
    }

unfoldable pub run_lent : Lent → Lock → List Rec → List ℕ → ℕ → List ℕ → RunLeft
run_lent s L l schedule budget trace =
    let k = run_refusal s L l in
    let n = entries budget schedule trace in
    cond (eqb k 0)
    (made_run (beside s 0) n trace (run (scripts_of s) L l (take n schedule)))
    (refused_run (beside s k) L l trace)
