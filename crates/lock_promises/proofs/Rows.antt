-- Rows that are written as words are read back, those of a later piece after the rows before them; and a run has a row for each entry
-- that it handles.
use Prim.Native.Nat.{ℕ, zero, suc, ◌*◌, ◌<◌}
use mathlib.Core.Path.{◌≡◌, refl, ap, ◌∙◌}
use mathlib.Core.Bool.{Bool, true, false}
use mathlib.Core.List.{List, [], ◌∷◌, ◌++◌}
use native.Mathlib.Omega.{arith}
use lib.Dec.{leb}
use lib.ListN.{length, take, drop}
use lib.Seq.{length-take-le, drop_at}
use package.borrow.Author.Tests.{leb-true, leb-false}
use Rattle.machine.specs.Names.{row_words}
use Rattle.machine.specs.Step.{Scripts}
use Rattle.machine.specs.Run.{run, words_of, entries}
use Rattle.machine.specs.declared.Lock.{Lock}
use Rattle.machine.specs.declared.Rec.{Rec}
use Rattle.machine.specs.declared.Row.{Row}
use Rattle.machine.proofs.RunRule.{rows_length}
use Rattle.lock_promises.specs.Reached.{rows_in}

pub rows_read_back : (rows : List Row) (rest : List ℕ) → rows_in (length rows) (words_of rows ++ rest) ≡ rows
unfolding rows_in words_of
rows_read_back [] rest = refl
rows_read_back (r ∷ rows) rest = ap (λ (more : List Row). r ∷ more) (rows_read_back rows rest)

-- the rows of a later piece, read after the first k words of the list; past its end there are none
pub later_rows : (n k : ℕ) (trace rest : List ℕ) → (length trace < k → n ≡ 0) → rows_in n (drop k (take k trace ++ rest)) ≡ rows_in n rest
unfolding rows_in
later_rows n k trace rest none = go (leb k (length trace)) refl
  where
    go : (b : Bool) → leb k (length trace) ≡ b → rows_in n (drop k (take k trace ++ rest)) ≡ rows_in n rest
    go true e = rw (drop_at (take k trace) rest k (length-take-le k trace (leb-true _ _ e))) refl
    go false e = rw (none (leb-false _ _ e)) refl

-- a list of the length of what comes after the first k words, put in its place: it is read back, and the first k words stay
pub rest_read_back : (k : ℕ) (trace rest : List ℕ) → length rest ≡ length (drop k trace)
    → (drop k (take k trace ++ rest) ≡ rest) × (take k (take k trace ++ rest) ≡ take k trace)
rest_read_back zero trace rest same = (refl, refl)
rest_read_back (suc k) [] [] same = (refl, refl)
rest_read_back (suc k) [] (w ∷ rest) same = absurd (omega (arith, same))
rest_read_back (suc k) (w ∷ trace) rest same =
    let (there, before) = rest_read_back k trace rest same in
    (there, ap (λ (l : List ℕ). w ∷ l) before)

-- the entries that a run handles
abbrev pub handled : List ℕ → ℕ → List ℕ → List ℕ
handled schedule budget trace = take (entries budget schedule trace) schedule

pub row_each : (S : Scripts) (L : Lock) (l : List Rec) (schedule : List ℕ) (budget : ℕ) (trace : List ℕ)
    → length (run S L l (handled schedule budget trace)).rows ≡ entries budget schedule trace
row_each S L l schedule budget trace =
    rows_length S L l (handled schedule budget trace) ∙ length-take-le (entries budget schedule trace) schedule (omega arith)

-- the rows that are written are read back
pub rows_told : (S : Scripts) (L : Lock) (l : List Rec) (schedule : List ℕ) (budget : ℕ) (trace : List ℕ)
    → let n = entries budget schedule trace in
    let rows = (run S L l (handled schedule budget trace)).rows in
    rows_in n (words_of rows ++ drop (row_words * n) trace) ≡ rows
rows_told S L l schedule budget trace =
    let n = entries budget schedule trace in
    rw (row_each S L l schedule budget trace) at (rows_read_back (run S L l (handled schedule budget trace)).rows (drop (row_words * n) trace))
