-- A run that goes one entry further: the entry's step, its row after the others, in the trace list too.
use Prim.Native.Nat.{ℕ, suc, ◌+◌, ◌*◌, ◌<◌, ◌≤◌}
use mathlib.Core.Path.{◌≡◌, refl, ◌∙◌}
use mathlib.Core.List.{List, [], ◌∷◌, ◌++◌}
use native.Mathlib.Omega.{arith}
use lib.Dec.{eqb}
use lib.ListN.{length, take, drop, get_or, length-append, length-drop}
use lib.Seq.{sets, sets-eq, take-suc, take_at, drop-append-add, drop-drop}
use Rattle.machine.specs.Names.{row_words}
use Rattle.machine.specs.Words.{bit}
use Rattle.machine.specs.Step.{Scripts, step}
use Rattle.machine.specs.Run.{run, accepted, words_of}
use Rattle.machine.specs.declared.Lock.{Lock}
use Rattle.machine.specs.declared.Rec.{Rec}
use Rattle.machine.specs.declared.Row.{Row}
use Rattle.machine.proofs.RunLaws.{cutting}
use Rattle.machine.proofs.Words.{words_append, words_length, accepted_append}
use Rattle.lock.specs.Trace.{words_of_row}

-- one entry more
module _ (S : Scripts) (L : Lock) (l : List Rec) (s : List ℕ) (k : ℕ) (h : k < length s) where
  pub further : let w = run S L l (take k s) in
      let x = step S w.lock w.recs (get_or s k 0) in
      let v = run S L l (take (suc k) s) in
      (v.lock ≡ x.lock) × (v.recs ≡ x.recs) × (v.rows ≡ w.rows ++ (x.row ∷ []))
  unfolding run
  further = rw (take-suc s k 0 h) (cutting S L l (take k s) (get_or s k 0 ∷ []))

-- one row more among those with answer 0
pub one_more_done : (rows : List Row) (r : Row) → accepted (rows ++ (r ∷ [])) ≡ accepted rows + bit (eqb r.answer 0)
unfolding accepted
one_more_done rows r = accepted_append rows (r ∷ []) ∙ omega arith

-- the words of a row, put where the others end, in their place
put_at : (p vs t : List ℕ) (i : ℕ) → length p ≡ i → length vs ≤ length t → sets (p ++ t) i vs ≡ p ++ vs ++ drop (length vs) t
put_at p vs t i n room =
    sets-eq vs (p ++ t) i (omega (arith, length-append p t)) ∙ rw (take_at p t i n, ← n, drop-append-add p t (length vs)) refl

-- a row put after the others
pub row_put : (rows : List Row) (r : Row) (tr : List ℕ) (k : ℕ) → length rows ≡ k → row_words * suc k ≤ length tr
    → sets (words_of rows ++ drop (row_words * k) tr) (row_words * k) (words_of_row r) ≡ words_of (rows ++ (r ∷ [])) ++ drop (row_words * suc k) tr
unfolding words_of
row_put rows r tr k n room =
    let next : row_words * suc k ≡ row_words * k + 6 = omega arith in
    put_at (words_of rows) (words_of_row r) (drop (row_words * k) tr) (row_words * k) (words_length rows k n) (omega (arith, length-drop (row_words * k) tr))
    ∙ rw (next, ← drop-drop 6 (row_words * k) tr, words_append rows (r ∷ [])) refl
