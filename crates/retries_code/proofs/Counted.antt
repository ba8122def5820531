-- One row more, and the loop over rows. Assumes nothing.
use Rattle.std.proofs.Common.{◌≡◌, ℕ, zero, suc, ◌+◌, ◌/◌, ◌%◌, ◌^◌, ◌<◌, ◌≤◌, Bool, true, false, cond, ◌&&◌, ltb, List, [], ◌∷◌, length, get_or, set, take, drop, map, refl, sym, ap, ◌∙◌, add-one, drop-cons, arith}
use lib.ListN.{drop_of_length-le}
use lib.Seq.{get_or-take}
use Rattle.std.specs.Simd.{first_chunks}
use package.borrow.Author.Tests.{ne_eqb, eq-eqb, ltb-true, ltb-false}
use Rattle.machine.specs.Names.{row_words}
use Rattle.retries.specs.Rows.{counted, row_in, rows_in, rows_of_words}
use Rattle.machine.specs.declared.Row.{Row}
use Rattle.retries.specs.Retries.{by}
use Rattle.retries.specs.Counts.{up_by, with_rows}
use Rattle.retries.proofs.Counts.{cut_anywhere}
use Rattle.retries_code.specs.Code.{with_row}

-- ---- one row
neither : (a : Bool) → (a && false) ≡ false
neither true = refl
neither false = refl

-- a row of which the test does not hold, or of a thread before t, adds nothing
nothing_added : (test : Row → Bool) (r : Row) (t : ℕ) (cs : List ℕ) → ((u : ℕ) → t ≤ u → (test r && by u r) ≡ false) → with_rows test t cs (r ∷ []) ≡ cs
unfolding with_rows up_by counted
nothing_added test r t [] h = refl
nothing_added test r t (c ∷ cs) h =
    rw (h t (omega arith)) (ap (λ (more : List ℕ). c ∷ more) (nothing_added test r (t + 1) cs (λ u le. h u (omega arith))))

-- a row of a thread from t on, by its place in the list
added : (test : Row → Bool) (r : Row) (t i : ℕ) (cs : List ℕ) → test r ≡ true → r.thread ≡ t + i → i < length cs
    → with_rows test t cs (r ∷ []) ≡ set cs i ((get_or cs i 0 + 1) % 2 ^ 64)
unfolding with_rows up_by counted
added test r t i [] e is h = absurd (omega arith)
added test r t zero (c ∷ cs) e is h =
    let here : r.thread ≡ t = omega (arith, is) in
    rw (e, eq-eqb r.thread t here)
    (ap (λ (more : List ℕ). (c + 1) % 2 ^ 64 ∷ more)
    (nothing_added test r (t + 1) cs (λ u le. rw (e, ne_eqb r.thread u (λ q. omega (arith, q, le, here))) refl)))
added test r t (suc i) (c ∷ cs) e is h =
    rw (e, ne_eqb r.thread t (λ q. omega (arith, q, is)))
    (ap (λ (more : List ℕ). c ∷ more) (added test r (t + 1) i cs e (omega (arith, is)) (omega (arith, h))))

-- the list has no number for it
past : (test : Row → Bool) (r : Row) (t : ℕ) (cs : List ℕ) → t + length cs ≤ r.thread → with_rows test t cs (r ∷ []) ≡ cs
unfolding with_rows up_by counted
past test r t [] h = refl
past test r t (c ∷ cs) h =
    rw (ne_eqb r.thread t (λ q. omega (arith, q)), neither (test r)) (ap (λ (more : List ℕ). c ∷ more) (past test r (t + 1) cs (omega arith)))

pub one_row : (test : Row → Bool) (r : Row) (cs : List ℕ) → with_rows test 0 cs (r ∷ []) ≡ with_row test r cs
one_row test r cs = go (test r) refl (ltb r.thread (length cs)) refl
  where
    go : (a : Bool) → test r ≡ a → (b : Bool) → ltb r.thread (length cs) ≡ b
        → with_rows test 0 cs (r ∷ []) ≡ cond (a && b) (set cs r.thread ((get_or cs r.thread 0 + 1) % 2 ^ 64)) cs
    go true e true f = added test r 0 r.thread cs e (omega arith) (ltb-true _ _ f)
    go true e false f = past test r 0 cs (omega (arith, ltb-false r.thread (length cs) f))
    go false e b f = nothing_added test r 0 cs (λ u le. rw e refl)

-- ---- the loop over rows
none_more : (test : Row → Bool) (t : ℕ) (cs : List ℕ) → with_rows test t cs [] ≡ cs
unfolding with_rows up_by counted
none_more test t [] = refl
none_more test t (c ∷ cs) = ap (λ (more : List ℕ). c ∷ more) (none_more test (t + 1) cs)

-- the words of a row are the first six
row_first : (trace : List ℕ) → row_in (take row_words trace) ≡ row_in trace
row_first trace =
    λ i. record {
      thread = get_or-take row_words trace 0 0 (omega arith) i;
      access = get_or-take row_words trace 1 0 (omega arith) i;
      answer = get_or-take row_words trace 2 0 (omega arith) i;
      got = get_or-take row_words trace 3 0 (omega arith) i;
      exc = get_or-take row_words trace 4 0 (omega arith) i;
      rc = get_or-take row_words trace 5 0 (omega arith) i;
    }

-- a list of words cut into rows
rows_cut : (n : ℕ) (trace : List ℕ) → map row_in (first_chunks row_words n trace) ≡ rows_in n trace
unfolding rows_in
rows_cut zero trace = refl
rows_cut (suc n) trace = λ i. row_first trace i ∷ rows_cut n (drop row_words trace) i

module _ (test : Row → Bool) (rows : List (List ℕ)) (k : ℕ) (cs : List ℕ) where
  -- one row of those that are left
  pub row_more : k < length rows → with_rows test 0 cs (map row_in (drop k rows)) ≡ with_rows test 0 (with_row test (row_in (get_or rows k [])) cs) (map row_in (drop (k + 1) rows))
  row_more lt =
      let row = row_in (get_or rows k []) in
      let left = map row_in (drop (k + 1) rows) in
      let cut : drop k rows ≡ get_or rows k [] ∷ drop (k + 1) rows = rw (add-one, drop-cons rows k [] lt) in
      ap (λ (l : List (List ℕ)). with_rows test 0 cs (map row_in l)) cut
      ∙ cut_anywhere test 0 cs (row ∷ []) left
      ∙ ap (λ (d : List ℕ). with_rows test 0 d left) (one_row test row cs)

  -- and none is left: the rows are those of the trace
  pub row_last : (trace before : List ℕ) → rows ≡ first_chunks row_words (length trace / row_words) trace
      → with_rows test 0 before (map row_in rows) ≡ with_rows test 0 cs (map row_in (drop k rows)) → length rows ≤ k
      → cs ≡ with_rows test 0 before (rows_of_words trace)
  row_last trace before cut counted over =
      let none : with_rows test 0 cs (map row_in (drop k rows)) ≡ cs = rw (drop_of_length-le rows over) (none_more test 0 cs) in
      let all : map row_in rows ≡ rows_of_words trace = ap (map row_in) cut ∙ rows_cut (length trace / row_words) trace in
      sym (ap (with_rows test 0 before) (sym all) ∙ counted ∙ none)
