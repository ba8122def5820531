-- What the checks of the lists answer where one operation is added to lists that pass them, after all others. Assumes nothing.
use Prim.Native.Nat.{ℕ, ◌+◌, ◌<◌, ◌≤◌}
use mathlib.Core.Bool.{Bool, true, false, ◌&&◌, not, cond, false≢true}
use mathlib.Core.Path.{◌≡◌, refl, sym, ◌∙◌}
use mathlib.Core.List.{List, [], ◌∷◌, ◌++◌}
use mathlib.Core.Logic.{◌≢◌}
use native.Mathlib.Omega.{arith}
use borrow.Author.Tests.{lt-ltb, le-ltb, ltb-true, ltb-false, leb-true, leb-false, eq-eqb, eqb-true, eqb-false}
use lib.Dec.{eqb, ltb, leb}
use lib.ListN.{length, get_or, set, take, length-set, length-append, get_or-append}
use lib.Seq.{get_or-set_same, get_or-set_other, get_or-append_seam}
use Rattle.cell.specs.declared.pred.Pred.{Pred}
use Rattle.machine.specs.Names.{script_too_long, wrong_code, longest_script}
use Rattle.machine.specs.Refusals.{lowest}
use Rattle.machine.specs.Lists.{Lent, total, scripts_of, find, wrong, long_thread, wrong_place, wrong_thread, list_checks}
use Rattle.machine.specs.Setup.{setup_checks, setup_refusal}
use Rattle.machine.proofs.Find.{found, first}
use Rattle.machine.proofs.Refusals.{passed, not_so}
use Rattle.scenario.specs.Scenario.{lent_with}
use Rattle.scenario.proofs.Adds.{total_set, start_set, ends_last, inside}

-- ---- a search, by what it searches for
pub finds : (test : ℕ → Bool) (n k : ℕ) → k < n → test k ≡ true → ltb (find test 0 n) n ≡ true
finds test n k h e = let g = first test n k h e in lt-ltb (find test 0 n) n (omega arith)

pub finds_none : (test : ℕ → Bool) (n : ℕ) → ((k : ℕ) → k < n → test k ≡ false) → ltb (find test 0 n) n ≡ false
finds_none test n h =
    not_so (ltb (find test 0 n) n)
    (λ e. let g = ltb-true (find test 0 n) n e in false≢true (sym (h (find test 0 n) g) ∙ found test n g))

-- what was not found is nowhere
pub nowhere : (test : ℕ → Bool) (n k : ℕ) → ltb (find test 0 n) n ≡ false → k < n → test k ≡ false
nowhere test n k e h = not_so (test k) (λ t. false≢true (sym e ∙ finds test n k h t))

-- ---- lists that pass the checks
pub record Fine (l : Lent) (threads : ℕ) : Type 0 where
  pub short : (i : ℕ) → i < length l.lens → get_or l.lens i 0 ≤ longest_script
  pub ops : length l.ops ≡ total l.lens
  pub vals : length l.vals ≡ total l.lens
  pub counted : threads ≡ length l.lens
  pub right : (i k : ℕ) → i < length l.lens → k < get_or l.lens i 0 → wrong ((scripts_of l).op i k) ((scripts_of l).val i k) ≡ false

three : (a b c : Bool) → not (a && (b && c)) ≡ false → (a ≡ true) × (b ≡ true) × (c ≡ true)
three true true true e = (refl, refl, refl)
three true true false e = absurd (false≢true (sym e))
three true false c e = absurd (false≢true (sym e))
three false b c e = absurd (false≢true (sym e))

module _ (q : Pred) (m v : ℕ) (l : Lent) (threads : ℕ) (none : setup_refusal q m v l threads ≡ 0) where
  pub fine : Fine l threads
  unfolding setup_refusal
  fine =
      let p = passed 0 (setup_checks q m v l threads) (omega arith) none in
      let sums = three (eqb (length l.ops) (total l.lens)) (eqb (length l.vals) (total l.lens)) (eqb threads (length l.lens)) p.1.1.1.1.1.0 in
      record {
        short = λ i h. ltb-false longest_script (get_or l.lens i 0) (nowhere (λ t. ltb longest_script (get_or l.lens t 0)) (length l.lens) i p.1.1.1.1.0 h);
        ops = eqb-true (length l.ops) (total l.lens) sums.0;
        vals = eqb-true (length l.vals) (total l.lens) sums.1;
        counted = eqb-true threads (length l.lens) sums.2;
        right = λ i k h g. nowhere (λ j. wrong ((scripts_of l).op i j) ((scripts_of l).val i j)) (get_or l.lens i 0) k
            (nowhere (λ t. ltb (wrong_place (scripts_of l) t) ((scripts_of l).len t)) (length l.lens) i p.1.1.1.1.1.1.0 h) g;
      }

-- ---- one operation more, after all others
module _ (l : Lent) (threads : ℕ) (f : Fine l threads) (t code value : ℕ) (there : t < length l.lens) (later : (i : ℕ) → t < i → get_or l.lens i 0 ≡ 0) where
  sum_more : total (set l.lens t (get_or l.lens t 0 + 1)) ≡ total l.lens + 1
  sum_more = omega (arith, total_set l.lens t (get_or l.lens t 0 + 1) there)

  len_same : get_or (set l.lens t (get_or l.lens t 0 + 1)) t 0 ≡ get_or l.lens t 0 + 1
  len_same = get_or-set_same l.lens t (get_or l.lens t 0 + 1) 0 there

  module _ (words : List ℕ) (x : ℕ) (e : length words ≡ total l.lens) where
    word_before : (i k : ℕ) → i < length l.lens → i ≤ t → k < get_or l.lens i 0
        → get_or (words ++ (x ∷ [])) (total (take i (set l.lens t (get_or l.lens t 0 + 1))) + k) 0 ≡ get_or words (total (take i l.lens) + k) 0
    word_before i k h b g =
        let w = inside l.lens i k h g in
        rw (start_set l.lens t (get_or l.lens t 0 + 1) i b) (get_or-append words (x ∷ []) 0 (total (take i l.lens) + k) (omega arith))

    word_last : get_or (words ++ (x ∷ [])) (total (take t (set l.lens t (get_or l.lens t 0 + 1))) + get_or l.lens t 0) 0 ≡ x
    word_last =
        let w = ends_last l.lens t there later in
        rw (start_set l.lens t (get_or l.lens t 0 + 1) t (omega arith), w, ← e) (get_or-append_seam words x [] 0)

  -- thread i's word k of the lists with the operation added is wrong
  abbrev wrong_at : ℕ → ℕ → Bool
  wrong_at i k = let l' = lent_with l t code value in wrong ((scripts_of l').op i k) ((scripts_of l').val i k)

  added_at : wrong_at t (get_or l.lens t 0) ≡ wrong code value
  added_at = rw (word_last l.ops code f.ops, word_last l.vals value f.vals)

  unchanged : (i k : ℕ) → i < length l.lens → i ≤ t → k < get_or l.lens i 0 → wrong_at i k ≡ false
  unchanged i k h b g = rw (word_before l.ops code f.ops i k h b g, word_before l.vals value f.vals i k h b g) (f.right i k h g)

  -- of the thread itself, by whether k is the new place; of another thread
  of_itself : (e : Bool) (k : ℕ) → eqb k (get_or l.lens t 0) ≡ e → k < get_or l.lens t 0 + 1 → wrong code value ≡ false → wrong_at t k ≡ false
  of_itself true k e h w = rw (eqb-true k (get_or l.lens t 0) e) (added_at ∙ w)
  of_itself false k e h w = let d = eqb-false k (get_or l.lens t 0) e in unchanged t k there (omega arith) (omega arith)

  of_another : (b : Bool) (i k : ℕ) → leb i t ≡ b → i ≢ t → i < length l.lens → k < get_or l.lens i 0 → wrong_at i k ≡ false
  of_another true i k e d h g = unchanged i k h (leb-true i t e) g
  of_another false i k e d h g = absurd (omega (arith, later i (leb-false i t e)))

  none_wrong : (e : Bool) (i k : ℕ) → eqb i t ≡ e → i < length l.lens → k < get_or (set l.lens t (get_or l.lens t 0 + 1)) i 0 → wrong code value ≡ false
      → wrong_at i k ≡ false
  none_wrong true i k e h g w =
      let j : i ≡ t = eqb-true i t e in
      rw j (of_itself (eqb k (get_or l.lens t 0)) k refl (rw (j, len_same) at g) w)
  none_wrong false i k e h g w =
      let d : i ≢ t = eqb-false i t e in
      of_another (leb i t) i k refl d h (rw (get_or-set_other l.lens t i (get_or l.lens t 0 + 1) 0 d) at g)

  -- ---- the three checks
  still_short : (e : Bool) (i : ℕ) → eqb i t ≡ e → i < length l.lens → get_or l.lens t 0 < longest_script
      → ltb longest_script (get_or (set l.lens t (get_or l.lens t 0 + 1)) i 0) ≡ false
  still_short true i e h g = rw (eqb-true i t e, len_same) (le-ltb longest_script (get_or l.lens t 0 + 1) (omega arith))
  still_short false i e h g =
      let d : i ≢ t = eqb-false i t e in
      rw (get_or-set_other l.lens t i (get_or l.lens t 0 + 1) 0 d) (le-ltb longest_script (get_or l.lens i 0) (f.short i h))

  for_too_long : longest_script ≤ get_or l.lens t 0 → ltb (long_thread (lent_with l t code value).lens) (length (lent_with l t code value).lens) ≡ true
  for_too_long h =
      finds (λ i. ltb longest_script (get_or (lent_with l t code value).lens i 0)) (length (lent_with l t code value).lens) t
      (rw length-set there)
      (rw len_same (lt-ltb longest_script (get_or l.lens t 0 + 1) (omega arith)))

  not_long : get_or l.lens t 0 < longest_script → ltb (long_thread (lent_with l t code value).lens) (length (lent_with l t code value).lens) ≡ false
  not_long g =
      finds_none (λ i. ltb longest_script (get_or (lent_with l t code value).lens i 0)) (length (lent_with l t code value).lens)
      (λ i h. still_short (eqb i t) i refl (rw length-set at h) g)

  lengths_fit : let l' = lent_with l t code value in
      not (eqb (length l'.ops) (total l'.lens) && (eqb (length l'.vals) (total l'.lens) && eqb threads (length l'.lens))) ≡ false
  lengths_fit =
      let l' = lent_with l t code value in
      let o = eq-eqb (length l'.ops) (total l'.lens) (length-append l.ops (code ∷ []) ∙ omega (arith, f.ops, sum_more)) in
      let v = eq-eqb (length l'.vals) (total l'.lens) (length-append l.vals (value ∷ []) ∙ omega (arith, f.vals, sum_more)) in
      let c = eq-eqb threads (length l'.lens) (f.counted ∙ sym (length-set l.lens t (get_or l.lens t 0 + 1))) in
      rw (o, v, c)

  code_wrong : wrong code value ≡ true
      → let l' = lent_with l t code value in ltb (wrong_thread (scripts_of l') (length l'.lens)) (length l'.lens) ≡ true
  code_wrong w =
      let l' = lent_with l t code value in
      finds (λ i. ltb (wrong_place (scripts_of l') i) ((scripts_of l').len i)) (length l'.lens) t
      (rw length-set there)
      (finds (wrong_at t) ((scripts_of l').len t) (get_or l.lens t 0) (rw len_same (omega arith)) (added_at ∙ w))

  code_right : wrong code value ≡ false
      → let l' = lent_with l t code value in ltb (wrong_thread (scripts_of l') (length l'.lens)) (length l'.lens) ≡ false
  code_right w =
      let l' = lent_with l t code value in
      finds_none (λ i. ltb (wrong_place (scripts_of l') i) ((scripts_of l').len i)) (length l'.lens)
      (λ i h. finds_none (wrong_at i) ((scripts_of l').len i) (λ k g. none_wrong (eqb i t) i k refl (rw length-set at h) g w))

  pub answers : (long bad : Bool) → leb longest_script (get_or l.lens t 0) ≡ long → wrong code value ≡ bad
      → lowest (list_checks (lent_with l t code value) threads) ≡ cond long script_too_long (cond bad wrong_code 0)
  unfolding lowest
  answers true bad e w = rw (for_too_long (leb-true longest_script (get_or l.lens t 0) e))
  answers false true e w = rw (not_long (leb-false longest_script (get_or l.lens t 0) e), lengths_fit, code_wrong w)
  answers false false e w = rw (not_long (leb-false longest_script (get_or l.lens t 0) e), lengths_fit, code_right w)
