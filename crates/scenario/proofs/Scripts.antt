-- The scripts that lines name, and the lists that are lent for them: what one op line more, after all others, makes of both. Assumes nothing.
use Prim.Native.Nat.{ℕ, zero, suc, ◌+◌, ◌<◌}
use mathlib.Core.Bool.{Bool, true, false, cond}
use mathlib.Core.Path.{◌≡◌, refl, sym, ap, ◌∙◌}
use mathlib.Core.List.{List, [], ◌∷◌, ◌++◌, map, flatten, append-nil, append_assoc, map-append}
use mathlib.Core.Logic.{◌≢◌}
use native.Mathlib.Nat.{add-zero, zero-add, add-suc, suc-add}
use native.Mathlib.Omega.{arith}
use borrow.Author.Tests.{eq-eqb, ne_eqb}
use lib.Dec.{eqb}
use lib.ListN.{length, get_or, set, replicate, length-append, get_or-map}
use Rattle.machine.specs.Lists.{lists}
use Rattle.machine.specs.ListLaws.{Op, lent_for}
use Rattle.scenario_lines.specs.declared.Line.{Line}
use Rattle.scenario_lines.specs.declared.Line.TheVariants.{Broken, Header, BadNumber, Lock, Pred as PredLine, Op as OpLine, Run as RunLine, NoKind}
use Rattle.scenario.specs.Scenario.{lent_with}
use Rattle.scenario.specs.Named.{script_of, scripts_from, entries_of}

-- ---- the script of one thread
both : {A : Type 0} (b : Bool) (x : A) (xs ys : List A) → cond b (x ∷ (xs ++ ys)) (xs ++ ys) ≡ cond b (x ∷ xs) xs ++ ys
both true x xs ys = refl
both false x xs ys = refl

script_append : (t : ℕ) (xs ys : List Line) → script_of t (xs ++ ys) ≡ script_of t xs ++ script_of t ys
unfolding script_of
script_append t [] ys = refl
script_append t (Broken ∷ xs) ys = script_append t xs ys
script_append t (Header ∷ xs) ys = script_append t xs ys
script_append t (BadNumber ∷ xs) ys = script_append t xs ys
script_append t (Lock m v n ∷ xs) ys = script_append t xs ys
script_append t (PredLine kind a b ∷ xs) ys = script_append t xs ys
script_append t (OpLine u code value ∷ xs) ys =
    rw (script_append t xs ys) (both (eqb u t) (record { code = code; value = value }) (script_of t xs) (script_of t ys))
script_append t (RunLine u times ∷ xs) ys = script_append t xs ys
script_append t (NoKind ∷ xs) ys = script_append t xs ys

script_run : (t u times : ℕ) (xs : List Line) → script_of t (xs ++ (RunLine u times ∷ [])) ≡ script_of t xs
unfolding script_of
script_run t u times xs = script_append t xs (RunLine u times ∷ []) ∙ append-nil (script_of t xs)

script_own : (t code value : ℕ) (xs : List Line)
    → script_of t (xs ++ (OpLine t code value ∷ [])) ≡ script_of t xs ++ (record { code = code; value = value } ∷ [])
unfolding script_of
script_own t code value xs = script_append t xs (OpLine t code value ∷ []) ∙ rw (eq-eqb t t refl)

script_other : (t u code value : ℕ) (xs : List Line) → u ≢ t → script_of t (xs ++ (OpLine u code value ∷ [])) ≡ script_of t xs
unfolding script_of
script_other t u code value xs ne = script_append t xs (OpLine u code value ∷ []) ∙ rw (ne_eqb u t ne) (append-nil (script_of t xs))

-- ---- the scripts of all threads
pub scripts_run : (k n u times : ℕ) (xs : List Line) → scripts_from k n (xs ++ (RunLine u times ∷ [])) ≡ scripts_from k n xs
unfolding scripts_from
scripts_run k zero u times xs = refl
scripts_run k (suc n) u times xs = rw (script_run k u times xs, scripts_run (suc k) n u times xs)

scripts_past : (k n t code value : ℕ) (xs : List Line) → t < k → scripts_from k n (xs ++ (OpLine t code value ∷ [])) ≡ scripts_from k n xs
unfolding scripts_from
scripts_past k zero t code value xs h = refl
scripts_past k (suc n) t code value xs h =
    rw (script_other k t code value xs (λ e. omega arith), scripts_past (suc k) n t code value xs (omega arith))

-- an op line of the thread k + j adds to the script j of those from k on
scripts_op : (k n j code value : ℕ) (xs : List Line)
    → scripts_from k n (xs ++ (OpLine (k + j) code value ∷ []))
    ≡ set (scripts_from k n xs) j (script_of (k + j) xs ++ (record { code = code; value = value } ∷ []))
unfolding scripts_from
scripts_op k zero j code value xs = refl
scripts_op k (suc n) zero code value xs =
    rw (add-zero k, script_own k code value xs, scripts_past (suc k) n k code value xs (omega arith))
scripts_op k (suc n) (suc j) code value xs =
    rw (script_other k (k + suc j) code value xs (λ e. omega arith), add-suc k j, ← suc-add k j, scripts_op (suc k) n j code value xs)

pub scripts_length : (k n : ℕ) (xs : List Line) → length (scripts_from k n xs) ≡ n
unfolding scripts_from
scripts_length k zero xs = refl
scripts_length k (suc n) xs = ap suc (scripts_length (suc k) n xs)

script_there : (k n j : ℕ) (xs : List Line) → j < n → get_or (scripts_from k n xs) j [] ≡ script_of (k + j) xs
unfolding scripts_from
script_there k zero j xs h = absurd (omega arith)
script_there k (suc n) zero xs h = rw (add-zero k)
script_there k (suc n) (suc j) xs h = rw (add-suc k j, ← suc-add k j) (script_there (suc k) n j xs (omega arith))

-- ---- the lists that are lent for scripts, one operation more
lengths_set : (scripts : List (List Op)) (t : ℕ) (x : List Op) → map length (set scripts t x) ≡ set (map length scripts) t (length x)
lengths_set [] t x = refl
lengths_set (s ∷ more) zero x = refl
lengths_set (s ∷ more) (suc t) x = ap (λ (ns : List ℕ). length s ∷ ns) (lengths_set more t x)

none_of : {A : Type 0} (xs : List A) → length xs ≡ 0 → xs ≡ []
none_of [] e = refl
none_of (x ∷ xs) e = absurd (omega (arith, e))

flat_none : (scripts : List (List Op)) → ((i : ℕ) → length (get_or scripts i []) ≡ 0) → flatten scripts ≡ []
unfolding flatten
flat_none [] h = refl
flat_none (s ∷ more) h = rw (none_of s (h 0), flat_none more (λ i. h (suc i)))

flat_set : (scripts : List (List Op)) (t : ℕ) (o : Op) → t < length scripts → ((i : ℕ) → t < i → length (get_or scripts i []) ≡ 0)
    → flatten (set scripts t (get_or scripts t [] ++ (o ∷ []))) ≡ flatten scripts ++ (o ∷ [])
unfolding flatten
flat_set [] t o h later = absurd (omega arith)
flat_set (s ∷ more) zero o h later =
    rw (flat_none more (λ i. later (suc i) (omega arith)), append-nil s, append-nil (s ++ (o ∷ [])))
flat_set (s ∷ more) (suc t) o h later =
    rw (flat_set more t o (omega arith) (λ i g. later (suc i) (omega arith))) (sym (append_assoc s (flatten more) (o ∷ [])))

module _ (scripts : List (List Op)) (t code value : ℕ) (h : t < length scripts) (later : (i : ℕ) → t < i → get_or (map length scripts) i 0 ≡ 0) where
  abbrev added : Op
  added = record { code = code; value = value }

  abbrev longer : List Op
  longer = get_or scripts t [] ++ (added ∷ [])

  lens_more : map length (set scripts t longer) ≡ set (map length scripts) t (get_or (map length scripts) t 0 + 1)
  lens_more =
      lengths_set scripts t longer
      ∙ ap (λ (n : ℕ). set (map length scripts) t n)
      (length-append (get_or scripts t []) (added ∷ []) ∙ ap (λ (n : ℕ). n + 1) (sym (get_or-map length scripts t [])))

  words_more : (f : Op → ℕ) → map f (flatten (set scripts t longer)) ≡ map f (flatten scripts) ++ (f added ∷ [])
  words_more f =
      ap (map f) (flat_set scripts t added h (λ i g. sym (get_or-map length scripts i []) ∙ later i g))
      ∙ map-append f (flatten scripts) (added ∷ [])

  lent_set : lent_for (set scripts t longer) ≡ lent_with (lent_for scripts) t code value
  lent_set = rw (lens_more, words_more (λ o. o.code), words_more (λ o. o.value))

-- the lists of the scripts that lines name, with one op line more, of the last thread that has one or a later one
pub lent_op : (n t code value : ℕ) (xs : List Line) → t < n → ((i : ℕ) → t < i → get_or (lent_for (scripts_from 0 n xs)).lens i 0 ≡ 0)
    → lent_for (scripts_from 0 n (xs ++ (OpLine t code value ∷ []))) ≡ lent_with (lent_for (scripts_from 0 n xs)) t code value
lent_op n t code value xs h later =
    let scripts = scripts_from 0 n xs in
    let own : get_or scripts t [] ≡ script_of t xs = rw zero-add at (script_there 0 n t xs h) in
    let more : scripts_from 0 n (xs ++ (OpLine t code value ∷ [])) ≡ set scripts t (script_of t xs ++ (record { code = code; value = value } ∷ [])) =
    rw zero-add at (scripts_op 0 n t code value xs)
    in
    ap lent_for (more ∙ rw own)
    ∙ lent_set scripts t code value (rw (scripts_length 0 n xs) h) later

no_lengths : (k n : ℕ) → map length (scripts_from k n []) ≡ replicate n 0
unfolding scripts_from script_of
no_lengths k zero = refl
no_lengths k (suc n) = ap (λ (ns : List ℕ). 0 ∷ ns) (no_lengths (suc k) n)

no_script : (k n i : ℕ) → length (get_or (scripts_from k n []) i []) ≡ 0
unfolding scripts_from script_of
no_script k zero i = refl
no_script k (suc n) zero = refl
no_script k (suc n) (suc i) = no_script (suc k) n i

pub lent_none : (n : ℕ) → lent_for (scripts_from 0 n []) ≡ lists (replicate n 0) [] []
lent_none n = rw (no_lengths 0 n, flat_none (scripts_from 0 n []) (no_script 0 n))

-- ---- the entries
pub entries_append : (xs ys : List Line) → entries_of (xs ++ ys) ≡ entries_of xs ++ entries_of ys
unfolding entries_of
entries_append [] ys = refl
entries_append (Broken ∷ xs) ys = entries_append xs ys
entries_append (Header ∷ xs) ys = entries_append xs ys
entries_append (BadNumber ∷ xs) ys = entries_append xs ys
entries_append (Lock m v n ∷ xs) ys = entries_append xs ys
entries_append (PredLine kind a b ∷ xs) ys = entries_append xs ys
entries_append (OpLine u code value ∷ xs) ys = entries_append xs ys
entries_append (RunLine t times ∷ xs) ys = rw (entries_append xs ys) (sym (append_assoc (replicate times t) (entries_of xs) (entries_of ys)))
entries_append (NoKind ∷ xs) ys = entries_append xs ys
