-- The byte machine reads a file as its lines are read; and it may be cut anywhere. Assumes nothing.
use Prim.Native.Nat.{ℕ, ◌<◌, ◌≤◌}
use mathlib.Core.Bool.{Bool, true, false, cond}
use mathlib.Core.Path.{◌≡◌, refl, sym, ap, ◌∙◌}
use mathlib.Core.List.{List, [], ◌∷◌, ◌++◌, append_assoc, append-nil}
use native.Mathlib.Omega.{arith}
use borrow.Author.Tests.{eqb-true, ltb-false}
use lib.Dec.{eqb, ltb}
use lib.ListN.{length, length-append}
use Rattle.scenario_lines.specs.Lines.{lines, glue, across, whole}
use Rattle.scenario_lines.specs.Bytes.{add, too_long, Reader, reader, push, feed, finish, ended}

-- the carried line in front of the lines that follow
abbrev pub onto : List ℕ → List (List ℕ) → List (List ℕ)
onto [] [] = []
onto (b ∷ l) [] = (b ∷ l) ∷ []
onto l (m ∷ ms) = (l ++ m) ∷ ms

-- a CR that is held back, in front of what follows
abbrev held : Bool → List ℕ → List ℕ
held true bs = 13 ∷ bs
held false bs = bs

onto_nil : (ls : List (List ℕ)) → onto [] ls ≡ ls
onto_nil [] = refl
onto_nil (l ∷ ls) = refl

-- a byte that is no CR, and a CR before a byte that is no LF, is in its line
plain : (b : ℕ) (r : List ℕ) → eqb b 13 ≡ false → lines (b ∷ r) ≡ glue b (lines r)
unfolding lines
plain b [] e = refl
plain b (c ∷ r) e = rw e

lone : (b : ℕ) (r : List ℕ) → eqb b 10 ≡ false → lines (13 ∷ b ∷ r) ≡ glue 13 (lines (b ∷ r))
unfolding lines
lone b r e = rw e

broken : (r : List ℕ) → lines (13 ∷ 10 ∷ r) ≡ [] ∷ lines r
unfolding lines
broken r = refl

module _ {S : Type 0} (next : S → List ℕ → S) where
  pub cut : (r : Reader S) (a b : List ℕ) → feed next r (a ++ b) ≡ feed next (feed next r a) b
  unfolding feed
  cut r [] b = refl
  cut r (x ∷ a) b = cut (push next r x) a b

  module _ (long : (s : S) (l m : List ℕ) → 80 < length l → 80 < length m → next s l ≡ next s m) where
    at_test : (t : Bool) (s : S) (l m : List ℕ) (b : ℕ) → ltb (length l) 80 ≡ t → next s (cond t (l ++ b ∷ []) too_long ++ m) ≡ next s (l ++ b ∷ m)
    at_test true s l m b e = ap (next s) (append_assoc l (b ∷ []) m)
    at_test false s l m b e =
        let h : 80 ≤ length l = ltb-false (length l) 80 e in
        long s (too_long ++ m) (l ++ b ∷ m) (simp length-append (omega arith)) (simp length-append (omega arith))

    added : (s : S) (l m : List ℕ) (b : ℕ) → next s (add l b ++ m) ≡ next s (l ++ b ∷ m)
    unfolding add
    added s l m b = at_test (ltb (length l) 80) s l m b refl

    by_test : (t : Bool) (s : S) (l : List ℕ) (b : ℕ) → ended next s (cond t (l ++ b ∷ []) too_long) ≡ next s (cond t (l ++ b ∷ []) too_long)
    by_test true s [] b = refl
    by_test true s (x ∷ l) b = refl
    by_test false s l b = refl

    pub unended : (s : S) (l : List ℕ) (b : ℕ) → ended next s (add l b) ≡ next s (add l b)
    unfolding add
    unended s l b = by_test (ltb (length l) 80) s l b

    none_left : (s : S) (l : List ℕ) → across next s (onto l []) ≡ ended next s l
    unfolding across
    none_left s [] = refl
    none_left s (b ∷ l) = refl

    last_byte : (s : S) (l : List ℕ) (b : ℕ) → ended next s (add l b) ≡ next s (l ++ b ∷ [])
    last_byte s l b = unended s l b ∙ ap (next s) (sym (append-nil (add l b))) ∙ added s l [] b

    onto_glue : (s : S) (l : List ℕ) (b : ℕ) (ls : List (List ℕ)) → across next s (onto (add l b) ls) ≡ across next s (onto l (glue b ls))
    unfolding across
    onto_glue s l b [] = none_left s (add l b) ∙ last_byte s l b
    onto_glue s l b (m ∷ ms) = ap (λ (x : S). across next x ms) (added s l m b)

    -- what is read from here on, by bytes and by lines
    abbrev Same : List ℕ → Type 0
    Same bs = (cr : Bool) (s : S) (l : List ℕ) → finish next (feed next (reader l cr s) bs) ≡ across next s (onto l (lines (held cr bs)))

    free : (t : Bool) (s : S) (l : List ℕ) (b : ℕ) (bs : List ℕ) → Same bs → eqb b 13 ≡ t
        → finish next (feed next (cond t (reader l true s) (reader (add l b) false s)) bs) ≡ across next s (onto l (lines (b ∷ bs)))
    free true s l b bs same e = rw (eqb-true b 13 e) (same true s l)
    free false s l b bs same e = same false s (add l b) ∙ onto_glue s l b (lines bs) ∙ rw (plain b bs e)

    after : (t u : Bool) (s : S) (l : List ℕ) (b : ℕ) (bs : List ℕ) → Same bs → eqb b 10 ≡ t → eqb b 13 ≡ u
        → finish next (feed next (cond t (reader [] false (next s l)) (cond u (reader (add l 13) true s) (reader (add (add l 13) b) false s))) bs)
        ≡ across next s (onto l (lines (13 ∷ b ∷ bs)))
    unfolding across
    after true u s l b bs same e f =
        rw (eqb-true b 10 e, broken bs, append-nil l) (same false (next s l) [] ∙ rw (onto_nil (lines bs)))
    after false true s l b bs same e f =
        rw (lone b bs e) (rw (eqb-true b 13 f) (same true s (add l 13) ∙ onto_glue s l 13 (lines (13 ∷ bs))))
    after false false s l b bs same e f =
        rw (lone b bs e, plain b bs f)
        (same false s (add (add l 13) b) ∙ onto_glue s (add l 13) b (lines bs) ∙ onto_glue s l 13 (glue b (lines bs)))

    same_read : (bs : List ℕ) → Same bs
    unfolding feed lines across
    same_read [] false s l = sym (none_left s l)
    same_read [] true s l = last_byte s l 13
    same_read (b ∷ bs) false s l = free (eqb b 13) s l b bs (same_read bs) refl
    same_read (b ∷ bs) true s l = after (eqb b 10) (eqb b 13) s l b bs (same_read bs) refl refl

    -- the machine over bytes reads each file as its lines are read
    pub agree : (s : S) (file : List ℕ) → finish next (feed next (reader [] false s) file) ≡ whole next s file
    agree s file = same_read file false s [] ∙ rw (onto_nil (lines file))
