-- Splitting a file into lines and a line into fields loses nothing and leaves no break, no comma, in a part. Assumes nothing.
use Prim.Native.Nat.{ℕ}
use mathlib.Core.Bool.{Bool, true, false, ◌&&◌, not, cond, false≢true}
use mathlib.Core.Path.{◌≡◌, refl, ap, ◌∙◌}
use mathlib.Core.List.{List, [], ◌∷◌, ◌++◌}
use borrow.Author.Tests.{eqb-true}
use lib.Dec.{eqb}
use Rattle.scenario_lines.specs.Lines.{cr, lf, breaks, glue, lines}
use Rattle.scenario_lines.specs.Judge.{comma, fields}
use Rattle.scenario_lines.specs.Split.{joined, every, break, unbroken, ends_broken, LinesJoined, LinesUnbroken, LineSplit, plain, FieldsJoined, FieldsPlain, FieldSplit}

both : (a b : Bool) → (a && b) ≡ true → (a ≡ true) × (b ≡ true)
both true b e = (refl, e)
both false b e = absurd (false≢true e)

unless : (a : Bool) → not a ≡ true → a ≡ false
unless true e = absurd (false≢true e)
unless false e = refl

-- a byte in front of the first part is a byte in front of all
glue_joined : (between : List ℕ) (b : ℕ) (ps : List (List ℕ)) → joined between (glue b ps) ≡ b ∷ joined between ps
glue_joined between b [] = refl
glue_joined between b (p ∷ []) = refl
glue_joined between b (p ∷ q ∷ ps) = refl

-- ---- fields
-- there is a first field
some_fields : (between l : List ℕ) → joined between ([] ∷ fields l) ≡ between ++ joined between (fields l)
unfolding fields
some_fields between [] = refl
some_fields between (b ∷ l) = by_test (eqb b comma) (fields l)
  where
    by_test : (t : Bool) (ps : List (List ℕ))
        → joined between ([] ∷ cond t ([] ∷ ps) (glue b ps)) ≡ between ++ joined between (cond t ([] ∷ ps) (glue b ps))
    by_test true ps = refl
    by_test false [] = refl
    by_test false (p ∷ ps) = refl

a_field : (t : Bool) (b : ℕ) (l : List ℕ) → eqb b comma ≡ t → joined (comma ∷ []) (fields l) ≡ l
    → joined (comma ∷ []) (cond t ([] ∷ fields l) (glue b (fields l))) ≡ b ∷ l
a_field true b l e ih = some_fields (comma ∷ []) l ∙ rw (ih, eqb-true b comma e)
a_field false b l e ih = glue_joined (comma ∷ []) b (fields l) ∙ ap (λ (m : List ℕ). b ∷ m) ih

pub fields_joined : FieldsJoined
unfolding fields
fields_joined [] = refl
fields_joined (b ∷ l) = a_field (eqb b comma) b l refl (fields_joined l)

plain_by : (t : Bool) (b : ℕ) (ps : List (List ℕ)) → eqb b comma ≡ t → every plain ps ≡ true → every plain (cond t ([] ∷ ps) (glue b ps)) ≡ true
plain_by true b ps e ih = ih
plain_by false b [] e ih = rw e
plain_by false b (p ∷ ps) e ih = rw e ih

pub fields_plain : FieldsPlain
unfolding fields
fields_plain [] = refl
fields_plain (b ∷ l) = plain_by (eqb b comma) b (fields l) refl (fields_plain l)

before_comma : (l more : List ℕ) → plain l ≡ true → fields (l ++ (comma ∷ more)) ≡ l ∷ fields more
unfolding fields
before_comma [] more e = refl
before_comma (b ∷ l) more e =
    let p = both (not (eqb b comma)) (plain l) e in
    rw (unless (eqb b comma) p.0, before_comma l more p.1)

one_field : (l : List ℕ) → plain l ≡ true → fields l ≡ l ∷ []
unfolding fields
one_field [] e = refl
one_field (b ∷ l) e =
    let p = both (not (eqb b comma)) (plain l) e in
    rw (unless (eqb b comma) p.0, one_field l p.1)

pub field_split : FieldSplit
field_split l more e = (before_comma l more e, one_field l e)

-- ---- lines
-- the lines of some bytes are some
some_lines : (between : List ℕ) (b : ℕ) (l : List ℕ) → joined between ([] ∷ lines (b ∷ l)) ≡ between ++ joined between (lines (b ∷ l))
unfolding lines
some_lines between b [] = refl
some_lines between b (c ∷ l) = by_test (breaks b c) (lines (c ∷ l))
  where
    by_test : (t : Bool) (ps : List (List ℕ))
        → joined between ([] ∷ cond t ([] ∷ lines l) (glue b ps)) ≡ between ++ joined between (cond t ([] ∷ lines l) (glue b ps))
    by_test true ps = refl
    by_test false [] = refl
    by_test false (p ∷ ps) = refl

-- the two bytes of a break, by name
is_break : (b c : ℕ) (l : List ℕ) → breaks b c ≡ true → cr ∷ lf ∷ l ≡ b ∷ c ∷ l
is_break b c l e =
    let p = both (eqb b cr) (eqb c lf) e in
    rw (eqb-true b cr p.0, eqb-true c lf p.1)

-- CR is no LF
no_break_at : (t : Bool) → (t && false) ≡ false
no_break_at true = refl
no_break_at false = refl

-- what stands at the end is the same behind a break
ends_behind : (b c d : ℕ) (l : List ℕ) → breaks b c ≡ true → ends_broken (b ∷ c ∷ d ∷ l) ≡ ends_broken (d ∷ l)
ends_behind b c d [] e = rw (eqb-true c lf (both (eqb b cr) (eqb c lf) e).1)
ends_behind b c d (x ∷ l) e = refl

-- and behind a byte that begins none
ends_after : (b c : ℕ) (l : List ℕ) → breaks b c ≡ false → ends_broken (b ∷ c ∷ l) ≡ ends_broken (c ∷ l)
ends_after b c [] e = e
ends_after b c (d ∷ l) e = refl

abbrev whole : List (List ℕ) → Bool → List ℕ
whole ls last = joined break ls ++ cond last break []

at_break : (b c : ℕ) (l : List ℕ) → breaks b c ≡ true → whole (lines l) (ends_broken l) ≡ l → whole ([] ∷ lines l) (ends_broken (b ∷ c ∷ l)) ≡ b ∷ c ∷ l
unfolding lines
at_break b c [] e ih = rw e (is_break b c [] e)
at_break b c (d ∷ l) e ih =
    ap (λ (m : List ℕ). m ++ cond (ends_broken (b ∷ c ∷ d ∷ l)) break []) (some_lines break d l)
    ∙ rw (ends_behind b c d l e) (ap (λ (m : List ℕ). cr ∷ lf ∷ m) ih ∙ is_break b c (d ∷ l) e)

a_line : (t : Bool) (b c : ℕ) (l : List ℕ) → breaks b c ≡ t → whole (lines l) (ends_broken l) ≡ l → whole (lines (c ∷ l)) (ends_broken (c ∷ l)) ≡ c ∷ l
    → whole (cond t ([] ∷ lines l) (glue b (lines (c ∷ l)))) (ends_broken (b ∷ c ∷ l)) ≡ b ∷ c ∷ l
a_line true b c l e ih jh = at_break b c l e ih
a_line false b c l e ih jh =
    ap (λ (m : List ℕ). m ++ cond (ends_broken (b ∷ c ∷ l)) break []) (glue_joined break b (lines (c ∷ l)))
    ∙ rw (ends_after b c l e) (ap (λ (m : List ℕ). b ∷ m) jh)

pub lines_joined : LinesJoined
unfolding lines
lines_joined [] = refl
lines_joined (b ∷ []) = refl
lines_joined (b ∷ c ∷ l) = a_line (breaks b c) b c l refl (lines_joined l) (lines_joined (c ∷ l))

-- a byte in front of another with which it is no break
glue_unbroken : (b c : ℕ) (l : List ℕ) → breaks b c ≡ false → every unbroken (lines (c ∷ l)) ≡ true → every unbroken (glue b (lines (c ∷ l))) ≡ true
unfolding lines
glue_unbroken b c [] e ih = rw e
glue_unbroken b c (d ∷ l) e ih = by_test (breaks c d) (lines (d ∷ l)) ih
  where
    by_test : (t : Bool) (ps : List (List ℕ)) → every unbroken (cond t ([] ∷ lines l) (glue c ps)) ≡ true
        → every unbroken (glue b (cond t ([] ∷ lines l) (glue c ps))) ≡ true
    by_test true ps h = h
    by_test false [] h = rw e
    by_test false (p ∷ ps) h = rw e h

unbroken_by : (t : Bool) (b c : ℕ) (l : List ℕ) → breaks b c ≡ t → every unbroken (lines l) ≡ true → every unbroken (lines (c ∷ l)) ≡ true
    → every unbroken (cond t ([] ∷ lines l) (glue b (lines (c ∷ l)))) ≡ true
unbroken_by true b c l e ih jh = ih
unbroken_by false b c l e ih jh = glue_unbroken b c l e jh

pub lines_unbroken : LinesUnbroken
unfolding lines
lines_unbroken [] = refl
lines_unbroken (b ∷ []) = refl
lines_unbroken (b ∷ c ∷ l) = unbroken_by (breaks b c) b c l refl (lines_unbroken l) (lines_unbroken (c ∷ l))

before_break : (l more : List ℕ) → unbroken l ≡ true → lines (l ++ (cr ∷ lf ∷ more)) ≡ l ∷ lines more
unfolding lines
before_break [] more e = refl
before_break (b ∷ []) more e = rw (no_break_at (eqb b cr))
before_break (b ∷ c ∷ l) more e =
    let p = both (not (breaks b c)) (unbroken (c ∷ l)) e in
    rw (unless (breaks b c) p.0) (ap (glue b) (before_break (c ∷ l) more p.1))

last_line : (b : ℕ) (l : List ℕ) → unbroken (b ∷ l) ≡ true → lines (b ∷ l) ≡ (b ∷ l) ∷ []
unfolding lines
last_line b [] e = refl
last_line b (c ∷ l) e =
    let p = both (not (breaks b c)) (unbroken (c ∷ l)) e in
    rw (unless (breaks b c) p.0) (ap (glue b) (last_line c l p.1))

pub line_split : LineSplit
line_split [] more e = (before_break [] more e, λ some. absurd (some refl))
line_split (b ∷ l) more e = (before_break (b ∷ l) more e, λ some. last_line b l e)
