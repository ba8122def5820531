-- What is claimed of splitting: the lines of a file, put together with their breaks, are the file, and none holds a break; the fields of a line, put
-- together with commas, are the line, and none holds a comma. And what is put together of such parts is split into them again.
use Rattle.std.specs.Prelude.{ℕ, ◌≡◌, ◌≢◌, Bool, true, false, ◌&&◌, not, cond, List, [], ◌∷◌, ◌++◌, eqb}
use Rattle.scenario_lines.specs.Lines.{cr, lf, breaks, lines}
use Rattle.scenario_lines.specs.Judge.{comma, fields}

-- parts, with these bytes between each and the next
abbrev pub joined : List ℕ → List (List ℕ) → List ℕ
joined between [] = []
joined between (p ∷ []) = p
joined between (p ∷ q ∷ more) = p ++ (between ++ joined between (q ∷ more))

abbrev pub every : (List ℕ → Bool) → List (List ℕ) → Bool
every test [] = true
every test (p ∷ more) = test p && every test more

-- ---- lines
abbrev pub break : List ℕ
break = cr ∷ lf ∷ []

-- no CR LF anywhere
abbrev pub unbroken : List ℕ → Bool
unbroken [] = true
unbroken (b ∷ []) = true
unbroken (b ∷ c ∷ l) = not (breaks b c) && unbroken (c ∷ l)

-- the last two bytes are CR LF
abbrev pub ends_broken : List ℕ → Bool
ends_broken [] = false
ends_broken (b ∷ []) = false
ends_broken (b ∷ c ∷ []) = breaks b c
ends_broken (b ∷ c ∷ d ∷ l) = ends_broken (c ∷ d ∷ l)

-- the lines and the breaks between them are the file, but for the last break, where there is one
abbrev pub LinesJoined : Type 0
LinesJoined = (file : List ℕ) → joined break (lines file) ++ cond (ends_broken file) break [] ≡ file

abbrev pub LinesUnbroken : Type 0
LinesUnbroken = (file : List ℕ) → every unbroken (lines file) ≡ true

-- bytes without a break, then a break, are a line, whatever follows; and without the break, where there are some
abbrev pub LineSplit : Type 0
LineSplit =
    (l more : List ℕ) → unbroken l ≡ true → (lines (l ++ (cr ∷ lf ∷ more)) ≡ l ∷ lines more) × (l ≢ [] → lines l ≡ l ∷ [])

-- ---- fields
abbrev pub plain : List ℕ → Bool
plain [] = true
plain (b ∷ l) = not (eqb b comma) && plain l

abbrev pub FieldsJoined : Type 0
FieldsJoined = (l : List ℕ) → joined (comma ∷ []) (fields l) ≡ l

abbrev pub FieldsPlain : Type 0
FieldsPlain = (l : List ℕ) → every plain (fields l) ≡ true

-- bytes without a comma are a field, before a comma or at the end
abbrev pub FieldSplit : Type 0
FieldSplit = (l more : List ℕ) → plain l ≡ true → (fields (l ++ (comma ∷ more)) ≡ l ∷ fields more) × (fields l ≡ l ∷ [])
