-- What one line says: its form, its three numbers, its kind.
use Rattle.std.specs.Prelude.{ℕ, suc, Bool, true, false, ◌||◌, ◌&&◌, not, cond, List, [], ◌∷◌, eqb, ltb, length, Option, Some, None}
use Rattle.scenario_lines.specs.Ascii.{bytes}
use Rattle.scenario_lines.specs.Lines.{cr, lf, glue}
use Rattle.scenario_lines.specs.Bytes.{longest}
use Rattle.scenario_lines.specs.Number.{number}
use Rattle.scenario_lines.specs.declared.Line.{Line}
use Rattle.scenario_lines.specs.declared.Line.TheVariants.{Broken, Header, BadNumber, Lock, Pred, Op, Run, NoKind}

abbrev pub header : List ℕ
header = bytes "kind,a,b,c"

unfoldable pub equal : List ℕ → List ℕ → Bool
equal [] [] = true
equal [] (y ∷ m) = false
equal (x ∷ l) [] = false
equal (x ∷ l) (y ∷ m) = eqb x y && equal l m

abbrev pub quote : ℕ
quote = 34

abbrev pub comma : ℕ
comma = 44

-- a quote, a CR or an LF
abbrev pub foul : ℕ → Bool
foul b = eqb b quote || (eqb b cr || eqb b lf)

unfoldable pub clean : List ℕ → Bool
clean [] = true
clean (b ∷ l) = not (foul b) && clean l

-- the parts between commas
unfoldable pub fields : List ℕ → List (List ℕ)
fields [] = [] ∷ []
fields (b ∷ l) = cond (eqb b comma) ([] ∷ fields l) (glue b (fields l))

-- thread below 256, times 1 to 65535, 0
abbrev pub runs : ℕ → ℕ → ℕ → Line
runs a b c = cond (ltb a 256 && (ltb 0 b && (ltb b 65536 && eqb c 0))) (Run a b) BadNumber

unfoldable pub kinds : List ℕ → ℕ → ℕ → ℕ → Line
kinds k a b c =
    cond (equal k (bytes "lock")) (Lock a b c)
    (cond (equal k (bytes "pred")) (Pred a b c)
    (cond (equal k (bytes "op")) (Op a b c)
    (cond (equal k (bytes "run")) (runs a b c)
    NoKind)))

abbrev pub numbered : List ℕ → Option ℕ → Option ℕ → Option ℕ → Line
numbered k None y z = BadNumber
numbered k (Some a) None z = BadNumber
numbered k (Some a) (Some b) None = BadNumber
numbered k (Some a) (Some b) (Some c) = kinds k a b c

-- exactly four fields: a kind and three numbers
abbrev pub fourth : List ℕ → Option ℕ → Option ℕ → List (List ℕ) → Line
fourth k a b [] = Broken
fourth k a b (c ∷ []) = numbered k a b (number c)
fourth k a b (c ∷ d ∷ l) = Broken

abbrev pub third : List ℕ → Option ℕ → List (List ℕ) → Line
third k a [] = Broken
third k a (b ∷ l) = fourth k a (number b) l

abbrev pub second : List ℕ → List (List ℕ) → Line
second k [] = Broken
second k (a ∷ l) = third k (number a) l

abbrev pub first : List (List ℕ) → Line
first [] = Broken
first (k ∷ l) = second k l

unfoldable pub judge : List ℕ → Line
judge l = cond (equal l header) Header (cond (ltb longest (length l)) Broken (cond (clean l) (first (fields l)) Broken))

-- where the first comma stands, or the end
unfoldable pub comma_at : List ℕ → ℕ
comma_at [] = 0
comma_at (b ∷ l) = cond (eqb b comma) 0 (suc (comma_at l))
