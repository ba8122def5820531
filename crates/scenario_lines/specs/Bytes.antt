-- A file read a byte at a time: the line so far, whether a CR is held back, and a state that is changed by each line.
use Rattle.std.specs.Prelude.{ℕ, Bool, true, false, cond, List, [], ◌∷◌, ◌++◌, eqb, ltb, length, replicate}
use Rattle.scenario_lines.specs.Lines.{cr, lf}

-- the most bytes of a line, before its break
abbrev pub longest : ℕ
longest = 80

-- stands for every line that is longer
abbrev pub too_long : List ℕ
too_long = replicate 81 0

-- a byte more; no more than the longest line is kept
unfoldable pub add : List ℕ → ℕ → List ℕ
add l b = cond (ltb (length l) longest) (l ++ (b ∷ [])) too_long

pub record Reader (S : Type 0) : Type 0 where
  pub line : List ℕ
  pub held : Bool
  pub state : S

module _ {S : Type 0} where
  abbrev pub reader : List ℕ → Bool → S → Reader S
  reader l held s = record { line = l; held = held; state = s }

  module _ (next : S → List ℕ → S) where
    abbrev pub pushed : Bool → List ℕ → S → ℕ → Reader S
    pushed false l s b = cond (eqb b cr) (reader l true s) (reader (add l b) false s)
    pushed true l s b =
        cond (eqb b lf) (reader [] false (next s l))
        (cond (eqb b cr) (reader (add l cr) true s) (reader (add (add l cr) b) false s))

    abbrev pub push : Reader S → ℕ → Reader S
    push r b = pushed r.held r.line r.state b

    unfoldable pub feed : Reader S → List ℕ → Reader S
    feed r [] = r
    feed r (b ∷ bs) = feed (push r b) bs

    -- the end of the input: a CR that is held back is in its line, and an empty line is none
    abbrev pub last : Bool → List ℕ → List ℕ
    last true l = add l cr
    last false l = l

    abbrev pub ended : S → List ℕ → S
    ended s [] = s
    ended s (b ∷ l) = next s (b ∷ l)

    abbrev pub finish : Reader S → S
    finish r = ended r.state (last r.held r.line)
