-- The numbers of a line, as `scenario_lines` has fields and numbers, and the list of words that they go to.
use Rattle.std.specs.Prelude.{ℕ, suc, Bool, false, cond, List, [], ◌∷◌, eqb, ltb, length, set, Option, Some, None}
use Rattle.scenario_lines.specs.Judge.{fields, comma}
use Rattle.scenario_lines.specs.Number.{number}
use Rattle.replay.specs.Lists.{part_of, place_from}
use Rattle.std.specs.declared.option.Option.{Option}
use Rattle.std.specs.declared.option.Option.TheVariants.{None, Some}

-- what is told of a line's numbers, and the words afterwards
pub record Filled : Type 0 where
  pub told : Option ℕ
  pub words : List ℕ

abbrev pub filled : Option ℕ → List ℕ → Filled
filled told w = record { told = told; words = w }

-- one number at a place, if it is a number and the place is one of the list's
abbrev pub is_put : Option ℕ → ℕ → List ℕ → Bool
is_put None n w = false
is_put (Some v) n w = ltb n (length w)

abbrev pub put_in : Option ℕ → ℕ → List ℕ → List ℕ
put_in None n w = w
put_in (Some v) n w = set w n v

-- fields from a place on, up to the first that cannot be put
unfoldable pub fill : List (List ℕ) → List ℕ → ℕ → Filled
fill [] w n = filled (Some n) w
fill (f ∷ fs) w n = cond (is_put (number f) n w) (fill fs (put_in (number f) n w) (suc n)) (filled None (put_in (number f) n w))

abbrev pub numbers_of : List ℕ → List ℕ → Filled
numbers_of text w = fill (fields text) w 0

-- what the first number of a line says that is wrong on purpose
abbrev pub wrong_mark : ℕ
wrong_mark = 999

abbrev pub is_number : ℕ → Option ℕ → Bool
is_number n None = false
is_number n (Some v) = eqb v n

unfoldable pub on_purpose : List ℕ → Bool
on_purpose l = is_number wrong_mark (number (part_of 0 (place_from comma 0 l) l))
