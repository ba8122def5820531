-- A run line that stands whole in a chunk, with its break.
use Rattle.std.specs.Prelude.{◌≡◌, ℕ, ◌+◌, ◌-◌, ◌<◌, ◌≤◌, true, List, ◌∷◌, ◌++◌, length, drop, Some}
use Rattle.std.proofs.Math.Seq.{slice}
use Rattle.scenario_lines.specs.Lines.{cr, lf}
use Rattle.scenario_lines.specs.Bytes.{longest}
use Rattle.scenario_lines.specs.Chunks.{no_return}
use Rattle.scenario_lines.specs.Number.{digits, number}
use Rattle.scenario_lines.specs.Judge.{judge}
use Rattle.scenario_lines.specs.declared.Line.TheVariants.{Run}

-- four bytes from a place on
abbrev pub Four : List ℕ → ℕ → ℕ → ℕ → ℕ → ℕ → Type 0
Four s at a b c d = (at + 4 ≤ length s) × (drop at s ≡ a ∷ b ∷ c ∷ d ∷ drop (at + 4) s)

-- the bytes from a place up to another are a number
pub record NumberAt (s : List ℕ) (from at value : ℕ) : Type 0 where
  pub onward : from < at
  pub inside : at ≤ length s
  pub plain : digits (slice from at s) ≡ true
  pub says : number (slice from at s) ≡ Some value

-- the bytes from a place up to another are a run line and its break
pub record RunAt (s : List ℕ) (from thread times at : ℕ) : Type 0 where
  pub onward : from + 2 ≤ at
  pub inside : at ≤ length s
  pub short : at - 2 - from ≤ longest
  pub whole : drop from s ≡ slice from (at - 2) s ++ (cr ∷ lf ∷ drop at s)
  pub unbroken : no_return (slice from (at - 2) s) ≡ true
  pub says : judge (slice from (at - 2) s) ≡ Run thread times
