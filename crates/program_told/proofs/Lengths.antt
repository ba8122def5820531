-- A turn of the loop over bytes is one unfolding of `through`. Assumes nothing.
use Rattle.std.proofs.Common.{◌≡◌, ℕ, ◌+◌, ◌<◌, ◌≤◌, List, length, get_or, drop, add-one, drop_of_length-le, drop-cons}
use Rattle.scenario_lines.specs.Held.{held_after}
use Rattle.scenario_lines.specs.declared.bytes.Held.{Held}
use Rattle.program_told.specs.Told.{anew, through}

module _ (s : List ℕ) (i : ℕ) (h : Held) where
  pub through_on : i < length s → through h (drop i s) ≡ through (held_after (anew h) (get_or s i 0)) (drop (i + 1) s)
  unfolding through
  through_on k = rw (add-one, drop-cons s i 0)

  pub through_over : length s ≤ i → through h (drop i s) ≡ h
  unfolding through
  through_over k = rw (drop_of_length-le s k)
