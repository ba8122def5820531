-- What is claimed of the replays' library: two lists compare equal exactly if they are the same list, a list passes as a front with a rest
-- exactly if it is these two, every field of a line that is read is a number in its place, what is gathered of a line is its bytes, and the bytes
-- may come in any chunks.
use Rattle.std.specs.Prelude.{ℕ, ◌+◌, ◌-◌, ◌≤◌, Bool, true, false, ◌&&◌, not, ◌≡◌, List, [], ◌∷◌, ◌++◌, map, eqb, length, drop, replicate}
use Rattle.scenario_lines.specs.Judge.{equal, fields}
use Rattle.scenario_lines.specs.Lines.{lf}
use Rattle.scenario_lines.specs.Number.{number}
use Rattle.replay.specs.Lists.{front_then}
use Rattle.replay.specs.Numbers.{filled, numbers_of}
use Rattle.replay.specs.Reading.{Took, took, taking}
use Rattle.std.specs.declared.option.Option.TheVariants.{Some}

abbrev pub SameList : Type 0
SameList = (s t : List ℕ) → (equal s t ≡ true → s ≡ t) × (s ≡ t → equal s t ≡ true)

-- a front, and the other number from there on
abbrev pub FrontAndRest : Type 0
FrontAndRest =
    (other : ℕ) (l front : List ℕ)
    → (front_then other l front ≡ true → l ≡ front ++ replicate (length l - length front) other)
    × ((n : ℕ) → front_then other (front ++ replicate n other) front ≡ true)

-- where the fields of a line are these numbers and the words have room, the words start with them and are behind as they were
abbrev pub NumbersInPlace : Type 0
NumbersInPlace =
    (text w vs : List ℕ) → map number (fields text) ≡ map Some vs → length vs ≤ length w → numbers_of text w ≡ filled (Some (length vs)) (vs ++ drop (length vs) w)

-- no break among the bytes
abbrev pub without_break : List ℕ → Bool
without_break [] = true
without_break (b ∷ l) = not (eqb b lf) && without_break l

-- bytes up to a break are the line, where the room has all of them; behind them the room is as it was
abbrev pub LineGathered : Type 0
LineGathered =
    (l more room : List ℕ) → without_break l ≡ true → length l ≤ length room
    → took (l ++ (lf ∷ more)) room 0 ≡ taking (l ++ drop (length l) room) (length l) (length l + 1) true

-- what is taken behind so many bytes
abbrev pub behind : ℕ → Took → Took
behind n t = taking t.line t.held (n + t.used) t.done

-- bytes without a break and then others are taken as the two one after the other
abbrev pub CutAnywhere : Type 0
CutAnywhere =
    (a b room : List ℕ) (n : ℕ) → (took a room n).done ≡ false
    → took (a ++ b) room n ≡ behind (length a) (took b (took a room n).line (took a room n).held)
