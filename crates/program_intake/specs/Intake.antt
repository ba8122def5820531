-- A turn of a program that reads a scenario: the chunk in hand, and what the reader makes of it.
use Rattle.std.specs.Prelude.{ℕ, ◌-◌, ◌^◌, min, ◌≡◌, Bool, true, false, ◌||◌, List, ℤ, pos, negsuc, length, take}
use Rattle.io.specs.Counts.{clamp_len}
use Rattle.cell.specs.declared.pred.Pred.TheVariants.{Any}
use Rattle.program_chunks.specs.Chunks.{unread, stays, read_of, taken_to}
use Rattle.program_chunks.specs.declared.Input.{Input}
use Rattle.scenario_pieces.specs.Piece.{first_of}
use Rattle.scenario_read.specs.Feed.{World, fresh, feed, stop_of, is_full}
use Rattle.scenario_read.specs.Code.{world_of}
use Rattle.scenario_read.specs.declared.Fed.{Fed}
use Rattle.program_intake.specs.declared.Intake.{Intake}
use Rattle.program_intake.specs.declared.Came.{Came}

abbrev pub nothing_taken : Intake
nothing_taken = record { state = fresh; standing = first_of Any 1 0; input = unread; full = false }

-- the chunk in hand stays: the list for rows was full, bytes of it are left, it is the last one, or its reading failed
abbrev pub keeps : Intake → Bool
keeps i = i.full || stays i.input

-- what a read answered: below 0 it failed
abbrev pub failed : ℤ → Bool
failed (pos k) = false
failed (negsuc k) = true

-- in the place of another chunk comes what is read, from its start on: as much as the answer says and the list has room for, and the end where that
-- is nothing and nothing failed
pub record InHand (i : Intake) (chunk : List ℕ) (j : Input) (chunk' : List ℕ) : Type 0 where
  pub stays_so : keeps i ≡ true → (j ≡ i.input) × (chunk' ≡ chunk)
  pub read_so : keeps i ≡ false → (answer : ℤ) × (j ≡ read_of (clamp_len answer (length chunk')) (failed answer))

-- what the reader leaves of the chunk in hand, taken on from where it was left
abbrev pub turned : Intake → Input → List ℕ → List ℕ → List ℕ → List ℕ → List ℕ → List ℕ → List ℕ → World
turned i j line lens ops vals schedule chunk rows =
    feed (take (min j.len (length chunk)) chunk) j.last (2 ^ 64 - 1)
    (world_of i.state i.standing line lens ops vals schedule j.from rows 0)

-- as it is handed on: the state, the standing, the chunk with what was taken of it, the words of the rows that came, and why there are no more
abbrev pub came_of : Input → Fed → ℕ → Came
came_of i f room =
    record {
      intake = record { state = f.state; standing = f.standing; input = taken_to i f.from; full = is_full (stop_of f.state room f.at) };
      at = f.at;
      stop = stop_of f.state room f.at;
    }
