-- What is claimed: a turn of a program is a call of the reader, so that what is claimed of calls is so of turns.
use Rattle.std.specs.Prelude.{ℕ, min, ◌≡◌, List, length, take}
use Rattle.program_chunks.specs.declared.Input.{Input}
use Rattle.scenario_read.specs.Feed.{World, feed}
use Rattle.scenario_promises.specs.Session.{handed}
use Rattle.scenario_promises.specs.Whole.{all_turns}
use Rattle.program_intake.specs.Intake.{turned}
use Rattle.program_intake.specs.declared.Intake.{Intake}

-- of the chunk in hand, from where it was left, with what the call before left and a list for rows from its start on
abbrev pub TurnIsCall : Type 0
TurnIsCall =
    (v : World) (i : Intake) (j : Input) (chunk rows : List ℕ) → i.state ≡ v.state → i.standing ≡ v.standing
    → turned i j v.line v.lens v.ops v.vals v.schedule chunk rows
    ≡ feed (take (min j.len (length chunk)) chunk) j.last all_turns (handed v j.from rows 0)
