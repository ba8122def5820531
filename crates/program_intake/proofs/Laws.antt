-- A turn is a call of the reader. Assumes nothing.
use Prim.Native.Nat.{min}
use lib.ListN.{length, take}
use Rattle.scenario_read.specs.Feed.{feed}
use Rattle.scenario_read.specs.Code.{world_of}
use Rattle.scenario_promises.specs.Whole.{all_turns}
use Rattle.program_intake.specs.Laws.{TurnIsCall}

pub turn_is_call : TurnIsCall
turn_is_call v i j chunk rows state standing =
    λ k. feed (take (min j.len (length chunk)) chunk) j.last all_turns
    (world_of (state k) (standing k) v.line v.lens v.ops v.vals v.schedule j.from rows 0)
