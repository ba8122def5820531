-- The lists that the reader is lent, as one value.
use Rattle.std.specs.Prelude.{ℕ, List, replicate}
use Rattle.program_chunks.specs.declared.Input.{Input}
use Rattle.scenario_read.specs.Feed.{World}
use Rattle.program_intake.specs.Intake.{turned}
use Rattle.program_intake.specs.declared.Intake.{Intake}
use Rattle.program_intake.specs.declared.Room.{Room}

-- before the first turn
abbrev pub no_room_taken : Room
no_room_taken = record { line = replicate 80 0; lens = replicate 16 0; ops = replicate 1024 0; vals = replicate 1024 0; schedule = replicate 64 0 }

-- what the reader leaves of a turn over them
abbrev pub turned_in : Intake → Input → Room → List ℕ → List ℕ → World
turned_in i j room chunk rows = turned i j room.line room.lens room.ops room.vals room.schedule chunk rows

-- the lists as it leaves them
abbrev pub room_of : World → Room
room_of w = record { line = w.line; lens = w.lens; ops = w.ops; vals = w.vals; schedule = w.schedule }
