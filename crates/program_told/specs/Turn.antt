-- What a program tells of the line that a turn refused.
use Rattle.std.specs.Prelude.{ℕ, min, cond, List, length, take, drop, ◌==◌}
use Rattle.program_chunks.specs.declared.Input.{Input}
use Rattle.program_intake.specs.declared.Came.{Came}
use Rattle.program_intake.specs.declared.Intake.{Intake}
use Rattle.scenario_prints.specs.Prints.{stop_text}
use Rattle.scenario_read.specs.declared.Stop.{Stop}
use Rattle.scenario_stages.specs.declared.Read.{Read}
use Rattle.scenario_text.specs.Put.{place_after, stored}
use Rattle.program_told.specs.Told.{refused_length, read_text}

-- how long it is: its bytes are those of the chunk that the turn took, from where the last turn left the chunk on
abbrev pub length_in_turn : Intake → Input → Came → List ℕ → ℕ
length_in_turn before input came chunk =
    let left = came.intake in
    refused_length before.state.read before.state.held left.state.read left.state.closed (drop input.from (take (min left.input.from (length chunk)) chunk))

-- the refusal stands first, and what is known of the line behind it; nothing where nothing was refused
abbrev pub told_end : Stop → Read → ℕ → List ℕ → List ℕ → ℕ
told_end stop read len line out =
    let n = place_after 51 out 0 (stop_text stop) in
    cond (n == 0) 0 (place_after 1812 (stored 51 out 0 (stop_text stop)) n (read_text read len line))

abbrev pub told_after : Stop → Read → ℕ → List ℕ → List ℕ → List ℕ
told_after stop read len line out =
    let n = place_after 51 out 0 (stop_text stop) in
    let refusal = stored 51 out 0 (stop_text stop) in
    cond (n == 0) refusal (stored 1812 refusal n (read_text read len line))
