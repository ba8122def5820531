-- What is printed at the end of a turn: by the stop that the reader came to, of the scripts in the first places of the lists, and of where the lock
-- stands. `WhyByReader` of `why_prints` says that this is what the file prints.
use Rattle.std.specs.Prelude.{ℕ, List, take}
use Rattle.machine.specs.Lists.{lists}
use Rattle.scenario_promises.specs.Piped.{standing_of}
use Rattle.program_intake.specs.declared.Came.{Came}
use Rattle.why_prints.specs.Prints.{end_text}

unfoldable pub answered : Came → List ℕ → List ℕ → List ℕ → List ℕ
answered came lens ops vals =
    let s = came.intake.state in
    end_text came.stop (lists (take s.read.threads lens) (take s.read.count ops) (take s.read.count vals)) (standing_of s came.intake.standing)
