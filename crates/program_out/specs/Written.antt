-- What became of text that was to be written, and the status that a program ends with.
use Rattle.std.specs.Prelude.{ℕ, ⊤}
use Rattle.std.specs.IoError.{error_kind}
use Rattle.std.specs.declared.io.Error.{Error}
use Rattle.std.specs.declared.io.ErrorKind.{ErrorKind}
use Rattle.std.specs.declared.io.ErrorKind.TheVariants.{BrokenPipe}
use Rattle.std.specs.declared.result.Result.{Result}
use Rattle.std.specs.declared.result.Result.TheVariants.{Ok, Err}
use Rattle.program_out.specs.declared.Lost.{Lost}
use Rattle.program_out.specs.declared.Lost.TheVariants.{Cut, Unread}

-- by the kind of the error: whoever read it has gone, or there is no room for it
abbrev pub lost_by : ErrorKind → Lost
lost_by BrokenPipe = Unread
lost_by why = Cut

-- by what the write answered
abbrev pub written_by : Result ⊤ Error → Result ⊤ Lost
written_by (Ok done) = Ok done
written_by (Err why) = Err (lost_by (error_kind why))

-- 141 is what a shell gives a program that is ended since nobody reads its output any more
abbrev pub status_of : Result ⊤ Lost → ℕ
status_of (Err Unread) = 141
status_of other = 0
