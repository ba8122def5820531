-- A file may be read a byte at a time, and cut anywhere: the reading is the same, so its rows are and what it prints.
use Rattle.std.specs.Prelude.{ℕ, ◌≡◌, false, List, [], ◌++◌}
use Rattle.scenario_lines.specs.Bytes.{Reader, reader, feed, finish}
use Rattle.scenario.specs.Printed.{Reading, start, next, ended, reading_of}

-- the reader before the first byte
abbrev pub unread : Reader Reading
unread = reader [] false start

-- the reading from a reader on, for the bytes that are still to come
abbrev pub reading_from : Reader Reading → List ℕ → Reading
reading_from r bytes = ended (finish next (feed next r bytes))

abbrev pub ReadByBytes : Type 0
ReadByBytes = (file : List ℕ) → reading_of file ≡ reading_from unread file

abbrev pub CutAnywhere : Type 0
CutAnywhere = (a b : List ℕ) → reading_of (a ++ b) ≡ reading_from (feed next unread a) b
