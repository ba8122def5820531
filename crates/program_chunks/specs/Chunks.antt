-- An input that is read a chunk at a time: where it stands, before the first read and after one.
use Rattle.std.specs.Prelude.{ℕ, Bool, false, ◌||◌, ◌&&◌, not, eqb, ltb}
use Rattle.program_chunks.specs.declared.Input.{Input}

abbrev pub unread : Input
unread = record { len = 0; from = 0; last = false; failed = false }

-- no chunk has to be read: some of the last one is left, or none comes after it
abbrev pub stays : Input → Bool
stays i = i.last || (i.failed || ltb i.from i.len)

-- a read of no bytes that did not fail is the end
abbrev pub ended_by : ℕ → Bool → Bool
ended_by n failed = not failed && eqb n 0

-- after a read of n bytes, or one that failed
abbrev pub read_of : ℕ → Bool → Input
read_of n failed = record { len = n; from = 0; last = ended_by n failed; failed = failed }

-- some of it is taken
abbrev pub taken_to : Input → ℕ → Input
taken_to i from = record { len = i.len; from = from; last = i.last; failed = i.failed }
