-- A list that is read a chunk at a time: the line so far in its room, and where in the chunk it stands.
use Rattle.std.specs.Prelude.{ℕ, suc, ◌+◌, min, Bool, true, false, ◌&&◌, cond, List, [], ◌∷◌, eqb, ltb, leb, length, set, take, drop}
use Rattle.scenario_lines.specs.Lines.{lf}
use Rattle.replay.specs.declared.reading.Reading.{Reading}
use Rattle.replay.specs.declared.reading.TakenSome.{TakenSome}

abbrev pub reads : ℕ → ℕ → ℕ → Bool → Bool → Reading
reads len from held done over = record { len = len; from = from; held = held; done = done; over = over }

abbrev pub before_reading : Reading
before_reading = reads 0 0 0 false false

abbrev pub used_up : Reading → Bool
used_up r = leb r.len r.from

-- what is held of the next line: nothing where the last one is done
abbrev pub opened : Reading → ℕ
opened r = cond r.done 0 r.held

abbrev pub after_read : Reading → ℕ → Reading
after_read r n = reads n 0 (opened r) false (eqb n 0)

-- ---- bytes of a chunk until a break: the room, how many of the line's bytes there are, how many bytes were used, and whether there was a break
pub record Took : Type 0 where
  pub line : List ℕ
  pub held : ℕ
  pub used : ℕ
  pub done : Bool

abbrev pub taking : List ℕ → ℕ → ℕ → Bool → Took
taking l n used done = record { line = l; held = n; used = used; done = done }

-- one byte more before these
abbrev pub byte_before : Took → Took
byte_before t = taking t.line t.held (suc t.used) t.done

-- a line of n bytes with one more; all that are longer than the room count alike
abbrev pub grown : ℕ → ℕ → ℕ
grown room n = cond (ltb n room) (n + 1) (room + 1)

unfoldable pub took : List ℕ → List ℕ → ℕ → Took
took [] l n = taking l n 0 false
took (b ∷ bs) l n = cond (eqb b lf) (taking l n 1 true) (byte_before (took bs (set l n b) (grown (length l) n)))

-- as the code returns it, from a place of the chunk on
abbrev pub taken_from : ℕ → Took → TakenSome
taken_from from t = record { held = t.held; at = from + t.used; done = t.done }

-- what is taken of a chunk, of which the first len bytes count
unfoldable pub of_chunk : List ℕ → List ℕ → Reading → Took
of_chunk chunk l r = took (drop r.from (take (min r.len (length chunk)) chunk)) l (opened r)

abbrev pub line_taken : List ℕ → List ℕ → Reading → Reading
line_taken chunk l r = let t = of_chunk chunk l r in reads r.len (r.from + t.used) t.held t.done r.over

abbrev pub line_by : List ℕ → List ℕ → Reading → List ℕ
line_by chunk l r = (of_chunk chunk l r).line

-- ---- what the line is
abbrev pub is_whole : List ℕ → Reading → Bool
is_whole l r = r.done && leb r.held (length l)

abbrev pub is_cut : Reading → Bool
is_cut r = r.over && ltb 0 r.held
