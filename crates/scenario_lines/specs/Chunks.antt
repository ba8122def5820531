-- A file that arrives in chunks: its lines are a result of their own, whatever is done with them. However the bytes are cut, chunks of no bytes
-- among them, the lines are those of the whole; a CR at the end of a chunk and the LF at the start of the next are one break; and what is carried
-- from chunk to chunk is a line of at most 80 bytes.
use Rattle.std.specs.Prelude.{ℕ, zero, suc, ◌≤◌, ◌≡◌, Bool, true, false, ◌&&◌, not, cond, eqb, ltb, length, take, drop}
use mathlib.Core.List.{List, [], ◌∷◌, ◌++◌, map, flatten}
use Rattle.scenario_lines.specs.Lines.{cr, lf, lines}
use Rattle.scenario_lines.specs.Bytes.{longest, too_long, Reader, reader, feed, last, finish}
use Rattle.scenario_lines.specs.Held.{unheld, took, view, held_end, line_end}
use Rattle.scenario_lines.specs.declared.bytes.Held.{Held}

-- ---- the lines of chunks, as they are defined
-- a line as it is carried: its bytes, or, past 80 of them, the one that stands for every longer line
abbrev pub carried : List ℕ → List ℕ
carried l = cond (ltb longest (length l)) too_long l

-- the lines so far, and one more
abbrev pub one_line_more : List (List ℕ) → List ℕ → List (List ℕ)
one_line_more ls l = ls ++ (carried l ∷ [])

-- chunk after chunk
module _ {S : Type 0} (next : S → List ℕ → S) where
  unfoldable pub feed_all : Reader S → List (List ℕ) → Reader S
  feed_all r [] = r
  feed_all r (chunk ∷ chunks) = feed_all (feed next r chunk) chunks

-- then the end
unfoldable pub lines_of : List (List ℕ) → List (List ℕ)
lines_of chunks = finish one_line_more (feed_all one_line_more (reader [] false []) chunks)

-- ---- the lines of chunks, as the code takes them: the lines so far, the 80 places, and what is held of them
pub record Carrying : Type 0 where
  pub lines : List (List ℕ)
  pub line : List ℕ
  pub held : Held

abbrev pub carrying : List (List ℕ) → List ℕ → Held → Carrying
carrying ls l h = record { lines = ls; line = l; held = h }

-- calls for a chunk, until one completes no line; n calls at most
unfoldable pub take_chunk : ℕ → List ℕ → Carrying → Carrying
take_chunk zero bs c = c
take_chunk (suc n) bs c =
    let t = took bs c.line c.held in
    cond t.held.done (take_chunk n (drop t.used bs) (carrying (c.lines ++ (view t.line t.held.len ∷ [])) t.line unheld))
    (carrying c.lines t.line t.held)

-- a call more than there are bytes is enough
unfoldable pub take_chunks : Carrying → List (List ℕ) → Carrying
take_chunks c [] = c
take_chunks c (chunk ∷ chunks) = take_chunks (take_chunk (suc (length chunk)) chunk c) chunks

-- the end: a last line, if there is one
abbrev pub take_end : Carrying → List (List ℕ)
take_end c = cond (held_end c.held).done (c.lines ++ (view (line_end c.line c.held) (held_end c.held).len ∷ [])) c.lines

abbrev pub taken : List ℕ → List (List ℕ) → List (List ℕ)
taken places chunks = take_end (take_chunks (carrying [] places unheld) chunks)

-- ---- what is claimed
-- the lines of chunks are those of the file that they are cut from
abbrev pub LinesAtOnce : Type 0
LinesAtOnce = (chunks : List (List ℕ)) → lines_of chunks ≡ map carried (lines (flatten chunks))

-- so any two cuttings of the same bytes have the same lines
abbrev pub SameLines : Type 0
SameLines = (a b : List (List ℕ)) → flatten a ≡ flatten b → lines_of a ≡ lines_of b

-- a chunk of no bytes is none
abbrev pub NoBytes : Type 0
NoBytes = (before after : List (List ℕ)) → lines_of (before ++ ([] ∷ after)) ≡ lines_of (before ++ after)

-- a CR at the end of a chunk and the LF at the start of the next end the line that is held, once, and nothing is held after them
abbrev pub OneBreak : Type 1
OneBreak =
    (S : Type 0) (next : S → List ℕ → S) (r : Reader S)
    → feed_all next r ((cr ∷ []) ∷ (lf ∷ []) ∷ []) ≡ reader [] false (next r.state (last next r.held r.line))

-- no byte is a CR
abbrev pub no_return : List ℕ → Bool
no_return [] = true
no_return (b ∷ l) = not (eqb b cr) && no_return l

-- so a line that is cut there is one line, and what comes after it begins another
abbrev pub CutAtReturn : Type 0
CutAtReturn =
    (l : List ℕ) (rest : List (List ℕ)) (b : List ℕ) → no_return l ≡ true
    → lines_of ((l ++ (cr ∷ [])) ∷ (lf ∷ b) ∷ rest) ≡ carried l ∷ lines_of (b ∷ rest)

-- the code takes these lines
abbrev pub TakenSo : Type 0
TakenSo = (places : List ℕ) (chunks : List (List ℕ)) → length places ≡ longest → taken places chunks ≡ lines_of chunks

-- what it carries from chunk to chunk: 80 places, of which at most 80 are taken; 81 stands for a line that is too long, of which nothing is needed
abbrev pub AtMost80 : Type 0
AtMost80 =
    (places : List ℕ) (chunks : List (List ℕ)) → length places ≡ longest
    → let c = take_chunks (carrying [] places unheld) chunks in
    (length c.line ≡ longest) × (length (take c.held.len c.line) ≤ longest) × (c.held.len ≤ suc longest)
