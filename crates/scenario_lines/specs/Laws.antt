-- What is claimed of the lines: the byte machine reads a file as its lines are read, a file may be cut anywhere, and the code's line is the
-- machine's.
use Rattle.std.specs.Prelude.{ℕ, ◌<◌, ◌≡◌, false, cond, List, [], ◌++◌, length, drop}
use Rattle.scenario_lines.specs.Lines.{whole}
use Rattle.scenario_lines.specs.Bytes.{longest, Reader, reader, push, feed, finish}
use Rattle.scenario_lines.specs.Judge.{judge}
use Rattle.scenario_lines.specs.Held.{view, held_after, line_after, took, held_end, line_end}
use Rattle.scenario_lines.specs.declared.Line.TheVariants.{Broken}
use Rattle.scenario_lines.specs.declared.bytes.Held.{Held}

-- a line of more than 80 bytes is broken, whatever it is
abbrev pub LongIsBroken : Type 0
LongIsBroken = (l : List ℕ) → longest < length l → judge l ≡ Broken

-- the next state tells no two lines of more than 80 bytes apart
abbrev pub LongAlike : {S : Type 0} → (S → List ℕ → S) → Type 0
LongAlike {S} next = (s : S) (l m : List ℕ) → longest < length l → longest < length m → next s l ≡ next s m

-- read by bytes, or by whole lines
abbrev pub ByBytes : Type 1
ByBytes =
    (S : Type 0) (next : S → List ℕ → S) → LongAlike next → (s : S) (file : List ℕ) → finish next (feed next (reader [] false s) file) ≡ whole next s file

-- a file may be cut anywhere
abbrev pub AnyCut : Type 1
AnyCut = (S : Type 0) (next : S → List ℕ → S) (r : Reader S) (a b : List ℕ) → feed next r (a ++ b) ≡ feed next (feed next r a) b

-- ---- the machine that is meant by the 80 places l, what is held of them, and a state
abbrev pub means : {S : Type 0} → List ℕ → Held → S → Reader S
means l h s = reader (view l h.len) h.cr s

-- one byte: the machine's state changes where the byte completes the line
abbrev pub AByte : Type 1
AByte =
    (S : Type 0) (next : S → List ℕ → S) (s : S) (l : List ℕ) (h : Held) (b : ℕ) → length l ≡ longest
    → let g = held_after h b in
    let m = line_after l h b in
    push next (means l h s) b ≡ cond g.done (reader [] false (next s (view m g.len))) (means m g s)

-- bytes until one completes the line; then the bytes after it
abbrev pub ALine : Type 1
ALine =
    (S : Type 0) (next : S → List ℕ → S) (s : S) (bs l : List ℕ) (h : Held) → length l ≡ longest
    → let t = took bs l h in
    feed next (means l h s) bs
    ≡ cond t.held.done (feed next (reader [] false (next s (view t.line t.held.len))) (drop t.used bs)) (means t.line t.held s)

-- the end of the input
abbrev pub TheEnd : Type 1
TheEnd =
    (S : Type 0) (next : S → List ℕ → S) → LongAlike next → (s : S) (l : List ℕ) (h : Held) → length l ≡ longest
    → let g = held_end h in
    finish next (means l h s) ≡ cond g.done (next s (view (line_end l h) g.len)) s
