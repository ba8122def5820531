-- The line as the code keeps it: 80 places, how many of them are taken (81: too long), whether a CR is held back.
use Rattle.std.specs.Prelude.{ℕ, suc, ◌+◌, Bool, true, false, cond, List, [], ◌∷◌, eqb, ltb, set, take}
use Rattle.scenario_lines.specs.Lines.{cr, lf}
use Rattle.scenario_lines.specs.Bytes.{longest, too_long}
use Rattle.scenario_lines.specs.declared.bytes.Held.{Held}
use Rattle.scenario_lines.specs.declared.bytes.Taken.{Taken}

abbrev pub grown : ℕ → ℕ
grown n = cond (ltb n longest) (n + 1) 81

abbrev pub kept : List ℕ → ℕ → ℕ → List ℕ
kept l n b = cond (ltb n longest) (set l n b) l

abbrev pub held : ℕ → Bool → Bool → Held
held n back done = record { len = n; cr = back; done = done }

abbrev pub unheld : Held
unheld = held 0 false false

-- ---- one byte
abbrev pub held_by : Bool → ℕ → ℕ → Held
held_by true n b = cond (eqb b lf) (held n false true) (cond (eqb b cr) (held (grown n) true false) (held (grown (grown n)) false false))
held_by false n b = cond (eqb b cr) (held n true false) (held (grown n) false false)

abbrev pub line_by : Bool → List ℕ → ℕ → ℕ → List ℕ
line_by true l n b = cond (eqb b lf) l (cond (eqb b cr) (kept l n cr) (kept (kept l n cr) (grown n) b))
line_by false l n b = cond (eqb b cr) l (kept l n b)

unfoldable pub held_after : Held → ℕ → Held
held_after h b = held_by h.cr h.len b

unfoldable pub line_after : List ℕ → Held → ℕ → List ℕ
line_after l h b = line_by h.cr l h.len b

-- ---- bytes, until one completes the line: what is held, the places, and how many bytes were read
pub record Took : Type 0 where
  pub held : Held
  pub line : List ℕ
  pub used : ℕ

abbrev pub taking : Held → List ℕ → ℕ → Took
taking h l n = record { held = h; line = l; used = n }

-- one byte more before these
abbrev pub one_byte_more : Took → Took
one_byte_more t = taking t.held t.line (suc t.used)

-- nothing is read yet
abbrev pub opened : Held → Held
opened h = held h.len h.cr false

unfoldable pub took : List ℕ → List ℕ → Held → Took
took [] l h = taking (opened h) l 0
took (b ∷ bs) l h =
    let g = held_after h b in
    let m = line_after l h b in
    cond g.done (taking g m 1) (one_byte_more (took bs m g))

-- as the code returns it, from a place of a chunk on
abbrev pub taken_from : ℕ → Took → Taken
taken_from from t = record { held = t.held; at = from + t.used }

-- ---- the end of the input: `done` says whether there is a last line
abbrev pub held_last : Bool → ℕ → Held
held_last true n = held (grown n) false true
held_last false n = held n false (ltb 0 n)

abbrev pub line_last : Bool → List ℕ → ℕ → List ℕ
line_last true l n = kept l n cr
line_last false l n = l

unfoldable pub held_end : Held → Held
held_end h = held_last h.cr h.len

unfoldable pub line_end : List ℕ → Held → List ℕ
line_end l h = line_last h.cr l h.len

-- the line that is meant
unfoldable pub view : List ℕ → ℕ → List ℕ
view l n = cond (ltb n 81) (take n l) too_long
