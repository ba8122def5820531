-- What every move keeps: what is read means the reading, the entries so far stand in the schedule, and the words so far are those of their rows.
use Prim.Native.Nat.{ℕ, ◌<◌, ◌≤◌}
use mathlib.Core.Bool.{Bool, true, false}
use mathlib.Core.Path.{◌≡◌}
use mathlib.Core.List.{List, [], ◌++◌}
use lib.ListN.{length, take, replicate}
use Rattle.machine.specs.Lists.{Lent, lists}
use Rattle.scenario_lines.specs.Bytes.{longest, feed, finish}
use Rattle.scenario_lines.specs.Laws.{means}
use Rattle.scenario_lines.specs.declared.bytes.Held.{Held}
use Rattle.scenario.specs.Scenario.{Scenario}
use Rattle.scenario.specs.Printed.{Reading, next, ended}
use Rattle.scenario.specs.ByBytes.{unread}
use Rattle.scenario.specs.declared.Stage.TheVariants.{Runs as AtRuns}
use Rattle.scenario_stages.specs.Kept.{outline}
use Rattle.scenario_stages.specs.Means.{Means}
use Rattle.scenario_stages.specs.declared.Read.{Read}
use Rattle.scenario_pieces.specs.Piece.{most_entries}
use Rattle.scenario_pieces.specs.Stands.{first_listed, piece_words, Stands}
use Rattle.scenario_pieces.specs.declared.Standing.{Standing}
use Rattle.scenario_read.specs.Feed.{World}
use Rattle.scenario_read.specs.declared.State.{State}

-- ---- the entries so far
-- the scripts, in the first places of the lists
abbrev pub lent_of : Read → List ℕ → List ℕ → List ℕ → Lent
lent_of r lens ops vals = lists (take r.threads lens) (take r.count ops) (take r.count vals)

-- before the lock is set up no entry waits or is run; afterwards the standing is that of the entries in `past`, and `rows` are the words of their rows
abbrev pub Entries : Bool → Scenario → Lent → Standing → ℕ → List ℕ → List ℕ → Type 0
Entries false r l p gathered past rows = (past ≡ []) × (rows ≡ []) × (gathered ≡ 0)
Entries true r l p gathered past rows =
    (r.stage ≡ AtRuns)
    × Stands l r.pred r.top r.first past p
    × (rows ≡ piece_words l (first_listed l r.pred r.top r.first) past)

-- the schedule is what was run, what waits, and what the last line still adds
pub record Holds (r : Read) (stood : Bool) (gathered : ℕ) (p : Standing) (lens ops vals schedule : List ℕ) (q : Reading) (past rows : List ℕ) : Type 0 where
  pub is : Means r lens ops vals q
  pub few : gathered ≤ most_entries
  pub places : most_entries ≤ length schedule
  pub split : q.scenario.schedule ≡ past ++ (take gathered schedule ++ replicate r.run_left r.run_thread)
  pub entries : Entries stood (outline r) (lent_of r lens ops vals) p gathered past rows
  pub coming : 0 < r.run_left → r.stage ≡ AtRuns

-- ---- the bytes so far
-- the reading of the bytes: from the line that is held on, or, after the end of the input, all of it
abbrev pub Bytes : Bool → List ℕ → List ℕ → Held → Reading → Type 0
Bytes false bytes line h q = feed next unread bytes ≡ means line h q
Bytes true bytes line h q = q ≡ ended (finish next (feed next unread bytes))

pub record Inv (bytes rows : List ℕ) (s : State) (p : Standing) (line lens ops vals schedule : List ℕ) : Type 0 where
  pub reading : Reading
  pub past : List ℕ
  pub line_size : length line ≡ longest
  pub read_so : Bytes s.closed bytes line s.held reading
  pub holds : Holds s.read s.stood s.gathered p lens ops vals schedule reading past rows

abbrev pub Kept : List ℕ → List ℕ → World → Type 0
Kept bytes rows w = Inv bytes rows w.state w.standing w.line w.lens w.ops w.vals w.schedule
