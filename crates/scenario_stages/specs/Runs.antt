-- Entries come from run lines alone, and at run lines nothing changes of which the lock and the scripts are made.
use Rattle.std.specs.Prelude.{◌≡◌, ℕ, ◌<◌, List}
use Rattle.scenario_lines.specs.declared.Line.{Line}
use Rattle.scenario.specs.declared.Stage.TheVariants.{Runs as AtRuns}
use Rattle.scenario_stages.specs.declared.Read.{Read}
use Rattle.scenario_stages.specs.Kept.{on_line, lens_after, ops_after, vals_after}

-- a line adds entries only where it is a run line
abbrev pub EntriesAtRuns : Type 0
EntriesAtRuns =
    (r : Read) (l : Line) (lens : List ℕ) → r.run_left ≡ 0 → 0 < (on_line r l lens).run_left → (on_line r l lens).stage ≡ AtRuns

-- all that the lock and the scripts are made of is the same
abbrev pub Same : Read → Read → List ℕ → List ℕ → List ℕ → List ℕ → List ℕ → List ℕ → Type 0
Same r s lens lens' ops ops' vals vals' =
    (lens' ≡ lens)
    × (ops' ≡ ops)
    × (vals' ≡ vals)
    × (s.count ≡ r.count)
    × (s.pred ≡ r.pred)
    × (s.top ≡ r.top)
    × (s.first ≡ r.first)
    × (s.threads ≡ r.threads)

-- after a line that leaves run lines alone to come
abbrev pub RunsKeep : Type 0
RunsKeep =
    (r : Read) (l : Line) (lens ops vals : List ℕ) → (on_line r l lens).stage ≡ AtRuns
    → Same r (on_line r l lens) lens (lens_after r l lens) ops (ops_after r l lens ops) vals (vals_after r l lens vals)
