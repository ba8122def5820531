-- Entries come from run lines alone, and at run lines nothing changes of which the lock and the scripts are made. Assumes nothing.
use Rattle.std.specs.Option.{is_none}
use Rattle.std.proofs.Common.{◌≡◌, ℕ, ◌<◌, Bool, true, false, cond, ◌&&◌, eqb, ltb, leb, List, get_or, refl, ap, arith, eqb-true}
use Rattle.scenario_lines.specs.declared.Line.{Line}
use Rattle.scenario_lines.specs.declared.Line.TheVariants.{Broken, Header, BadNumber, Lock, Pred as PredLine, Op, Run, NoKind}
use Rattle.scenario.specs.Scenario.{taken}
use Rattle.scenario.specs.Refused.{stage_no, at, misplaced}
use Rattle.scenario.specs.declared.Stage.{Stage}
use Rattle.scenario.specs.declared.Stage.TheVariants.{Ops as AtOps, Runs as AtRuns}
use Rattle.scenario.proofs.Setup.{passes, neither}
use Rattle.scenario_stages.specs.declared.Read.{Read}
use Rattle.scenario_stages.specs.Kept.{outline, op_number, refusal_at, taken_by, refused_by, on_line, lens_with, ops_with, vals_with, lens_after, ops_after, vals_after}
use Rattle.scenario_stages.specs.Runs.{EntriesAtRuns, Same, RunsKeep}

-- ---- entries
entries_taken : (r : Read) (l : Line) → 0 < (taken_by r l).run_left → (taken_by r l).stage ≡ AtRuns
unfolding taken
entries_taken r Broken h = absurd (omega arith)
entries_taken r Header h = absurd (omega arith)
entries_taken r BadNumber h = absurd (omega arith)
entries_taken r (Lock top first threads) h = absurd (omega arith)
entries_taken r (PredLine kind a b) h = absurd (omega arith)
entries_taken r (Op t code value) h = absurd (omega arith)
entries_taken r (Run t times) h = refl
entries_taken r NoKind h = absurd (omega arith)

entries_by : (b e : Bool) (r : Read) (l : Line) (k : ℕ) → r.run_left ≡ 0
    → let s = cond b (cond e (taken_by r l) (refused_by r k)) r in 0 < s.run_left → s.stage ≡ AtRuns
entries_by false e r l k left h = absurd (omega arith)
entries_by true false r l k left h = absurd (omega arith)
entries_by true true r l k left h = entries_taken r l h

pub entries_at_runs : EntriesAtRuns
unfolding on_line
entries_at_runs r l lens = entries_by (is_none r.refused) (eqb (refusal_at r lens l) 0) r l (refusal_at r lens l)

-- ---- what stays
-- a stage with another number is another stage
other_stage : (p : Stage) → p ≡ AtRuns → stage_no p < 4 → ⊥
other_stage p e h = let n = ap stage_no e in omega arith

-- an op line is taken among op lines alone
op_among_ops : (r : Read) (lens : List ℕ) (t code value : ℕ) → refusal_at r lens (Op t code value) ≡ 0 → stage_no r.stage ≡ 3
op_among_ops r lens t code value z =
    let p = passes false (misplaced (outline r) (Op t code value)) (op_number (get_or lens t 0) code value) z in
    eqb-true (stage_no r.stage) 3 (neither (at r.stage AtOps) (leb r.threads t) (ltb t r.thread) p.1).0

kept_taken : (r : Read) (l : Line) (lens ops vals : List ℕ) → refusal_at r lens l ≡ 0 → (taken_by r l).stage ≡ AtRuns
    → Same r (taken_by r l) lens (lens_with r l lens) ops (ops_with r l ops) vals (vals_with r l vals)
unfolding taken
kept_taken r Broken lens ops vals z e = (refl, refl, refl, refl, refl, refl, refl, refl)
kept_taken r Header lens ops vals z e = absurd (other_stage _ e (omega arith))
kept_taken r BadNumber lens ops vals z e = (refl, refl, refl, refl, refl, refl, refl, refl)
kept_taken r (Lock top first threads) lens ops vals z e = absurd (other_stage _ e (omega arith))
kept_taken r (PredLine kind a b) lens ops vals z e = absurd (other_stage _ e (omega arith))
kept_taken r (Op t code value) lens ops vals z e = absurd (other_stage r.stage e (omega (arith, op_among_ops r lens t code value z)))
kept_taken r (Run t times) lens ops vals z e = (refl, refl, refl, refl, refl, refl, refl, refl)
kept_taken r NoKind lens ops vals z e = (refl, refl, refl, refl, refl, refl, refl, refl)

kept_by : (b e : Bool) (r : Read) (l : Line) (k : ℕ) (lens ops vals : List ℕ) → (e ≡ true → refusal_at r lens l ≡ 0)
    → let s = cond b (cond e (taken_by r l) (refused_by r k)) r in
    s.stage ≡ AtRuns
    → Same r s lens (cond (b && e) (lens_with r l lens) lens) ops (cond (b && e) (ops_with r l ops) ops) vals (cond (b && e) (vals_with r l vals) vals)
kept_by false e r l k lens ops vals z h = (refl, refl, refl, refl, refl, refl, refl, refl)
kept_by true false r l k lens ops vals z h = (refl, refl, refl, refl, refl, refl, refl, refl)
kept_by true true r l k lens ops vals z h = kept_taken r l lens ops vals (z refl) h

pub runs_keep : RunsKeep
unfolding on_line lens_after ops_after vals_after
runs_keep r l lens ops vals h =
    let k = refusal_at r lens l in
    kept_by (is_none r.refused) (eqb k 0) r l k lens ops vals (λ e. eqb-true k 0 e) h
