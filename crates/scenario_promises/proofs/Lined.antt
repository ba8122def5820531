-- A line, and the end of the input, keep what holds of the entries. Assumes nothing.
use Rattle.std.specs.Option.{is_none}
use Prim.Native.Nat.{ℕ, zero, suc, ◌<◌}
use mathlib.Core.Bool.{Bool, true, false, cond}
use mathlib.Core.Path.{◌≡◌, refl, ap, ◌∙◌}
use mathlib.Core.List.{List, ◌++◌, append_assoc, append-nil}
use native.Mathlib.Omega.{arith}
use borrow.Author.Tests.{ltb-true}
use lib.Dec.{eqb, ltb}
use lib.ListN.{take, replicate}
use Rattle.scenario_lines.specs.Judge.{judge}
use Rattle.scenario_lines.specs.declared.Line.{Line}
use Rattle.scenario_lines.specs.declared.Line.TheVariants.{Broken, Header, BadNumber, Lock, Pred as PredLine, Op, Run, NoKind}
use Rattle.scenario.specs.Names.{wrong_line}
use Rattle.scenario.specs.Scenario.{Scenario, taken}
use Rattle.scenario.specs.Refused.{stage_no}
use Rattle.scenario.specs.Printed.{Reading, next, ended}
use Rattle.scenario.specs.declared.Stage.TheVariants.{Runs as AtRuns}
use Rattle.scenario_stages.specs.Kept.{outline, refusal_at, refused_by, after_line, on_line, lens_after, ops_after, vals_after, at_end}
use Rattle.scenario_stages.specs.Means.{Means}
use Rattle.scenario_stages.specs.declared.Read.{Read}
use Rattle.scenario_stages.proofs.Means.{line_means, end_means}
use Rattle.scenario_stages.proofs.Runs.{entries_at_runs, runs_keep}
use Rattle.scenario_pieces.specs.declared.Standing.{Standing}
use Rattle.scenario_promises.proofs.Holds.{lent_of, Entries, Holds}

-- ---- after run lines no other line is taken
same_stage : (b : Bool) (r s : Read) → s.stage ≡ AtRuns → r.stage ≡ AtRuns → (cond b s r).stage ≡ AtRuns
same_stage true r s e f = e
same_stage false r s e f = f

module _ (r : Read) (lens : List ℕ) (there : r.stage ≡ AtRuns) where
  runs_taken : (l : Line) → (after_line (refusal_at r lens l) r l).stage ≡ AtRuns
  unfolding taken
  runs_taken Broken = there
  runs_taken Header = rw there
  runs_taken BadNumber = rw there
  runs_taken (Lock top first threads) = rw there
  runs_taken (PredLine kind a b) = rw there
  runs_taken (Op t code value) = rw there
  runs_taken (Run t times) = rw there
  runs_taken NoKind = rw there

  runs_stay : (l : Line) → (on_line r l lens).stage ≡ AtRuns
  unfolding on_line
  runs_stay l = same_stage (is_none r.refused) r (after_line (refusal_at r lens l) r l) (runs_taken l) there

-- ---- a line
grown : (past waits new : List ℕ) (n t : ℕ) → n ≡ 0 → (past ++ (waits ++ replicate n t)) ++ new ≡ past ++ (waits ++ new)
grown past waits new n t e = rw (e, append-nil waits) (append_assoc past waits new)

module _ (r : Read) (lens ops vals : List ℕ) (l : Line) (p : Standing) (gathered : ℕ) (past rows : List ℕ) where
  abbrev s : Read
  s = on_line r l lens

  entries_stay : (b : Bool) → Entries b (outline r) (lent_of r lens ops vals) p gathered past rows
      → Entries b (outline s) (lent_of s (lens_after r l lens) (ops_after r l lens ops) (vals_after r l lens vals)) p gathered past rows
  entries_stay false e = e
  entries_stay true e =
      let stage = runs_stay r lens e.0 l in
      let same = runs_keep r l lens ops vals stage in
      rw (same.0, same.1, same.2, same.3, same.4, same.5, same.6, same.7) (stage, e.1, e.2)

module _
    (r : Read) (stood : Bool) (gathered : ℕ) (p : Standing) (lens ops vals schedule : List ℕ) (q : Reading) (past rows : List ℕ)
    (h : Holds r stood gathered p lens ops vals schedule q past rows) where
  pub line_holds : (l : List ℕ) → r.run_left ≡ 0
      → Holds (on_line r (judge l) lens) stood gathered p (lens_after r (judge l) lens) (ops_after r (judge l) lens ops) (vals_after r (judge l) lens vals) schedule
      (next q l) past rows
  line_holds l left =
      let new : List ℕ = replicate (on_line r (judge l) lens).run_left (on_line r (judge l) lens).run_thread in
      let m = line_means r lens ops vals q l h.is left in
      record {
        is = m.0;
        few = h.few;
        places = h.places;
        split = m.1 ∙ ap (λ (x : List ℕ). x ++ new) h.split ∙ grown past (take gathered schedule) new r.run_left r.run_thread left;
        entries = entries_stay r lens ops vals (judge l) p gathered past rows stood h.entries;
        coming = entries_at_runs r (judge l) lens left;
      }

  -- ---- the end
  -- before the op lines no entries come
  none_come : ltb (stage_no r.stage) 3 ≡ true → r.run_left ≡ 0
  none_come e = go r.run_left h.coming
    where
      go : (n : ℕ) → (0 < n → r.stage ≡ AtRuns) → n ≡ 0
      go zero f = refl
      go (suc n) f =
          let late = ap stage_no (f (omega arith)) in
          absurd (omega (arith, ltb-true (stage_no r.stage) 3 e))

  -- the same scenario, in another reading
  module _ (q' : Reading) (same : q'.scenario ≡ q.scenario) where
    reread : Means r lens ops vals q' → Holds r stood gathered p lens ops vals schedule q' past rows
    reread m =
        record {
          is = m;
          few = h.few;
          places = h.places;
          split = ap (λ (x : Scenario). x.schedule) same ∙ h.split;
          entries = h.entries;
          coming = h.coming;
        }

    end_by : (b c : Bool) → ltb (stage_no r.stage) 3 ≡ c
        → let r' = cond b (cond c (refused_by r wrong_line) r) r in
        Means r' lens ops vals q' → Holds r' stood gathered p lens ops vals schedule q' past rows
    end_by false c e m = reread m
    end_by true false e m = reread m
    end_by true true e m =
        record {
          is = m;
          few = h.few;
          places = h.places;
          split = ap (λ (x : Scenario). x.schedule) same ∙ rw (none_come e) at h.split;
          entries = h.entries;
          coming = λ z. absurd (omega arith);
        }

  pub end_holds : Holds (at_end r) stood gathered p lens ops vals schedule (ended q) past rows
  unfolding at_end
  end_holds =
      let m = end_means r lens ops vals q h.is in
      end_by (ended q) m.1 (is_none r.refused) (ltb (stage_no r.stage) 3) refl m.0
