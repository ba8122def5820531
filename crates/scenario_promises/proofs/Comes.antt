-- Once all is out, a session has come to what the file of its bytes comes to. Assumes nothing.
use Rattle.scenario_stages.proofs.Noted.{none_noted, number_noted}
use Prim.Native.Nat.{ℕ, ◌≤◌}
use mathlib.Core.Bool.{Bool, true, false, cond}
use mathlib.Core.Path.{◌≡◌, refl, sym, ap, ◌∙◌}
use mathlib.Core.List.{List, [], ◌++◌}
use native.Mathlib.Omega.{arith}
use borrow.Author.Tests.{eqb-true}
use lib.ListN.{length}
use Rattle.scenario.specs.Refused.{stage_no, at as is_at}
use Rattle.scenario.specs.Printed.{Reading, reading_of}
use Rattle.scenario.specs.declared.Stage.TheVariants.{Runs as AtRuns}
use Rattle.scenario_stages.specs.Kept.{outline}
use Rattle.scenario_stages.proofs.Means.{lock_means}
use Rattle.scenario_pieces.specs.Piece.{first_of}
use Rattle.scenario_pieces.specs.Stands.{listed}
use Rattle.scenario_read.specs.Feed.{World, lent_in, over, stop_of}
use Rattle.scenario_read.specs.declared.State.{State}
use Rattle.scenario_promises.specs.Session.{Session, MayCome}
use Rattle.scenario_promises.specs.Piped.{end_of_file, left_by_file, ComesTo}
use Rattle.scenario_promises.proofs.Chose.{last_stage}
use Rattle.scenario_promises.proofs.Holds.{lent_of, Entries, Kept}
use Rattle.scenario_promises.proofs.Calls.{session_kept}
use Rattle.scenario_promises.proofs.Ends.{all_run, over_so, reading_so, all_rows, refused_so, stands_so, first_so_far}
use Rattle.scenario_promises.proofs.Scheduled.{file_scheduled}

module _ (bytes words : List ℕ) (w : World) (k : Kept bytes words w) (all : over w.state ≡ true) (others : List ℕ) (none : MayCome w others) where
  abbrev s : State
  s = w.state

  abbrev file : Reading
  file = reading_of (bytes ++ others)

  is_file : k.reading ≡ file
  is_file = reading_so bytes words w k all others none

  end_so : (room at : ℕ) → stop_of s room at ≡ end_of_file (bytes ++ others)
  unfolding stop_of
  end_so room at = let (refused, line) = refused_so bytes words w k all others none in rw (all, refused, line, none_noted file.refused, number_noted file.refused) refl

  scripts_so : 3 ≤ stage_no file.scenario.stage → lent_in w ≡ file.scenario.lent
  scripts_so late =
      let same = ap (λ (q : Reading). q.scenario) is_file in
      sym (k.holds.is.lent (rw (← same) at late)) ∙ ap (λ (q : Reading). q.scenario.lent) is_file

  -- nothing was run, so there is no run line
  unstood : (b : Bool) → is_at k.reading.scenario.stage AtRuns ≡ b → k.past ≡ [] → false ≡ b
  unstood false e none_run = refl
  unstood true e none_run =
      let (waits, left, _) = over_so s all in
      let runs = last_stage k.reading.scenario.stage (eqb-true (stage_no k.reading.scenario.stage) 4 e) in
      let some = file_scheduled (bytes ++ others) (ap (λ (q : Reading). q.scenario.stage) (sym is_file) ∙ runs) in
      let empty = ap length (ap (λ (q : Reading). q.scenario.schedule) (sym is_file) ∙ all_run _ _ _ _ _ _ _ _ _ _ _ k.holds waits left ∙ none_run) in
      absurd (omega (arith, some, empty))

  stood_by : (b : Bool) → Entries b (outline s.read) (lent_of s.read w.lens w.ops w.vals) w.standing s.gathered k.past words
      → b ≡ is_at k.reading.scenario.stage AtRuns
  stood_by true e = rw ((lock_means _ _ _ _ _ k.holds.is).0 ∙ e.0) refl
  stood_by false e = unstood (is_at k.reading.scenario.stage AtRuns) refl e.0

  stood_so : s.stood ≡ is_at file.scenario.stage AtRuns
  stood_so = stood_by s.stood k.holds.entries ∙ ap (λ (q : Reading). is_at q.scenario.stage AtRuns) is_file

  stands_either : (b : Bool) → s.stood ≡ b → 3 ≤ stage_no file.scenario.stage
      → let r = s.read in listed (lent_in w) (cond b w.standing (first_of r.pred r.top r.first)) ≡ left_by_file (bytes ++ others)
  stands_either true e late = stands_so bytes words w k all others none e
  stands_either false e late = first_so_far bytes words w k all others none e late

  comes : ComesTo (bytes ++ others) words w
  comes = record {
    rows = all_rows bytes words w k all others none;
    end = end_so;
    scripts = scripts_so;
    stood = stood_so;
    left = stands_so bytes words w k all others none;
    stands = λ late. stands_either s.stood refl late;
  }

pub comes_to : (bytes words : List ℕ) (w : World) → Session bytes words w → over w.state ≡ true → (others : List ℕ) → MayCome w others
    → ComesTo (bytes ++ others) words w
comes_to bytes words w session all others none = comes bytes words w (session_kept session) all others none
