-- The setting up keeps what is kept. Assumes nothing.
use Prim.Native.Nat.{ℕ, ◌≤◌}
use mathlib.Core.Bool.{Bool, true, false, true≢false}
use mathlib.Core.Path.{◌≡◌, refl, sym, ap, ◌∙◌}
use mathlib.Core.List.{List, []}
use native.Mathlib.Omega.{arith}
use Rattle.machine.specs.Lists.{Lent}
use Rattle.machine.specs.Run.{run, words_of}
use Rattle.scenario.specs.Scenario.{Scenario}
use Rattle.scenario.specs.Refused.{stage_no}
use Rattle.scenario.specs.Printed.{Reading}
use Rattle.scenario.specs.Pieces.{Standing as Listed, at_first}
use Rattle.scenario.specs.declared.Stage.TheVariants.{Runs as AtRuns}
use Rattle.scenario_stages.specs.Means.{Means}
use Rattle.scenario_stages.specs.declared.Read.{Read}
use Rattle.scenario_stages.proofs.Means.{lent_means, lock_means}
use Rattle.scenario_pieces.specs.Piece.{first_of}
use Rattle.scenario_pieces.specs.Stands.{first_listed as set_up, piece_words, Stands}
use Rattle.scenario_pieces.specs.declared.Standing.{Standing}
use Rattle.scenario_pieces.proofs.Stands.{scenario_stands}
use Rattle.scenario_read.specs.Feed.{World, stands}
use Rattle.scenario_promises.proofs.Holds.{lent_of, Entries, Kept}

pub no_entries : (b : Bool) (r : Scenario) (l : Lent) (p : Standing) (gathered : ℕ) (past rows : List ℕ) → b ≡ false → Entries b r l p gathered past rows
    → (past ≡ []) × (rows ≡ []) × (gathered ≡ 0)
no_entries false r l p gathered past rows e h = h
no_entries true r l p gathered past rows e h = absurd (true≢false e)

-- no entries, no rows
pub no_rows : (l : Lent) (p : Listed) → piece_words l p [] ≡ []
unfolding run words_of
no_rows l p = refl

-- ---- the setting up
module _ (r : Read) (lens ops vals : List ℕ) (q : Reading) (m : Means r lens ops vals q) (late : 3 ≤ stage_no r.stage) where
  abbrev lent : Lent
  lent = lent_of r lens ops vals

  pub first_so : Stands lent r.pred r.top r.first [] (first_of r.pred r.top r.first)
  first_so =
      let l = lent_means r lens ops vals q m late in
      let e = lock_means r lens ops vals q m in
      rw (l.0, e.1, e.2, e.3) at (scenario_stands q.scenario _ l.1.none refl).0

  -- the scenario's scripts and first standing are as the code has them
  pub lent_same : q.scenario.lent ≡ lent
  lent_same = (lent_means r lens ops vals q m late).0

  pub first_same : at_first q.scenario ≡ set_up lent r.pred r.top r.first
  first_same =
      let l = lent_means r lens ops vals q m late in
      let e = lock_means r lens ops vals q m in
      sym (scenario_stands q.scenario _ l.1.none refl).1 ∙ λ i. set_up (l.0 i) (e.1 i) (e.2 i) (e.3 i)

module _ (bytes words : List ℕ) (w : World) (k : Kept bytes words w) where
  pub stand_kept : w.state.stood ≡ false → w.state.read.stage ≡ AtRuns → Kept bytes words (stands w)
  stand_kept fresh stage =
      let h = k.holds in
      let r = w.state.read in
      let scripts = lent_of r w.lens w.ops w.vals in
      let number = ap stage_no stage in
      let (past, rows, gathered) = no_entries w.state.stood _ _ _ _ _ _ fresh h.entries in
      let first = first_so r w.lens w.ops w.vals k.reading h.is (omega arith) in
      record {
        reading = k.reading;
        past = k.past;
        line_size = k.line_size;
        read_so = k.read_so;
        holds =
            record {
              is = h.is;
              few = h.few;
              places = h.places;
              split = h.split;
              entries = (stage, rw past first, rw (past, rows) (sym (no_rows scripts (set_up scripts r.pred r.top r.first))));
              coming = h.coming;
            };
      }
