-- Entries that are gathered, and entries that are run, keep what is kept. Assumes nothing.
use Prim.Native.Nat.{ℕ, ◌+◌, ◌-◌, ◌*◌, ◌<◌, ◌≤◌}
use mathlib.Core.Bool.{Bool, true, false, false≢true}
use mathlib.Core.Path.{◌≡◌, refl, sym, ap, subst, ◌∙◌}
use mathlib.Core.List.{List, ◌++◌, append_assoc}
use native.Mathlib.Omega.{arith}
use borrow.Author.Tests.{le-leb}
use lib.ListN.{length, take, replicate}
use lib.Seq.{length-take-le, take_all, length-sets}
use Rattle.machine.specs.Lists.{Lent}
use Rattle.scenario.specs.Scenario.{Scenario}
use Rattle.machine.specs.Names.{row_words}
use Rattle.scenario.specs.declared.Stage.TheVariants.{Runs as AtRuns}
use Rattle.scenario_stages.specs.declared.Read.{Read}
use Rattle.scenario_stages.proofs.Means.{entries_apart}
use Rattle.scenario_pieces.specs.Piece.{most_entries, piece}
use Rattle.scenario_pieces.specs.Stands.{listed, piece_words, run_entries, Stands}
use Rattle.scenario_pieces.specs.declared.Standing.{Standing}
use Rattle.scenario_pieces.proofs.Stands.{piece_stands, never_refused, rows_next}
use Rattle.scenario_read.specs.Feed.{World, lent_in, more, gathers, runs}
use Rattle.scenario_read.specs.declared.State.{State}
use Rattle.scenario_promises.specs.Session.{wrote}
use Rattle.scenario_promises.proofs.Chose.{Wide}
use Rattle.scenario_promises.proofs.Spans.{gathered_more}
use Rattle.scenario_promises.proofs.Goes.{piece_room, piece_wrote}
use Rattle.scenario_promises.proofs.Holds.{Entries, Kept}

module _ (r : Scenario) (l : Lent) (p : Standing) (gathered : ℕ) (past rows : List ℕ) where
  -- where some wait, the lock is set up
  set_up : (b : Bool) → 0 < gathered → Entries b r l p gathered past rows → b ≡ true
  set_up true some h = refl
  set_up false some h = absurd (omega (arith, h.2))

  -- then it is of no account how many wait
  however_many : (b : Bool) (more : ℕ) → b ≡ true → Entries b r l p gathered past rows → Entries true r l p more past rows
  however_many true more e h = h
  however_many false more e h = absurd (false≢true e)

module _ (bytes words : List ℕ) (w : World) (k : Kept bytes words w) where
  abbrev s : State
  s = w.state

  abbrev r : Read
  r = s.read

  pub gather_kept : 0 < r.run_left → (r.stage ≡ AtRuns → s.stood ≡ true) → Kept bytes words (gathers w)
  gather_kept left there =
      let h = k.holds in
      let n = more s in
      let stood = there (h.coming left) in
      let room : s.gathered + n ≤ most_entries = omega (arith, h.few) in
      let fits : s.gathered + n ≤ length w.schedule = omega (arith, h.places) in
      record {
        reading = k.reading;
        past = k.past;
        line_size = k.line_size;
        read_so = k.read_so;
        holds =
            record {
              is = entries_apart r w.lens w.ops w.vals k.reading r.run_thread (r.run_left - n) h.is;
              few = room;
              places = omega (arith, h.places, length-sets w.schedule s.gathered (replicate n r.run_thread));
              split =
                  h.split
                  ∙ ap (λ (x : List ℕ). k.past ++ x)
                  (sym (gathered_more w.schedule s.gathered n r.run_left r.run_thread fits (omega arith)));
              entries = rw stood (however_many _ _ _ _ _ _ s.stood (s.gathered + n) stood h.entries);
              coming = λ z. h.coming left;
            };
      }

  -- the entries that wait are one piece
  abbrev waits : List ℕ
  waits = take s.gathered w.schedule

  one_piece : piece waits ≡ waits
  one_piece =
      let h = k.holds in
      take_all most_entries waits (omega (arith, h.few, h.places, length-take-le s.gathered w.schedule (omega (arith, h.few, h.places))))

  pub piece_kept : Wide w → 0 < s.gathered → Kept bytes (words ++ wrote w.at (runs w)) (runs w)
  piece_kept wide some =
      let h = k.holds in
      let l = lent_in w in
      let p = w.standing in
      let stood = set_up _ _ _ _ _ _ s.stood some h.entries in
      let (stage, st, rows) = however_many _ _ _ _ _ _ s.stood 0 stood h.entries in
      let new = piece_words l (listed l p) waits in
      let out : wrote w.at (runs w) ≡ new =
      piece_wrote w wide (never_refused l r.pred r.top r.first k.past p st) ∙ ap (piece_words l (listed l p)) one_piece in
      let ran : run_entries waits w.out w.at ≡ waits =
      rw (le-leb (w.at + row_words * length (piece waits)) (length w.out) (piece_room w wide)) one_piece in
      let after = piece_stands l r.pred r.top r.first k.past p st waits w.out w.at _ refl in
      record {
        reading = k.reading;
        past = k.past ++ waits;
        line_size = k.line_size;
        read_so = k.read_so;
        holds =
            record {
              is = h.is;
              few = omega arith;
              places = h.places;
              split = h.split ∙ sym (append_assoc k.past waits (replicate r.run_left r.run_thread));
              entries =
                  rw stood (
                    stage,
                    subst (λ (x : List ℕ). Stands l r.pred r.top r.first (k.past ++ x) (runs w).standing) ran after,
                    ap (λ (x : List ℕ). words ++ x) out ∙ ap (λ (x : List ℕ). x ++ new) rows ∙ sym (rows_next l r.pred r.top r.first k.past p st waits),
                  );
              coming = h.coming;
            };
      }
