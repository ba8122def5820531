-- Once all is out, the rows are those of the bytes, the refusal is theirs, and the lock and the records are what the whole schedule leaves. Assumes
-- nothing.
use Rattle.scenario_stages.specs.Means.{noted}
use Rattle.std.specs.Prelude.{None}
use Rattle.std.specs.Option.{is_none}
use Rattle.scenario_stages.proofs.Noted.{some_is}
use Prim.Native.Nat.{ℕ, ◌%◌, ◌≤◌}
use mathlib.Core.Bool.{Bool, true, false, ◌||◌, ◌&&◌, not, true≢false, false≢true}
use mathlib.Core.Path.{◌≡◌, refl, sym, ap, subst, ◌∙◌}
use mathlib.Core.Logic.{◌≢◌}
use mathlib.Core.List.{List, [], ◌++◌, append-nil}
use native.Mathlib.Omega.{arith}
use borrow.Author.Tests.{eqb-true, eqb-false, ne_eqb}
use lib.Dec.{eqb}
use lib.ListN.{take, replicate}
use Rattle.machine.specs.Run.{words_of}
use Rattle.scenario_lines.specs.Bytes.{Reader, feed}
use Rattle.scenario_lines.specs.declared.bytes.Held.{Held}
use Rattle.scenario.specs.Names.{counted_to}
use Rattle.scenario.specs.Refused.{stage_no}
use Rattle.scenario.specs.Printed.{Reading, next, ended, rows_of, reading_of}
use Rattle.scenario.specs.ByBytes.{unread, reading_from}
use Rattle.scenario.specs.Pieces.{at_first, after_piece}
use Rattle.scenario.specs.declared.Stage.{Stage}
use Rattle.scenario.proofs.ByBytes.{read_by_bytes, cut_anywhere}
use Rattle.scenario.proofs.Pieces.{one_piece}
use Rattle.scenario_stages.specs.Kept.{outline}
use Rattle.scenario_stages.specs.declared.Read.{Read}
use Rattle.scenario_stages.proofs.Means.{lock_means}
use Rattle.scenario_pieces.specs.Piece.{first_of}
use Rattle.scenario_pieces.specs.Stands.{piece_words, listed}
use Rattle.scenario_pieces.specs.declared.Standing.{Standing}
use Rattle.scenario_read.specs.Feed.{World, lent_in, over}
use Rattle.scenario_read.specs.declared.State.{State}
use Rattle.scenario_promises.specs.Session.{file_words, MayCome}
use Rattle.scenario_promises.proofs.Holds.{lent_of, Entries, Holds, Bytes, Kept}
use Rattle.scenario_promises.proofs.Onward.{all_keep}
use Rattle.scenario_promises.proofs.Writes.{no_entries, no_rows, lent_same, first_so, first_same}

-- ---- the rows of the reading
module _
    (r : Read) (stood : Bool) (gathered : ℕ) (p : Standing) (lens ops vals schedule : List ℕ) (q : Reading) (past rows : List ℕ)
    (h : Holds r stood gathered p lens ops vals schedule q past rows) where
  pub all_run : gathered ≡ 0 → r.run_left ≡ 0 → q.scenario.schedule ≡ past
  all_run none left = h.split ∙ ap (λ (x : List ℕ). past ++ x) nothing ∙ append-nil past
    where
      nothing : take gathered schedule ++ replicate r.run_left r.run_thread ≡ []
      nothing = rw (none, left) refl

  rows_out : (b : Bool) → Entries b (outline r) (lent_of r lens ops vals) p gathered past rows
      → piece_words q.scenario.lent (at_first q.scenario) past ≡ rows
  rows_out false e = rw (e.0, e.1) (no_rows q.scenario.lent (at_first q.scenario))
  rows_out true e =
      let number = ap stage_no e.0 in
      let lent = lent_same r lens ops vals q h.is (omega arith) in
      let first = first_same r lens ops vals q h.is (omega arith) in
      (λ i. piece_words (lent i) (first i) past) ∙ sym e.2

  -- where nothing waits they are all
  all_stored : gathered ≡ 0 → r.run_left ≡ 0 → rows ≡ words_of (rows_of q.scenario)
  all_stored none left =
      let s = q.scenario in
      sym (ap words_of (one_piece s) ∙ ap (piece_words s.lent (at_first s)) (all_run none left) ∙ rows_out stood h.entries)

  -- and the standing is the one after them
  stands_by : (b : Bool) → b ≡ true → Entries b (outline r) (lent_of r lens ops vals) p gathered past rows
      → listed (lent_of r lens ops vals) p ≡ after_piece q.scenario.lent (at_first q.scenario) past
  stands_by false f e = absurd (false≢true f)
  stands_by true f e =
      let number = ap stage_no e.0 in
      let lent = lent_same r lens ops vals q h.is (omega arith) in
      let first = first_same r lens ops vals q h.is (omega arith) in
      e.1.is ∙ sym (λ i. after_piece (lent i) (first i) past)

  all_stood : gathered ≡ 0 → r.run_left ≡ 0 → stood ≡ true
      → let s = q.scenario in listed (lent_of r lens ops vals) p ≡ after_piece s.lent (at_first s) s.schedule
  all_stood none left there =
      let s = q.scenario in
      stands_by stood there h.entries ∙ ap (after_piece s.lent (at_first s)) (sym (all_run none left))

  -- with nothing run yet, the lock would be set up as the scenario has it
  all_first : gathered ≡ 0 → r.run_left ≡ 0 → stood ≡ false → 3 ≤ stage_no r.stage
      → let s = q.scenario in listed (lent_of r lens ops vals) (first_of r.pred r.top r.first) ≡ after_piece s.lent (at_first s) s.schedule
  all_first none left fresh late =
      let s = q.scenario in
      let none_run = (no_entries stood (outline r) (lent_of r lens ops vals) p gathered past rows fresh h.entries).0 in
      let lent = lent_same r lens ops vals q h.is late in
      let first = first_same r lens ops vals q h.is late in
      (first_so r lens ops vals q h.is late).is
      ∙ sym (λ i. after_piece (lent i) (first i) [])
      ∙ ap (after_piece s.lent (at_first s)) (sym (all_run none left ∙ none_run))

-- ---- a refusal ends the file
module _ (q : Reading) (refused : q.refused ≢ 0) where
  next_stays : (l : List ℕ) → next q l ≡ q
  unfolding next
  next_stays l = rw (ne_eqb q.refused 0 refused) refl

  ended_stays : ended q ≡ q
  unfolding ended
  ended_stays = rw (ne_eqb q.refused 0 refused) refl

  -- so whatever bytes come after it change nothing
  refused_reads : (r : Reader Reading) (bs : List ℕ) → r.state ≡ q → reading_from r bs ≡ q
  refused_reads r bs e =
      ap ended (all_keep (λ (x : Reading). x ≡ q) (λ x l f. ap (λ (y : Reading). next y l) f ∙ next_stays l) r bs e) ∙ ended_stays

-- ---- the reading
pub both : (a b : Bool) → (a && b) ≡ true → (a ≡ true) × (b ≡ true)
both true b e = (refl, e)
both false b e = absurd (false≢true e)

-- nothing waits, and where the end was not taken there is a refusal
abbrev pub Done : State → Type 0
Done s = (s.gathered ≡ 0) × (s.read.run_left ≡ 0) × (s.closed ≡ false → s.read.refused ≢ None)

unfine : (b c : Bool) → (not b || c) ≡ true → c ≡ false → b ≡ false
unfine true c e f = absurd (true≢false (sym e ∙ f))
unfine false c e f = refl

pub over_so : (s : State) → over s ≡ true → Done s
unfolding over
over_so s e =
    let (none, f) = both (eqb s.gathered 0) _ e in
    let (left, g) = both (eqb s.read.run_left 0) _ f in (
      eqb-true s.gathered 0 none,
      eqb-true s.read.run_left 0 left,
      λ c. some_is s.read.refused (unfine (is_none s.read.refused) s.closed g c),
    )

module _ (bytes others line : List ℕ) (h : Held) (q : Reading) where
  reading_by : (c : Bool) → Bytes c bytes line h q → (c ≡ false → q.refused ≢ 0) → (c ≡ true → others ≡ []) → q ≡ reading_of (bytes ++ others)
  reading_by true e f g = e ∙ sym (read_by_bytes bytes) ∙ ap reading_of (sym (rw (g refl) (append-nil bytes)))
  reading_by false e f g =
      sym (cut_anywhere bytes others ∙ refused_reads q (f refl) (feed next unread bytes) others (ap (λ (r : Reader Reading). r.state) e))

module _ (bytes words : List ℕ) (w : World) (k : Kept bytes words w) (all : over w.state ≡ true) (others : List ℕ) (none : MayCome w others) where
  abbrev s : State
  s = w.state

  abbrev file : Reading
  file = reading_of (bytes ++ others)

  pub reading_so : k.reading ≡ file
  reading_so =
      reading_by bytes others w.line s.held k.reading s.closed k.read_so
      (λ c e. (over_so s all).2 c (k.holds.is.refused ∙ ap noted e)) none

  pub all_rows : words ≡ file_words (bytes ++ others)
  all_rows =
      let (waits, left, _) = over_so s all in
      all_stored _ _ _ _ _ _ _ _ _ _ _ k.holds waits left ∙ ap (λ (q : Reading). words_of (rows_of q.scenario)) reading_so

  pub refused_so : (s.read.refused ≡ noted file.refused) × (s.read.line ≡ file.line % counted_to)
  refused_so = rw (← reading_so) (k.holds.is.refused, k.holds.is.line)

  pub stands_so : s.stood ≡ true → listed (lent_in w) w.standing ≡ after_piece file.scenario.lent (at_first file.scenario) file.scenario.schedule
  stands_so there =
      let (waits, left, _) = over_so s all in
      rw (← reading_so) (all_stood _ _ _ _ _ _ _ _ _ _ _ k.holds waits left there)

  pub first_so_far : s.stood ≡ false → 3 ≤ stage_no file.scenario.stage
      → let r = s.read in
      listed (lent_in w) (first_of r.pred r.top r.first) ≡ after_piece file.scenario.lent (at_first file.scenario) file.scenario.schedule
  first_so_far fresh late =
      let (waits, left, _) = over_so s all in
      let stage = (lock_means _ _ _ _ _ k.holds.is).0 in
      let late' : 3 ≤ stage_no s.read.stage = subst (λ (x : Stage). 3 ≤ stage_no x) (ap (λ (q : Reading). q.scenario.stage) (sym reading_so) ∙ stage) late in
      rw (← reading_so) (all_first _ _ _ _ _ _ _ _ _ _ _ k.holds waits left fresh late')
