-- What is printed at the end of a file is what the file prints: the reader has its scripts, and the lock and the records that its schedule leaves.
-- Assumes nothing.
use Prim.Native.Nat.{ℕ, zero, suc, ◌+◌, ◌%◌, ◌≤◌, min}
use native.Mathlib.Nat.{zero-add}
use mathlib.Core.Path.{◌≡◌, refl, sym, ap, subst, ◌∙◌}
use mathlib.Core.Bool.{Bool, true, false, cond}
use mathlib.Core.List.{List, ◌++◌}
use native.Mathlib.Omega.{arith}
use lib.Dec.{eqb, ltb, leb}
use lib.ListN.{length, length-take, length-replicate}
use lib.Seq.{sets}
use borrow.Author.Tests.{eqb-true, eqb-false, ltb-false, le-leb}
use Rattle.machine.specs.Lists.{Lent, scripts_of}
use Rattle.machine.specs.Words.{unused, unbegun}
use Rattle.machine.specs.Refusals.{Exact}
use Rattle.machine.specs.Setup.{fresh}
use Rattle.machine.specs.Run.{run}
use Rattle.machine.specs.When.{AtEntry}
use Rattle.machine.proofs.ExactEntry.{entry_exact}
use Rattle.machine.proofs.RunRule.{run_length}
use Rattle.lock.proofs.Begins.{count_most}
use Rattle.lock_promises.proofs.Reached.{Comes, runs_on}
use Rattle.scenario_lines.specs.Lines.{whole}
use Rattle.scenario_text.specs.Lines.{refusal}
use Rattle.scenario.specs.Names.{wrong_line, counted_to}
use Rattle.scenario.specs.Scenario.{Scenario}
use Rattle.scenario.specs.Refused.{stage_no, asked}
use Rattle.scenario.specs.Printed.{Reading, reading, start, next, ended, reading_of}
use Rattle.scenario.specs.Pieces.{Standing as Listed, at_first}
use Rattle.scenario.proofs.Setup.{always_accepted}
use Rattle.scenario_pieces.specs.Stands.{listed}
use Rattle.scenario_pieces.specs.declared.Standing.{Standing}
use Rattle.scenario_pieces.proofs.Stands.{scenario_stands}
use Rattle.scenario_read.specs.Feed.{World, lent_in, stop_of}
use Rattle.scenario_read.specs.declared.Stop.{Stop}
use Rattle.scenario_read.specs.declared.Stop.TheVariants.{Refused, Over}
use Rattle.scenario_promises.specs.Piped.{left_by_file, standing_in, ComesTo}
use Rattle.why.specs.Told.{why_refusal, told_lent}
use Rattle.std.specs.Prelude.{Result}
use Rattle.why.specs.declared.Reason.{Reason}
use Rattle.machine.specs.declared.Refusal.{Refusal}
use Rattle.why.proofs.Answers.{number_told}
use Rattle.why_code.proofs.Calls.{then_entry_of_list}
use Rattle.why_code.proofs.Laws.{as_lent}
use Rattle.why_prints.specs.Prints.{most_bytes, why_header, line_text, lines_text, answers_text, why_printed, told_at, answers_of, end_text}
use Rattle.why_prints.specs.Laws.{WhyByReader, WhyStored, FileAnswers}

-- ---- a file that is not refused has come to its pred line
late_by : (r : Reading) (b c : Bool) → eqb r.refused 0 ≡ b → ltb (stage_no r.scenario.stage) 3 ≡ c
    → let e = cond b (cond c (reading (r.line + 1) wrong_line r.scenario) r) r in (e.scenario ≡ r.scenario) × (e.refused ≡ 0 → 3 ≤ stage_no r.scenario.stage)
late_by r true true e f = (refl, λ z. absurd (omega arith))
late_by r true false e f = (refl, λ z. ltb-false (stage_no r.scenario.stage) 3 f)
late_by r false c e f = (refl, λ z. absurd (eqb-false r.refused 0 e z))

module _ (file : List ℕ) where
  abbrev read : Reading
  read = whole next start file

  abbrev s : Scenario
  s = (reading_of file).scenario

  same_scenario : s ≡ read.scenario
  unfolding reading_of ended
  same_scenario = (late_by read (eqb read.refused 0) (ltb (stage_no read.scenario.stage) 3) refl refl).0

  pub late : (reading_of file).refused ≡ 0 → 3 ≤ stage_no s.stage
  unfolding reading_of ended
  late z =
      subst (λ (x : Scenario). 3 ≤ stage_no x.stage) (sym same_scenario)
      ((late_by read (eqb read.refused 0) (ltb (stage_no read.scenario.stage) 3) refl refl).1 z)

  set_up : 3 ≤ stage_no s.stage → asked s ≡ 0
  set_up h =
      subst (λ (x : Scenario). asked x ≡ 0) (sym same_scenario)
      (always_accepted file (subst (λ (x : Scenario). 3 ≤ stage_no x.stage) same_scenario h)).none

  -- there are as many records as scripts, and sixteen at most
  sizes : 3 ≤ stage_no s.stage → (length (left_by_file file).recs ≡ length s.lent.lens) × (length s.lent.lens ≤ 16)
  sizes h =
      let (st, same) = scenario_stands s _ (set_up h) refl in
      let n = length s.lent.lens in (
        run_length (scripts_of s.lent) (at_first s).lock (at_first s).recs s.schedule
            ∙ ap (λ (p : Listed). length p.recs) (sym same)
            ∙ length-replicate n unbegun,
        count_most s.pred s.top s.first s.lent n st.accepted,
      )

-- ---- the lines
lines_same : (f g : ℕ → Result Reason Refusal) → ((t : ℕ) → f t ≡ g t) → (t c : ℕ) → lines_text f t c ≡ lines_text g t c
unfolding lines_text
lines_same f g h t zero = refl
lines_same f g h t (suc c) = λ i. line_text t (h t i) ++ lines_same f g h (t + 1) c i

-- with the records in the list, where there are so many, and sixteen at most
answers_same : (s : Lent) (q : Standing) → length (listed s q).recs ≡ length s.lens → length s.lens ≤ 16 → answers_of s q ≡ answers_text s (listed s q)
answers_same s q size few =
    let n = length s.lens in
    let enough : n ≤ length q.recs = omega (arith, size, length-take n q.recs) in
    let all : answers_of s q ≡ why_header ++ lines_text (told_at s q) 0 n = (λ i. why_header ++ lines_text (told_at s q) 0 (min_is i)) in
    all ∙ ap (λ (l : List ℕ). why_header ++ l) (lines_same (told_at s q) (told_lent s q.lock (listed s q).recs) (λ t. as_lent s n q.lock q.recs t enough) 0 n)
  where
    min_is : min (length s.lens) 16 ≡ length s.lens
    min_is = omega (arith, few)

module _ (file words : List ℕ) (w : World) (c : ComesTo file words w) where
  abbrev q : Standing
  q = standing_in w

  -- it is asked of what the schedule leaves
  at_end : (reading_of file).refused ≡ 0 → answers_text (reading_of file).scenario.lent (left_by_file file) ≡ answers_of (lent_in w) q
  at_end none =
      let h = late file none in
      let lent = c.scripts h in
      let left = c.stands h in
      let size = sizes file h in
      let n : length (lent_in w).lens ≡ length (reading_of file).scenario.lent.lens = ap (λ (x : Lent). length x.lens) lent in
      sym (answers_same (lent_in w) q (ap (λ (p : Listed). length p.recs) left ∙ size.0 ∙ sym n) (omega (arith, n, size.1))
      ∙ λ i. answers_text (lent i) (left i))

  by_refusal : (b : Bool) → eqb (reading_of file).refused 0 ≡ b
      → cond b (answers_text (reading_of file).scenario.lent (left_by_file file)) (refusal (reading_of file).refused ((reading_of file).line % counted_to))
      ≡ end_text (cond b Over (Refused (reading_of file).refused ((reading_of file).line % counted_to))) (lent_in w) q
  by_refusal true e = at_end (eqb-true (reading_of file).refused 0 e)
  by_refusal false e = refl

pub why_by_reader : WhyByReader
unfolding why_printed
why_by_reader file words w c room at = by_refusal file words w c (eqb (reading_of file).refused 0) refl ∙ ap (λ (x : Stop). end_text x (lent_in w) (standing_in w)) (sym (c.end room at))

pub why_stored : WhyStored
why_stored file words w c room at out enough =
    let text = end_text (stop_of w.state room at) (lent_in w) (standing_in w) in
    let same : text ≡ why_printed file = sym (why_by_reader file words w c room at) in
    let fits : leb (0 + most_bytes) (length out) ≡ true = le-leb (0 + most_bytes) (length out) (omega arith) in
    (rw (fits, zero-add (length text)) (ap length same), rw fits (ap (sets out 0) same))

-- ---- the answers of a file
pub file_answers : FileAnswers
file_answers file t none =
    let s = (reading_of file).scenario in
    let p = left_by_file file in
    let h = late file none in
    let comes : Comes s.lent s.pred s.top s.first (run (scripts_of s.lent) (unused s.pred s.top s.first) (fresh s.threads) s.schedule) =
    record { records = s.threads; schedule = s.schedule; accepted = set_up file h; is = refl } in
    let entry = then_entry_of_list s.lent p.lock p.recs t (runs_on s.lent s.pred s.top s.first comes) in
    subst (Exact (AtEntry (scripts_of s.lent) p.lock p.recs t)) (sym (number_told s.lent p.lock p.recs t (why_refusal s.lent p.lock p.recs t) entry ∙ entry))
    (entry_exact (scripts_of s.lent) p.lock p.recs t)
