-- Setup's numbers where the lines are read: at the pred line, at an op line, and that what is read is always accepted. Assumes nothing.
use Prim.Native.Nat.{ℕ, ◌+◌, ◌≤◌}
use mathlib.Core.Bool.{Bool, true, false, ◌||◌, not, cond, false≢true}
use mathlib.Core.Path.{◌≡◌, refl, sym, ◌∙◌}
use mathlib.Core.List.{List, [], ◌∷◌}
use native.Mathlib.Omega.{arith}
use borrow.Author.Tests.{lt-ltb, le-ltb, ltb-false, eqb-true, ne_eqb}
use lib.Dec.{eqb, ltb, leb}
use lib.ListN.{length, get_or, length-set}
use lib.Seq.{get_or-set_other}
use Rattle.cell.specs.Pred.{permits, good}
use Rattle.cell.specs.declared.pred.Pred.{Pred}
use Rattle.machine.specs.Names.{thread_count, top_is_zero, bad_predicate, first_value, most_threads, longest_script}
use Rattle.machine.specs.Refusals.{Check, gives, lowest}
use Rattle.machine.specs.Lists.{Lent, wrong, list_checks}
use Rattle.machine.specs.Setup.{setup_checks, setup_refusal}
use Rattle.machine.proofs.Refusals.{passed}
use Rattle.scenario.specs.Scenario.{Scenario, lent_with, with_op, taken}
use Rattle.scenario_lines.specs.Lines.{lines, across}
use Rattle.scenario_lines.specs.Judge.{judge}
use Rattle.scenario_lines.specs.declared.Line.TheVariants.{Broken, Header, BadNumber, Lock, Pred as PredLine, Op, Run, NoKind}
use Rattle.scenario.specs.declared.Stage.TheVariants.{Ops as AtOps}
use Rattle.scenario.specs.Printed.{Reading, after_line, next, start}
use Rattle.scenario.specs.Refused.{stage_no, at, misplaced, asked, setup_number, refusal_of}
use Rattle.scenario.specs.Setup.{AtPredLine, UnknownKind, Accepted, AtOpLine, KeepsAccepted, AlwaysAccepted}
use Rattle.scenario.proofs.Adds.{none_there}
use Rattle.scenario.proofs.OpAdded.{fine, answers}
use Rattle.scenario.proofs.PredLine.{of_pred, of_line}

first_four : {a b c d : Bool} (more : List Check) → a ≡ false → b ≡ false → c ≡ false → d ≡ false
    → lowest (gives thread_count a ∷ gives top_is_zero b ∷ gives bad_predicate c ∷ gives first_value d ∷ more) ≡ lowest more
unfolding lowest
first_four more a b c d = rw (a, b, c, d)

-- setup's own four checks look at the number of scripts alone
four_pass : (q : Pred) (m v : ℕ) (l l' : Lent) (threads : ℕ) → length l'.lens ≡ length l.lens → setup_refusal q m v l threads ≡ 0
    → setup_refusal q m v l' threads ≡ lowest (list_checks l' threads)
unfolding setup_refusal
four_pass q m v l l' threads e none =
    let p = passed 0 (setup_checks q m v l threads) (omega arith) none in
    first_four (list_checks l' threads) (rw e p.0) p.1.0 p.1.1.0 p.1.1.1.0

pub at_op_line : AtOpLine
at_op_line s t code value a h g =
    let l = s.lent in
    let f = fine s.pred s.top s.first l s.threads a.none in
    four_pass s.pred s.top s.first l (lent_with l t code value) s.threads (length-set l.lens t (get_or l.lens t 0 + 1)) a.none
    ∙ answers l s.threads f t code value (omega (arith, f.counted)) (λ i k. a.later i (omega arith))
    (leb longest_script (get_or l.lens t 0)) (wrong code value) refl refl

-- ---- the pred line
at_most : (a b fine permitted : Bool) → cond a thread_count (cond b top_is_zero (cond fine (cond permitted 0 first_value) bad_predicate)) ≤ first_value
at_most true b fine permitted = omega arith
at_most false true fine permitted = omega arith
at_most false false false permitted = omega arith
at_most false false true false = omega arith
at_most false false true true = omega arith

pub at_pred_line : AtPredLine
at_pred_line s q =
    rw (of_pred s q) (at_most (eqb s.threads 0 || ltb most_threads s.threads) (eqb s.top 0) (good q) (permits q s.first))

pub unknown_kind : UnknownKind
unknown_kind s kind a b k some few top =
    of_line s kind a b
    ∙ rw (ne_eqb s.threads 0 (λ z. omega arith), le-ltb most_threads s.threads few, ne_eqb s.top 0 (λ z. omega arith), lt-ltb 2 kind k)

-- ---- whatever is read is accepted
abbrev Kept : Scenario → Type 0
Kept s = 3 ≤ stage_no s.stage → Accepted s

pub passes : (b m : Bool) (k : ℕ) → cond b 31 (cond m 32 k) ≡ 0 → (b ≡ false) × (m ≡ false) × (k ≡ 0)
passes true m k e = absurd (omega arith)
passes false true k e = absurd (omega arith)
passes false false k e = (refl, refl, e)

pub neither : (a b c : Bool) → (not a || (b || c)) ≡ false → (a ≡ true) × (b ≡ false) × (c ≡ false)
neither true false false e = (refl, refl, refl)
neither true true c e = absurd (false≢true (sym e))
neither true false true e = absurd (false≢true (sym e))
neither false b c e = absurd (false≢true (sym e))

kept_op : (s : Scenario) (t code value : ℕ) → Kept s → misplaced s (Op t code value) ≡ false → asked (with_op s t code value) ≡ 0 → Accepted (with_op s t code value)
kept_op s t code value kept fits none =
    let n = neither (at s.stage AtOps) (leb s.threads t) (ltb t s.thread) fits in
    let a = kept (omega (arith, eqb-true (stage_no s.stage) 3 n.0)) in
    record {
      none = none;
      later = λ i h.
          get_or-set_other s.lent.lens t i (get_or s.lent.lens t 0 + 1) 0 (λ e. omega arith)
          ∙ a.later i (omega (arith, ltb-false t s.thread n.2));
    }

pub keeps_accepted : KeepsAccepted
unfolding refusal_of taken
keeps_accepted s Broken kept e = kept
keeps_accepted s Header kept e = λ h. absurd (omega arith)
keeps_accepted s BadNumber kept e = kept
keeps_accepted s (Lock m v n) kept e = λ h. absurd (omega arith)
keeps_accepted s (PredLine kind a b) kept e =
    let p = passes false (misplaced s (PredLine kind a b)) (setup_number s (PredLine kind a b)) e in
    λ h. record { none = p.2; later = λ i g. none_there s.threads i }
keeps_accepted s (Op t code value) kept e =
    let p = passes false (misplaced s (Op t code value)) (setup_number s (Op t code value)) e in
    λ h. kept_op s t code value kept p.1 p.2
keeps_accepted s (Run t times) kept e =
    let p = passes false (misplaced s (Run t times)) 0 e in
    let a = kept (ltb-false (stage_no s.stage) 3 p.1) in
    λ h. record { none = a.none; later = a.later }
keeps_accepted s NoKind kept e = kept

kept_by : (b : Bool) (s t : Scenario) → Kept s → (b ≡ true → Kept t) → Kept (cond b t s)
kept_by true s t kept h = h refl
kept_by false s t kept h = kept

kept_next : (b : Bool) (r : Reading) (l : List ℕ) → Kept r.scenario
    → Kept (cond b (after_line (refusal_of r.scenario (judge l)) r.line r.scenario (taken r.scenario (judge l))) r).scenario
kept_next true r l kept =
    let s = r.scenario in
    let k = refusal_of s (judge l) in
    kept_by (eqb k 0) s (taken s (judge l)) kept (λ e. keeps_accepted s (judge l) kept (eqb-true k 0 e))
kept_next false r l kept = kept

kept_across : (ls : List (List ℕ)) (r : Reading) → Kept r.scenario → Kept (across next r ls).scenario
unfolding across next
kept_across [] r kept = kept
kept_across (l ∷ ls) r kept = kept_across ls (next r l) (kept_next (eqb r.refused 0) r l kept)

pub always_accepted : AlwaysAccepted
always_accepted file = kept_across (lines file) start (λ h. absurd (omega arith))
