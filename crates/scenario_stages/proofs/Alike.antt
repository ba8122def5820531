-- The code's tests refuse a line as the scenario's definition does. Assumes nothing.
use Rattle.std.proofs.Common.{◌≡◌, ℕ, Bool, true, false, cond, ltb, leb, List, get_or, sym, refl, ap, ◌∙◌, arith, get_or-take, ltb-false, eqb-true, leb-false}
use Rattle.machine.specs.Lists.{Lent}
use Rattle.scenario_lines.specs.declared.Line.{Line}
use Rattle.scenario_lines.specs.declared.Line.TheVariants.{Broken, Header, BadNumber, Lock, Pred as PredLine, Op, Run, NoKind}
use Rattle.scenario.specs.Names.{wrong_line}
use Rattle.scenario.specs.Scenario.{Scenario, with_op, taken}
use Rattle.scenario.specs.Refused.{stage_no, at, misplaced, asked, refusal_of}
use Rattle.scenario.specs.Printed.{Reading}
use Rattle.scenario.specs.declared.Stage.TheVariants.{Ops as AtOps}
use Rattle.scenario.proofs.Setup.{neither, at_op_line}
use Rattle.scenario_stages.specs.declared.Read.{Read}
use Rattle.scenario_stages.specs.Kept.{op_number, refusal_in, refusal_at}
use Rattle.scenario_stages.specs.Means.{bare, Means}

module _ (r : Read) (lens ops vals : List ℕ) (q : Reading) (m : Means r lens ops vals q) where
  -- a thread's length, of the list and of the scenario
  pub length_alike : (t : ℕ) → leb q.scenario.threads t ≡ false → at q.scenario.stage AtOps ≡ true → get_or q.scenario.lent.lens t 0 ≡ get_or lens t 0
  length_alike t h e =
      let threads : r.threads ≡ q.scenario.threads = ap (λ (s : Scenario). s.threads) m.outlined in
      let stage = eqb-true (stage_no q.scenario.stage) 3 e in
      let below = leb-false q.scenario.threads t h in
      ap (λ (l : Lent). get_or l.lens t 0) (m.lent (omega arith)) ∙ get_or-take r.threads lens t 0 (omega arith)

  op_alike : (t code value : ℕ) → misplaced q.scenario (Op t code value) ≡ false → op_number (get_or lens t 0) code value ≡ asked (with_op q.scenario t code value)
  op_alike t code value e =
      let s = q.scenario in
      let n = neither (at s.stage AtOps) (leb s.threads t) (ltb t s.thread) e in
      let stage = eqb-true (stage_no s.stage) 3 n.0 in
      rw (← length_alike t n.1 n.0)
      (sym (at_op_line s t code value (m.accepted (omega arith)) (leb-false s.threads t n.1) (ltb-false t s.thread n.2)))

  where_placed : (b : Bool) (t code value : ℕ) → misplaced q.scenario (Op t code value) ≡ b
      → cond b wrong_line (op_number (get_or lens t 0) code value) ≡ cond b wrong_line (asked (with_op q.scenario t code value))
  where_placed true t code value e = refl
  where_placed false t code value e = op_alike t code value e

  of_bare : (l : Line) → refusal_in (bare q.scenario) lens l ≡ refusal_of q.scenario l
  unfolding refusal_of taken
  of_bare Broken = refl
  of_bare Header = refl
  of_bare BadNumber = refl
  of_bare (Lock top first threads) = refl
  of_bare (PredLine kind a b) = refl
  of_bare (Op t code value) = where_placed (misplaced q.scenario (Op t code value)) t code value refl
  of_bare (Run t times) = refl
  of_bare NoKind = refl

  pub refuses_alike : (l : Line) → refusal_at r lens l ≡ refusal_of q.scenario l
  refuses_alike l = ap (λ (s : Scenario). refusal_in s lens l) m.outlined ∙ of_bare l
