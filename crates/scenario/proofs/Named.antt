-- What is read of a file is what its lines name, line after line; and so the rows that it prints are those of what they name. Assumes
-- nothing.
use Prim.Native.Nat.{ℕ, zero, suc, ◌+◌, ◌<◌, ◌≤◌}
use mathlib.Core.Bool.{Bool, true, false, ◌||◌, not, cond, false≢true}
use mathlib.Core.Path.{◌≡◌, refl, sym, ap, subst, subst⁻¹, ◌∙◌}
use mathlib.Core.List.{List, [], ◌∷◌, ◌++◌, map, append-nil, append_assoc}
use mathlib.Core.Logic.{◌≢◌}
use native.Mathlib.Nat.{zero-add}
use native.Mathlib.Omega.{arith}
use borrow.Author.Tests.{leb-false, ltb-false, eqb-true, eqb-false, ne_eqb, not-false}
use lib.Dec.{eqb, ltb, leb}
use lib.ListN.{length, get_or, take, replicate, length-append}
use Rattle.cell.specs.Pred.{permits, good, of_kind}
use Rattle.cell.specs.declared.pred.Pred.TheVariants.{Parity}
use Rattle.std.specs.Prelude.{None, Option, Some}
use Rattle.cell.specs.declared.pred.Pred.{Pred}
use Rattle.machine.specs.Names.{thread_count, top_is_zero, bad_predicate, first_value}
use Rattle.machine.specs.Words.{unused}
use Rattle.machine.specs.Lists.{Lent, scripts_of}
use Rattle.machine.specs.ListLaws.{lent_for}
use Rattle.machine.specs.Setup.{fresh}
use Rattle.machine.specs.Run.{run}
use Rattle.machine.specs.declared.Row.{Row}
use Rattle.scenario_text.specs.Lines.{header}
use Rattle.scenario_lines.specs.Lines.{lines, across}
use Rattle.scenario_lines.specs.Judge.{judge}
use Rattle.scenario_lines.specs.declared.Line.{Line}
use Rattle.scenario_lines.specs.declared.Line.TheVariants.{Broken, Header, BadNumber, Lock, Pred as PredLine, Op, Run, NoKind}
use Rattle.scenario.specs.declared.Stage.{Stage}
use Rattle.scenario.specs.declared.Stage.TheVariants.{Header as AtHeader, Lock as AtLock, Pred as AtPred, Ops as AtOps, Runs as AtRuns}
use Rattle.scenario.specs.Names.{wrong_line}
use Rattle.scenario.specs.Scenario.{Scenario, pred_of, with_pred, with_op, with_run, taken}
use Rattle.scenario.specs.Refused.{stage_no, at, broken, misplaced, asked, setup_number, refusal_of}
use Rattle.scenario.specs.Printed.{Reading, reading, after_line, next, ended, start, rows_of, rows_text, refusal_text, output, reading_of, rows_in, printed}
use Rattle.scenario.specs.Setup.{Accepted}
use Rattle.scenario.specs.Named.{scripts_from, entries_of, no_line, op_line, run_line, NamedBy, taken_of, AsNamed, TakenBefore, rows_named, RowsAsNamed, NoRow, PrintsNamed, PrintsNoRow}
use Rattle.scenario.proofs.PredLine.{of_pred}
use Rattle.scenario.proofs.Scripts.{scripts_run, lent_op, lent_none, entries_append}
use Rattle.scenario.proofs.Setup.{passes, neither, keeps_accepted}

-- no op line and no run line was read
abbrev NoneYet : Scenario → Type 0
NoneYet s = (s.schedule ≡ []) × (s.thread ≡ 0)

-- what is read, by its stage: the lines so far, and what they name
abbrev So : List Line → Scenario → Stage → Type 0
So ls s AtHeader = (ls ≡ []) × NoneYet s
So ls s AtLock = (ls ≡ Header ∷ []) × NoneYet s
So ls s AtPred = (ls ≡ Header ∷ Lock s.top s.first s.threads ∷ []) × NoneYet s
So ls s AtOps = NamedBy ls s
So ls s AtRuns = NamedBy ls s

-- the stage that is tested for is the stage
unfoldable stage_of : ℕ → Stage
stage_of zero = AtHeader
stage_of (suc zero) = AtLock
stage_of (suc (suc zero)) = AtPred
stage_of (suc (suc (suc zero))) = AtOps
stage_of (suc (suc (suc (suc k)))) = AtRuns

numbered : (p : Stage) → stage_of (stage_no p) ≡ p
unfolding stage_of
numbered AtHeader = refl
numbered AtLock = refl
numbered AtPred = refl
numbered AtOps = refl
numbered AtRuns = refl

at_is : (p q : Stage) → at p q ≡ true → p ≡ q
at_is p q e = sym (numbered p) ∙ ap stage_of (eqb-true (stage_no p) (stage_no q) e) ∙ numbered q

at_not : (p q : Stage) → not (at p q) ≡ false → p ≡ q
at_not p q e = at_is p q (not-false (at p q) e)

-- ---- one line more, by its kind
module _ (ls : List Line) (s : Scenario) where
  -- what is read, at a stage that is known
  so_at : (q : Stage) → s.stage ≡ q → So ls s s.stage → So ls s q
  so_at q e so = subst (λ (p : Stage). So ls s p) e so

  so_header : So ls s AtHeader → (ls ++ (Header ∷ []) ≡ Header ∷ []) × NoneYet s
  so_header so = (rw so.0, so.1)

  so_lock : (m v n : ℕ) → So ls s AtLock → (ls ++ (Lock m v n ∷ []) ≡ Header ∷ Lock m v n ∷ []) × NoneYet s
  so_lock m v n so = (rw so.0, so.1)

  -- a kind that names no predicate is refused
  refused_3 : (a b permitted : Bool)
      → cond a thread_count (cond b top_is_zero (cond (good (Parity 2)) (cond permitted 0 first_value) bad_predicate)) ≡ 0 → ⊥
  unfolding good
  refused_3 true b permitted e = omega (arith, e)
  refused_3 false true permitted e = omega (arith, e)
  refused_3 false false permitted e = omega (arith, e)

  so_known : (named : Option Pred) → asked (with_pred s (pred_of named)) ≡ 0 → named ≡ Some (pred_of named)
  so_known (Some q) none = refl
  so_known None none =
      absurd (refused_3 (eqb s.threads 0 || ltb 16 s.threads) (eqb s.top 0) (permits (Parity 2) s.first) (sym (of_pred s (Parity 2)) ∙ none))

  so_pred : (kind a b : ℕ) → So ls s AtPred → asked (with_pred s (pred_of (of_kind kind a b))) ≡ 0
      → NamedBy (ls ++ (PredLine kind a b ∷ [])) (with_pred s (pred_of (of_kind kind a b)))
  unfolding entries_of
  so_pred kind a b so none =
      record {
        kind = kind;
        a = a;
        b = b;
        more = [];
        lines = rw so.0;
        pred = so_known (of_kind kind a b) none;
        in_order = rw so.1.1 no_line;
        scripts = sym (lent_none s.threads);
        schedule = so.1.0;
      }

  -- ---- after the pred line
  so_op : NamedBy ls s → (t code value : ℕ) → s.stage ≡ AtOps → Accepted s → t < s.threads → s.thread ≤ t
      → NamedBy (ls ++ (Op t code value ∷ [])) (with_op s t code value)
  unfolding entries_of
  so_op named t code value stage accepted h g =
      let more = named.more in
      let later : (i : ℕ) → t < i → get_or (lent_for (scripts_from 0 s.threads more)).lens i 0 ≡ 0 =
      λ i k. ap (λ (l : Lent). get_or l.lens i 0) (sym named.scripts) ∙ accepted.later i (omega arith)
      in
      record {
        kind = named.kind;
        a = named.a;
        b = named.b;
        more = more ++ (Op t code value ∷ []);
        lines = rw named.lines;
        pred = named.pred;
        in_order = rw stage (op_line (rw stage at named.in_order) t code value g h);
        scripts = rw named.scripts (sym (lent_op s.threads t code value more h later));
        schedule = named.schedule ∙ sym (entries_append more (Op t code value ∷ []) ∙ append-nil (entries_of more));
      }

  so_run : NamedBy ls s → (t times : ℕ) → NamedBy (ls ++ (Run t times ∷ [])) (with_run s t times)
  unfolding entries_of
  so_run named t times =
      let more = named.more in
      let entries = entries_append more (Run t times ∷ []) ∙ ap (λ (es : List ℕ). entries_of more ++ es) (append-nil (replicate times t)) in
      record {
        kind = named.kind;
        a = named.a;
        b = named.b;
        more = more ++ (Run t times ∷ []);
        lines = rw named.lines;
        pred = named.pred;
        in_order = run_line named.in_order t times;
        scripts = named.scripts ∙ ap lent_for (sym (scripts_run 0 s.threads t times more));
        schedule = rw named.schedule (sym entries);
      }

  named_at : (p : Stage) → 3 ≤ stage_no p → So ls s p → NamedBy ls s
  named_at AtHeader h so = absurd (omega arith)
  named_at AtLock h so = absurd (omega arith)
  named_at AtPred h so = absurd (omega arith)
  named_at AtOps h so = so
  named_at AtRuns h so = so

  none_at : (p : Stage) → stage_no p ≤ 2 → So ls s p → s.schedule ≡ []
  none_at AtHeader h so = so.1.0
  none_at AtLock h so = so.1.0
  none_at AtPred h so = so.1.0
  none_at AtOps h so = absurd (omega arith)
  none_at AtRuns h so = absurd (omega arith)

abbrev Read : List Line → Scenario → Type 0
Read ls s = So ls s s.stage × (3 ≤ stage_no s.stage → Accepted s)

-- any line that is not refused
so_line : (ls : List Line) (s : Scenario) (l : Line) → Read ls s → refusal_of s l ≡ 0 → So (ls ++ (l ∷ [])) (taken s l) (taken s l).stage
unfolding refusal_of taken
so_line ls s Broken r e = absurd (omega (arith, e))
so_line ls s Header r e =
    so_header ls s (so_at ls s AtHeader (at_not s.stage AtHeader (passes (broken s.stage Header) false 0 e).0) r.0)
so_line ls s BadNumber r e = absurd (false≢true (sym (passes (broken s.stage BadNumber) true 0 e).1))
so_line ls s (Lock m v n) r e =
    so_lock ls s m v n (so_at ls s AtLock (at_not s.stage AtLock (passes false (misplaced s (Lock m v n)) 0 e).1) r.0)
so_line ls s (PredLine kind a b) r e =
    let p = passes false (misplaced s (PredLine kind a b)) (setup_number s (PredLine kind a b)) e in
    so_pred ls s kind a b (so_at ls s AtPred (at_not s.stage AtPred p.1) r.0) p.2
so_line ls s (Op t code value) r e =
    let p = passes false (misplaced s (Op t code value)) (setup_number s (Op t code value)) e in
    let n = neither (at s.stage AtOps) (leb s.threads t) (ltb t s.thread) p.1 in
    let stage = at_is s.stage AtOps n.0 in
    let late : 3 ≤ stage_no s.stage = omega (arith, eqb-true (stage_no s.stage) 3 n.0) in
    let named = named_at ls s s.stage late r.0 in
    let more = so_op ls s named t code value stage (r.1 late) (leb-false s.threads t n.1) (ltb-false t s.thread n.2) in
    subst⁻¹ (λ (p : Stage). So (ls ++ (Op t code value ∷ [])) (with_op s t code value) p) stage more
so_line ls s (Run t times) r e =
    let late = ltb-false (stage_no s.stage) 3 (passes false (misplaced s (Run t times)) 0 e).1 in
    so_run ls s (named_at ls s s.stage late r.0) t times
so_line ls s NoKind r e = absurd (false≢true (sym (passes false true 0 e).1))

-- ---- all lines
-- a refused reading stays as it is
stays : (ls : List (List ℕ)) (r : Reading) → r.refused ≢ 0 → across next r ls ≡ r
unfolding across next
stays [] r some = refl
stays (l ∷ ls) r some = rw (ne_eqb r.refused 0 some) (stays ls r some)

-- from a reading on that is not refused, with the lines so far: how many more are taken, and what is then read
pub record Goes (done : List Line) (ls : List (List ℕ)) (r : Reading) : Type 0 where
  pub more : ℕ
  pub count : taken_of r ≡ length done + more
  pub read : Read (done ++ map judge (take more ls)) r.scenario
  -- a refusal is that of the next line, which is counted but not taken
  pub refused : r.refused ≢ 0
      → (r.line ≡ length done + more + 1) × (more < length ls) × (refusal_of r.scenario (judge (get_or ls more [])) ≡ r.refused)
  pub whole : r.refused ≡ 0 → (more ≡ length ls) × (r.line ≡ length done + more)

module _ (done : List Line) (l : List ℕ) (ls : List (List ℕ)) (line : ℕ) (s : Scenario) (counted : line ≡ length done) (r : Read done s) where
  -- the line is refused, and nothing after it is read
  goes_refused : (k : ℕ) → refusal_of s (judge l) ≡ k → k ≢ 0 → Goes done (l ∷ ls) (across next (reading (line + 1) k s) ls)
  goes_refused k is some =
      rw (stays ls (reading (line + 1) k s) some)
      (record {
        more = 0;
        count = rw (ne_eqb k 0 some) (omega arith);
        read = subst (λ (taken : List Line). Read taken s) (sym (append-nil done)) r;
        refused = λ e. (omega arith, omega arith, is);
        whole = λ none. absurd (some none);
      })

  goes_on : Goes (done ++ (judge l ∷ [])) ls (across next (reading (line + 1) 0 (taken s (judge l))) ls)
      → Goes done (l ∷ ls) (across next (reading (line + 1) 0 (taken s (judge l))) ls)
  goes_on g =
      record {
        more = suc g.more;
        count = g.count ∙ omega (arith, length-append done (judge l ∷ []));
        read = rw (append_assoc done (judge l ∷ []) (map judge (take g.more ls))) at g.read;
        refused = λ some.
            let (line, there, is) = g.refused some in
            (line ∙ omega (arith, length-append done (judge l ∷ [])), omega arith, is);
        whole = λ none. let (all, line) = g.whole none in (omega arith, line ∙ omega (arith, length-append done (judge l ∷ [])));
      }

  -- by whether it is refused
  goes_by : ((s' : Scenario) → Read (done ++ (judge l ∷ [])) s' → Goes (done ++ (judge l ∷ [])) ls (across next (reading (line + 1) 0 s') ls))
      → (b : Bool) → eqb (refusal_of s (judge l)) 0 ≡ b
      → Goes done (l ∷ ls) (across next (after_line (refusal_of s (judge l)) line s (taken s (judge l))) ls)
  goes_by after true e =
      let none = eqb-true (refusal_of s (judge l)) 0 e in
      rw none (goes_on (after (taken s (judge l)) (so_line done s (judge l) r none, keeps_accepted s (judge l) r.1 none)))
  goes_by after false e = rw e (goes_refused (refusal_of s (judge l)) refl (eqb-false (refusal_of s (judge l)) 0 e))

goes : (ls : List (List ℕ)) (done : List Line) (line : ℕ) (s : Scenario) → line ≡ length done → Read done s → Goes done ls (across next (reading line 0 s) ls)
unfolding across next
goes [] done line s counted r =
    record {
      more = 0;
      count = omega arith;
      read = subst (λ (taken : List Line). Read taken s) (sym (append-nil done)) r;
      refused = λ some. absurd (some refl);
      whole = λ none. (refl, omega arith);
    }
goes (l ∷ ls) done line s counted r =
    goes_by done l ls line s counted r
    (λ s' r'. goes ls (done ++ (judge l ∷ [])) (line + 1) s' (omega (arith, counted, length-append done (judge l ∷ []))) r')
    (eqb (refusal_of s (judge l)) 0) refl

pub from_start : (file : List ℕ) → Goes [] (lines file) (across next start (lines file))
from_start file = goes (lines file) [] 0 start.scenario refl ((refl, (refl, refl)), λ h. absurd (omega arith))

-- all lines are counted from the first on
pub taken_all : (file : List ℕ) → taken_of (across next start (lines file)) ≡ (from_start file).more
taken_all file = let g = from_start file in g.count ∙ zero-add g.more

all_read : (file : List ℕ) → let r = across next start (lines file) in Read (map judge (take (taken_of r) (lines file))) r.scenario
all_read file = rw (taken_all file) (from_start file).read

pub as_named : AsNamed
as_named file late =
    let s = (across next start (lines file)).scenario in
    named_at (map judge (take (taken_of (across next start (lines file))) (lines file))) s s.stage late (all_read file).0

pub taken_before : TakenBefore
taken_before file =
    let s = (across next start (lines file)).scenario in
    let ls = map judge (take (taken_of (across next start (lines file))) (lines file)) in
    (λ e. (so_at ls s AtHeader e (all_read file).0).0, λ e. (so_at ls s AtLock e (all_read file).0).0, λ e. (so_at ls s AtPred e (all_read file).0).0)

-- ---- what is printed
rows_named_lem : {ls : List Line} {s : Scenario} (named : NamedBy ls s) → rows_of s ≡ rows_named named
rows_named_lem {ls} {s} named = λ i.
    (run (scripts_of (named.scripts i)) (unused s.pred s.top s.first) (fresh s.threads) (named.schedule i)).rows

-- the end of the file leaves what is read
end_leaves : (r : Reading) → (ended r).scenario ≡ r.scenario
unfolding ended
end_leaves r = go (eqb r.refused 0) (ltb (stage_no r.scenario.stage) 3)
  where
    go : (a b : Bool) → (cond a (cond b (reading (r.line + 1) wrong_line r.scenario) r) r).scenario ≡ r.scenario
    go true true = refl
    go true false = refl
    go false b = refl

pub rows_as_named : RowsAsNamed
unfolding reading_of
rows_as_named file named = ap rows_of (end_leaves (across next start (lines file))) ∙ rows_named_lem named

pub no_row : NoRow
unfolding reading_of run
no_row file early =
    let r = across next start (lines file) in
    let s = r.scenario in
    let none = none_at (map judge (take (taken_of r) (lines file))) s s.stage early (all_read file).0 in
    ap rows_of (end_leaves r)
    ∙ ap (λ (es : List ℕ). (run (scripts_of s.lent) (unused s.pred s.top s.first) (fresh s.threads) es).rows) none

prints : (file : List ℕ) (rows : List Row) → rows_in file ≡ rows
    → printed file ≡ header ++ (rows_text 0 rows ++ refusal_text (ended (across next start (lines file))))
unfolding printed output reading_of
prints file rows e =
    ap (λ (all : List Row). header ++ (rows_text 0 all ++ refusal_text (ended (across next start (lines file))))) e

pub prints_named : PrintsNamed
prints_named file named = prints file (rows_named named) (rows_as_named file named)

pub prints_no_row : PrintsNoRow
unfolding rows_text
prints_no_row file early = prints file [] (no_row file early)
