-- In every row of a scenario file exc is 0 or 1 and rc is below 2 ^ 64, since rc is at most the lock's top, which was read as a number.
-- Assumes nothing.
use Prim.Native.Nat.{ℕ, ◌+◌, ◌^◌, ◌<◌, ◌≤◌}
use mathlib.Core.Bool.{Bool, true, false, ◌&&◌, not, cond}
use mathlib.Core.Path.{◌≡◌, refl}
use mathlib.Core.List.{List, [], ◌∷◌}
use native.Mathlib.Omega.{arith}
use borrow.Author.Tests.{ltb-true, ltb-false, eqb-true, not-false}
use lib.Dec.{eqb, ltb}
use lib.ListN.{length}
use Rattle.std.specs.Prelude.{Option, Some, None}
use Rattle.machine.specs.Words.{bit, unused}
use Rattle.machine.specs.Lists.{scripts_of}
use Rattle.machine.specs.Step.{Scripts, Left, answer, settle, step}
use Rattle.machine.specs.Sound.{Sound}
use Rattle.machine.specs.Setup.{fresh}
use Rattle.machine.specs.Run.{run}
use Rattle.machine.specs.declared.Lock.{Lock}
use Rattle.machine.specs.declared.Rec.{Rec}
use Rattle.std.specs.Prelude.{Err, Ok, Result}
use Rattle.machine.specs.declared.Did.{Did}
use Rattle.machine.proofs.Accesses.{others_stay}
use Rattle.machine.proofs.Runs.{setup_sound, step_keeps_sound}
use Rattle.machine.proofs.Setup.{admits}
use Rattle.scenario_lines.specs.Lines.{lines, across, whole}
use Rattle.scenario_lines.specs.Ascii.{bytes}
use Rattle.scenario_lines.specs.Bytes.{longest}
use Rattle.scenario_lines.specs.Number.{plainly, decimal, fits, number}
use Rattle.scenario_lines.specs.Judge.{header, equal, clean, fields, first, numbered, kinds, judge}
use Rattle.scenario_lines.specs.declared.Line.{Line}
use Rattle.scenario_lines.specs.declared.Line.TheVariants.{Broken, Header, BadNumber, Lock as LockLine, Pred as PredLine, Op, Run, NoKind}
use Rattle.scenario.specs.Names.{wrong_line}
use Rattle.scenario.specs.Scenario.{Scenario, taken}
use Rattle.scenario.specs.Refused.{stage_no, at, refusal_of}
use Rattle.scenario.specs.Setup.{Accepted}
use Rattle.scenario.specs.Printed.{Reading, reading, after_line, start, next, ended, rows_of, reading_of}
use Rattle.scenario.specs.declared.Stage.TheVariants.{Header as AtHeader, Lock as AtLock}
use Rattle.scenario.proofs.Setup.{passes, always_accepted}
use Rattle.vcd_rows.specs.Laws.{Fit, FileFits}

-- ---- a run
bit_small : (b : Bool) → bit b ≤ 1
bit_small true = omega arith
bit_small false = omega arith

-- a row tells the flag and the count after it
abbrev Shows : Left → Type 0
Shows left = (left.row.exc ≡ bit left.lock.exc) × (left.row.rc ≡ left.lock.rc.0)

shows : (S : Scripts) (L : Lock) (l : List Rec) (i : ℕ) → Shows (step S L l i)
unfolding step
shows S L l i = settled (answer S L l i)
  where
    settled : (out : Result Did ℕ) → Shows (settle L l i out)
    settled (Err k) = (refl, refl)
    settled (Ok d) = (refl, refl)

run_fits : (S : Scripts) (schedule : List ℕ) (L : Lock) (l : List Rec) → Sound S L l → L.top.0 < 2 ^ 64 → Fit (run S L l schedule).rows
unfolding run Fit
run_fits S [] L l h small = tt
run_fits S (i ∷ more) L l h small =
    let left = step S L l i in
    let after = step_keeps_sound S L l i h in
    let (exc, rc) = shows S L l i in
    let top : left.lock.top ≡ L.top = (others_stay S L l i).1 in
    let still : left.lock.top.0 < 2 ^ 64 = rw top small in
    (rw exc (bit_small left.lock.exc), omega (arith, rc, after.counts.most), run_fits S more left.lock left.recs after still)

-- ---- the top of a lock line
abbrev Below : Option ℕ → Type 0
Below None = Unit {0}
Below (Some v) = v < 2 ^ 64

abbrev TopBelow : Line → Type 0
TopBelow Broken = Unit {0}
TopBelow Header = Unit {0}
TopBelow BadNumber = Unit {0}
TopBelow (LockLine top first threads) = top < 2 ^ 64
TopBelow (PredLine kind a b) = Unit {0}
TopBelow (Op t code value) = Unit {0}
TopBelow (Run t times) = Unit {0}
TopBelow NoKind = Unit {0}

fits_below : (t : Bool) (v : ℕ) → ltb v (2 ^ 64) ≡ t → Below (cond t (Some v) None)
fits_below true v e = ltb-true v (2 ^ 64) e
fits_below false v e = tt

number_below : (l : List ℕ) → Below (number l)
unfolding number
number_below l = by_form (plainly l)
  where
    by_form : (t : Bool) → Below (cond t (fits (decimal 0 l)) None)
    by_form true = fits_below (ltb (decimal 0 l) (2 ^ 64)) (decimal 0 l) refl
    by_form false = tt

either_below : (t : Bool) (x y : Line) → TopBelow x → TopBelow y → TopBelow (cond t x y)
either_below true x y h g = h
either_below false x y h g = g

kinds_below : (k : List ℕ) (a b c : ℕ) → a < 2 ^ 64 → TopBelow (kinds k a b c)
unfolding kinds
kinds_below k a b c h =
    either_below (equal k (bytes "lock")) _ _ h
    (either_below (equal k (bytes "pred")) _ _ tt
    (either_below (equal k (bytes "op")) _ _ tt
    (either_below (equal k (bytes "run")) _ _ (either_below (ltb a 256 && (ltb 0 b && (ltb b 65536 && eqb c 0))) _ _ tt tt)
    tt)))

numbered_below : (k : List ℕ) (x y z : Option ℕ) → Below x → TopBelow (numbered k x y z)
numbered_below k None y z h = tt
numbered_below k (Some a) None z h = tt
numbered_below k (Some a) (Some b) None h = tt
numbered_below k (Some a) (Some b) (Some c) h = kinds_below k a b c h

first_below : (l : List (List ℕ)) → TopBelow (first l)
first_below [] = tt
first_below (k ∷ []) = tt
first_below (k ∷ a ∷ []) = tt
first_below (k ∷ a ∷ b ∷ []) = tt
first_below (k ∷ a ∷ b ∷ c ∷ []) = numbered_below k (number a) (number b) (number c) (number_below a)
first_below (k ∷ a ∷ b ∷ c ∷ d ∷ l) = tt

judge_below : (l : List ℕ) → TopBelow (judge l)
unfolding judge
judge_below l =
    either_below (equal l header) _ _ tt (either_below (ltb longest (length l)) _ _ tt (either_below (clean l) _ _ (first_below (fields l)) tt))

-- ---- what is read of a file: its top is below 2 ^ 64, and no run line comes before the pred line
abbrev Small : Scenario → Type 0
Small s = (s.top < 2 ^ 64) × (stage_no s.stage < 3 → s.schedule ≡ [])

-- a line that is not refused keeps this
keeps_small : (s : Scenario) (l : Line) → TopBelow l → Small s → refusal_of s l ≡ 0 → Small (taken s l)
unfolding refusal_of taken
keeps_small s Broken below (top, none) e = (top, none)
keeps_small s Header below (top, none) e =
    let stage = not-false (at s.stage AtHeader) (passes (not (at s.stage AtHeader)) false 0 e).0 in
    (top, λ h. none (omega (arith, eqb-true (stage_no s.stage) 0 stage)))
keeps_small s BadNumber below (top, none) e = (top, none)
keeps_small s (LockLine m v n) below (top, none) e =
    let stage = not-false (at s.stage AtLock) (passes false (not (at s.stage AtLock)) 0 e).1 in
    (below, λ h. none (omega (arith, eqb-true (stage_no s.stage) 1 stage)))
keeps_small s (PredLine kind a b) below (top, none) e = (top, λ h. absurd (omega arith))
keeps_small s (Op t code value) below (top, none) e = (top, none)
keeps_small s (Run t times) below (top, none) e = (top, λ h. absurd (omega arith))
keeps_small s NoKind below (top, none) e = (top, none)

either_small : (b : Bool) (s t : Scenario) → Small s → (b ≡ true → Small t) → Small (cond b t s)
either_small true s t small h = h refl
either_small false s t small h = small

next_small : (b : Bool) (r : Reading) (l : List ℕ) → Small r.scenario
    → Small (cond b (after_line (refusal_of r.scenario (judge l)) r.line r.scenario (taken r.scenario (judge l))) r).scenario
next_small true r l small =
    let s = r.scenario in
    let k = refusal_of s (judge l) in
    either_small (eqb k 0) s (taken s (judge l)) small (λ e. keeps_small s (judge l) (judge_below l) small (eqb-true k 0 e))
next_small false r l small = small

across_small : (ls : List (List ℕ)) (r : Reading) → Small r.scenario → Small (across next r ls).scenario
unfolding across next
across_small [] r small = small
across_small (l ∷ ls) r small = across_small ls (next r l) (next_small (eqb r.refused 0) r l small)

file_small : (file : List ℕ) → Small (whole next start file).scenario
file_small file = across_small (lines file) start (omega arith, λ h. refl)

-- ---- the rows
rows_fit : (s : Scenario) → s.top < 2 ^ 64 → Accepted s → Fit (rows_of s)
rows_fit s small a =
    let S = scripts_of s.lent in
    let (top, first) = admits s.pred s.top s.first s.lent s.threads a.none in
    run_fits S s.schedule (unused s.pred s.top s.first) (fresh s.threads)
    (setup_sound S s.pred s.top s.first s.threads top first) small

no_rows : (s : Scenario) → s.schedule ≡ [] → Fit (rows_of s)
unfolding run Fit
no_rows s e = rw e tt

by_stage : (b : Bool) (s : Scenario) → ltb (stage_no s.stage) 3 ≡ b → Small s → (3 ≤ stage_no s.stage → Accepted s) → Fit (rows_of s)
by_stage true s e (top, none) accepted = no_rows s (none (ltb-true (stage_no s.stage) 3 e))
by_stage false s e (top, none) accepted = rows_fit s top (accepted (ltb-false (stage_no s.stage) 3 e))

-- the end of the file adds nothing to what is read
ended_same : (r : Reading) → (ended r).scenario ≡ r.scenario
unfolding ended
ended_same r = by_tests (eqb r.refused 0) (ltb (stage_no r.scenario.stage) 3)
  where
    by_tests : (a b : Bool) → (cond a (cond b (reading (r.line + 1) wrong_line r.scenario) r) r).scenario ≡ r.scenario
    by_tests true true = refl
    by_tests true false = refl
    by_tests false b = refl

pub file_fits : FileFits
unfolding reading_of
file_fits file =
    let r = whole next start file in
    let s = r.scenario in
    rw (ended_same r) (by_stage (ltb (stage_no s.stage) 3) s refl (file_small file) (always_accepted file))
