-- How a line may be judged; so no line adds more than 65,535 entries. Assumes nothing.
use Rattle.std.specs.Option.{is_none}
use Prim.Native.Nat.{ℕ, ◌<◌, ◌≤◌}
use mathlib.Core.Bool.{Bool, true, false, ◌&&◌, cond}
use mathlib.Core.Path.{◌≡◌, refl}
use mathlib.Core.List.{List, [], ◌∷◌}
use native.Mathlib.Omega.{arith}
use borrow.Author.Tests.{ltb-true}
use lib.Dec.{eqb, ltb}
use lib.ListN.{length}
use Rattle.std.specs.Prelude.{Option, Some, None}
use Rattle.scenario_lines.specs.Ascii.{bytes}
use Rattle.scenario_lines.specs.Bytes.{longest}
use Rattle.scenario_lines.specs.Number.{number}
use Rattle.scenario_lines.specs.Judge.{header, equal, clean, fields, runs, kinds, numbered, fourth, third, second, first, judge}
use Rattle.scenario_lines.specs.declared.Line.{Line}
use Rattle.scenario_lines.specs.declared.Line.TheVariants.{Broken, Header, BadNumber, Lock, Pred as PredLine, Op, Run, NoKind}
use Rattle.scenario.specs.Names.{wrong_line}
use Rattle.scenario.specs.Refused.{stage_no}
use Rattle.scenario_stages.specs.Kept.{run_left, refusal_at, taken_by, refused_by, on_line, at_end}
use Rattle.scenario_stages.specs.declared.Read.{Read}
use Rattle.scenario_promises.specs.Whole.{most_times}
use Rattle.scenario_promises.proofs.Ends.{both}

-- ---- what a line says
-- what holds of each way that a line may be judged, where a run line has its number of times, holds of every line
module _
    (P : Line → Type 0) (broken : P Broken) (heading : P Header) (bad_number : P BadNumber) (lock : (a b c : ℕ) → P (Lock a b c))
    (pred : (a b c : ℕ) → P (PredLine a b c)) (op : (a b c : ℕ) → P (Op a b c)) (run : (t n : ℕ) → 0 < n → n ≤ most_times → P (Run t n))
    (no_kind : P NoKind) where
  either : (b : Bool) (l m : Line) → P l → P m → P (cond b l m)
  either true l m h g = h
  either false l m h g = g

  runs_by : (a b c : ℕ) → P (runs a b c)
  runs_by a b c = go (ltb a 256 && (ltb 0 b && (ltb b 65536 && eqb c 0))) refl
    where
      go : (d : Bool) → (ltb a 256 && (ltb 0 b && (ltb b 65536 && eqb c 0))) ≡ d → P (cond d (Run a b) BadNumber)
      go true e =
          let (some, others) = both (ltb 0 b) _ (both (ltb a 256) _ e).1 in
          run a b (ltb-true 0 b some) (omega (arith, ltb-true b 65536 (both (ltb b 65536) _ others).0))
      go false e = bad_number

  kinds_by : (k : List ℕ) (a b c : ℕ) → P (kinds k a b c)
  unfolding kinds
  kinds_by k a b c =
      either (equal k (bytes "lock")) (Lock a b c) _ (lock a b c)
      (either (equal k (bytes "pred")) (PredLine a b c) _ (pred a b c)
      (either (equal k (bytes "op")) (Op a b c) _ (op a b c)
      (either (equal k (bytes "run")) (runs a b c) NoKind (runs_by a b c) no_kind)))

  numbered_by : (k : List ℕ) (a b c : Option ℕ) → P (numbered k a b c)
  numbered_by k None b c = bad_number
  numbered_by k (Some a) None c = bad_number
  numbered_by k (Some a) (Some b) None = bad_number
  numbered_by k (Some a) (Some b) (Some c) = kinds_by k a b c

  fourth_by : (k : List ℕ) (a b : Option ℕ) (l : List (List ℕ)) → P (fourth k a b l)
  fourth_by k a b [] = broken
  fourth_by k a b (c ∷ []) = numbered_by k a b (number c)
  fourth_by k a b (c ∷ d ∷ l) = broken

  third_by : (k : List ℕ) (a : Option ℕ) (l : List (List ℕ)) → P (third k a l)
  third_by k a [] = broken
  third_by k a (b ∷ l) = fourth_by k a (number b) l

  second_by : (k : List ℕ) (l : List (List ℕ)) → P (second k l)
  second_by k [] = broken
  second_by k (a ∷ l) = third_by k (number a) l

  first_by : (l : List (List ℕ)) → P (first l)
  first_by [] = broken
  first_by (k ∷ l) = second_by k l

  pub judge_by : (l : List ℕ) → P (judge l)
  unfolding judge
  judge_by l =
      either (equal l header) Header _ heading
      (either (ltb longest (length l)) Broken _ broken (either (clean l) (first (fields l)) Broken (first_by (fields l)) broken))

abbrev Few : Line → Type 0
Few l = run_left l ≤ most_times

judge_few : (l : List ℕ) → Few (judge l)
judge_few =
    judge_by Few (omega arith) (omega arith) (omega arith) (λ a b c. omega arith) (λ a b c. omega arith) (λ a b c. omega arith) (λ t n some most. most)
    (omega arith)

-- ---- what is kept after it, and after the end of the input
taken_few : (b e : Bool) (r : Read) (l : Line) (k : ℕ) → r.run_left ≤ most_times → Few l
    → (cond b (cond e (taken_by r l) (refused_by r k)) r).run_left ≤ most_times
taken_few true true r l k h g = g
taken_few true false r l k h g = omega arith
taken_few false e r l k h g = h

pub line_few : (r : Read) (l lens : List ℕ) → r.run_left ≤ most_times → (on_line r (judge l) lens).run_left ≤ most_times
unfolding on_line
line_few r l lens h =
    let k = refusal_at r lens (judge l) in
    taken_few (is_none r.refused) (eqb k 0) r (judge l) k h (judge_few l)

ended_few : (b c : Bool) (r : Read) → r.run_left ≤ most_times → (cond b (cond c (refused_by r wrong_line) r) r).run_left ≤ most_times
ended_few true true r h = omega arith
ended_few true false r h = h
ended_few false c r h = h

-- the last line, if there is one, and the end
pub end_few : (d : Bool) (r : Read) (l lens : List ℕ) → r.run_left ≤ most_times
    → (at_end (cond d (on_line r (judge l) lens) r)).run_left ≤ most_times
unfolding at_end
end_few true r l lens h =
    let s = on_line r (judge l) lens in
    ended_few (is_none s.refused) (ltb (stage_no s.stage) 3) s (line_few r l lens h)
end_few false r l lens h = ended_few (is_none r.refused) (ltb (stage_no r.stage) 3) r h
