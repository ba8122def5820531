-- What every line keeps of a reading, all bytes that come keep; and after a run line only the schedule grows. Assumes nothing.
use Prim.Native.Nat.{ℕ, ◌+◌}
use mathlib.Core.Bool.{Bool, true, false, cond}
use mathlib.Core.Path.{◌≡◌, refl, ap, ◌∙◌}
use mathlib.Core.List.{List, [], ◌∷◌, ◌++◌, append_assoc}
use lib.Dec.{eqb, ltb}
use lib.ListN.{replicate}
use Rattle.machine.specs.Lists.{Lent}
use Rattle.scenario_lines.specs.Lines.{cr, lf}
use Rattle.scenario_lines.specs.Bytes.{add, Reader, reader, pushed, push, feed, last, ended as ended_by, finish}
use Rattle.scenario_lines.specs.Judge.{judge}
use Rattle.scenario_lines.specs.declared.Line.{Line}
use Rattle.scenario_lines.specs.declared.Line.TheVariants.{Broken, Header, BadNumber, Lock, Pred as PredLine, Op, Run, NoKind}
use Rattle.scenario.specs.Names.{wrong_line}
use Rattle.scenario.specs.Scenario.{Scenario, with_run, taken}
use Rattle.scenario.specs.Refused.{stage_no, refusal_of}
use Rattle.scenario.specs.Printed.{Reading, reading, next, ended}
use Rattle.scenario.specs.Pieces.{Standing as Listed, at_first}
use Rattle.scenario.specs.declared.Stage.TheVariants.{Runs as AtRuns}

-- ---- bytes that come
module _ (P : Reading → Type 0) (keeps : (q : Reading) (l : List ℕ) → P q → P (next q l)) where
  by_break : (c : Bool) (l : List ℕ) (s : Reading) (b : ℕ) → P s → P (cond c (reader l true s) (reader (add l b) false s)).state
  by_break true l s b h = h
  by_break false l s b h = h

  pushed_keeps : (held : Bool) (l : List ℕ) (s : Reading) (b : ℕ) → P s → P (pushed next held l s b).state
  pushed_keeps false l s b h = by_break (eqb b cr) l s b h
  pushed_keeps true l s b h = go (eqb b lf) (eqb b cr)
    where
      go : (c d : Bool) → P (cond c (reader [] false (next s l)) (cond d (reader (add l cr) true s) (reader (add (add l cr) b) false s))).state
      go true d = keeps s l h
      go false true = h
      go false false = h

  feed_keeps : (r : Reader Reading) (bs : List ℕ) → P r.state → P (feed next r bs).state
  unfolding feed
  feed_keeps r [] h = h
  feed_keeps r (b ∷ bs) h = feed_keeps (push next r b) bs (pushed_keeps r.held r.line r.state b h)

  last_keeps : (s : Reading) (l : List ℕ) → P s → P (ended_by next s l)
  last_keeps s [] h = h
  last_keeps s (b ∷ l) h = keeps s (b ∷ l) h

  pub all_keep : (r : Reader Reading) (bs : List ℕ) → P r.state → P (finish next (feed next r bs))
  all_keep r bs h = let f = feed next r bs in last_keeps f.state (last next f.held f.line) (feed_keeps r bs h)

-- ---- after a run line
data Onward (s : Scenario) : Scenario → Type 0 where
  same : Onward s s
  more : (t times : ℕ) → Onward s (with_run s t times)

run_or_not : (b : Bool) (s : Scenario) (t times : ℕ) → Onward s (cond b (with_run s t times) s)
run_or_not true s t times = Onward.more t times
run_or_not false s t times = Onward.same

same_either : (b : Bool) (s : Scenario) → Onward s (cond b s s)
same_either true s = Onward.same
same_either false s = Onward.same

line_onward : (s : Scenario) (l : Line) → s.stage ≡ AtRuns → Onward s (cond (eqb (refusal_of s l) 0) (taken s l) s)
unfolding refusal_of taken
line_onward s Broken e = Onward.same
line_onward s Header e = rw e Onward.same
line_onward s BadNumber e = same_either (eqb (refusal_of s BadNumber) 0) s
line_onward s (Lock top first threads) e = rw e Onward.same
line_onward s (PredLine kind a b) e = rw e Onward.same
line_onward s (Op t code value) e = rw e Onward.same
line_onward s (Run t times) e = run_or_not (eqb (refusal_of s (Run t times)) 0) s t times
line_onward s NoKind e = same_either (eqb (refusal_of s NoKind) 0) s

next_onward : (q : Reading) (l : List ℕ) → q.scenario.stage ≡ AtRuns → Onward q.scenario (next q l).scenario
unfolding next
next_onward q l e = go (eqb q.refused 0)
  where
    go : (b : Bool) → let s = q.scenario in let k = refusal_of s (judge l) in
        Onward s (cond b (reading (q.line + 1) k (cond (eqb k 0) (taken s (judge l)) s)) q).scenario
    go true = line_onward q.scenario (judge l) e
    go false = Onward.same

-- the scripts and the first standing stay, and the schedule goes on from `past`
pub record Grows (l : Lent) (p : Listed) (past : List ℕ) (s : Scenario) : Type 0 where
  pub stage : s.stage ≡ AtRuns
  pub lent : s.lent ≡ l
  pub first : at_first s ≡ p
  pub others : List ℕ
  pub schedule : s.schedule ≡ past ++ others

grows_on : (l : Lent) (p : Listed) (past : List ℕ) (s s' : Scenario) → Onward s s' → Grows l p past s → Grows l p past s'
grows_on l p past s s' Onward.same g = g
grows_on l p past s s' (Onward.more t times) g =
    let new = replicate times t in
    record {
      stage = refl;
      lent = g.lent;
      first = g.first;
      others = g.others ++ new;
      schedule = ap (λ (x : List ℕ). x ++ new) g.schedule ∙ append_assoc past g.others new;
    }

pub ended_same : (q : Reading) → (ended q).scenario ≡ q.scenario
unfolding ended
ended_same q = go (eqb q.refused 0) (ltb (stage_no q.scenario.stage) 3)
  where
    go : (b c : Bool) → (cond b (cond c (reading (q.line + 1) wrong_line q.scenario) q) q).scenario ≡ q.scenario
    go true true = refl
    go true false = refl
    go false c = refl

pub grows_always : (l : Lent) (p : Listed) (past : List ℕ) (r : Reader Reading) (bs : List ℕ) → Grows l p past r.state.scenario
    → Grows l p past (ended (finish next (feed next r bs))).scenario
grows_always l p past r bs g =
    rw (ended_same (finish next (feed next r bs)))
    (all_keep (λ (q : Reading). Grows l p past q.scenario) (λ q line h. grows_on l p past _ _ (next_onward q line h.stage) h) r bs g)
