-- What is kept after a line that is not refused means the scenario that has taken it: part by part. Assumes nothing.
use Rattle.std.proofs.Common.{◌≡◌, ℕ, suc, ◌+◌, ◌<◌, ◌≤◌, false, ltb, leb, List, [], ◌∷◌, ◌++◌, length, get_or, take, set, sym, refl, ap, ◌∙◌, arith, length-append, length-set, get_or-take, take-suc-set, ltb-false, leb-false}
use lib.Seq.{take-set-lt}
use Rattle.machine.specs.Lists.{Lent, lists}
use Rattle.scenario_lines.specs.declared.Line.{Line}
use Rattle.scenario_lines.specs.declared.Line.TheVariants.{Broken, Header, BadNumber, Lock, Pred as PredLine, Op, Run, NoKind}
use Rattle.scenario.specs.Scenario.{Scenario, lent_with, with_op, taken}
use Rattle.scenario.specs.Refused.{stage_no, at, misplaced, setup_number, refusal_of}
use Rattle.scenario.specs.Printed.{Reading}
use Rattle.scenario.specs.declared.Stage.TheVariants.{Ops as AtOps}
use Rattle.scenario.proofs.Setup.{passes, neither}
use Rattle.scenario_stages.specs.declared.Read.{Read}
use Rattle.scenario_stages.specs.Kept.{outline, counted_on, taken_by, lens_with, ops_with, vals_with}
use Rattle.scenario_stages.specs.Means.{most_ops, Room, bare, Means}
use Rattle.scenario_stages.proofs.Clears.{clears_first, clears_length}
use Rattle.scenario_stages.proofs.Few.{few}

-- what a line adds looks at neither the lists nor the schedule
bare_taken : (s : Scenario) (l : Line) → bare (taken (bare s) l) ≡ bare (taken s l)
unfolding taken
bare_taken s Broken = refl
bare_taken s Header = refl
bare_taken s BadNumber = refl
bare_taken s (Lock top first threads) = refl
bare_taken s (PredLine kind a b) = refl
bare_taken s (Op t code value) = refl
bare_taken s (Run t times) = refl
bare_taken s NoKind = refl

lists_alike : {a a' b b' c c' : List ℕ} → a ≡ a' → b ≡ b' → c ≡ c' → lists a b c ≡ lists a' b' c'
lists_alike a b c = rw (a, b, c)

one_more : (n : ℕ) → n < most_ops → counted_on n ≡ suc n
one_more n h = omega arith

-- a word stored at place n, with the words before it
stored_last : (words : List ℕ) (n x : ℕ) → n < most_ops → most_ops ≤ length words → take n words ++ (x ∷ []) ≡ take (counted_on n) (set words n x)
stored_last words n x h room = rw (one_more n h) (sym (take-suc-set words n x (omega arith)))

module _ (r : Read) (lens ops vals : List ℕ) (q : Reading) (m : Means r lens ops vals q) where
  pub outlined_then : (l : Line) → outline (taken_by r l) ≡ bare (taken q.scenario l)
  outlined_then l = ap (λ (s : Scenario). bare (taken s l)) m.outlined ∙ bare_taken q.scenario l

  threads_same : r.threads ≡ q.scenario.threads
  threads_same = ap (λ (s : Scenario). s.threads) m.outlined

  -- ---- an op line that is not refused
  module _ (t code value : ℕ) (none : refusal_of q.scenario (Op t code value) ≡ 0) where
    count_below : r.count < most_ops
    unfolding refusal_of taken
    count_below =
        let s = q.scenario in
        let p = passes false (misplaced s (Op t code value)) (setup_number s (Op t code value)) none in
        let f = few (with_op s t code value) p.2 in
        let e = length-append s.lent.ops (code ∷ []) in
        omega (arith, f.2, m.counted)

    thread_below : t < r.threads
    unfolding refusal_of
    thread_below =
        let s = q.scenario in
        let p = passes false (misplaced s (Op t code value)) (setup_number s (Op t code value)) none in
        let n = neither (at s.stage AtOps) (leb s.threads t) (ltb t s.thread) p.1 in
        omega (arith, leb-false s.threads t n.1, threads_same)

    op_lent : 3 ≤ stage_no q.scenario.stage
        → lent_with q.scenario.lent t code value
        ≡ lists (take r.threads (set lens t (get_or lens t 0 + 1))) (take (counted_on r.count) (set ops r.count code)) (take (counted_on r.count) (set vals r.count value))
    op_lent h =
        ap (λ (l : Lent). lent_with l t code value) (m.lent h)
        ∙ lists_alike
        (rw (get_or-take r.threads lens t 0 thread_below) (sym (take-set-lt r.threads lens t (get_or lens t 0 + 1) thread_below)))
        (stored_last ops r.count code count_below m.room.1)
        (stored_last vals r.count value count_below m.room.2)

  -- ---- a pred line that is not refused
  pred_lent : (kind a b : ℕ) → refusal_of q.scenario (PredLine kind a b) ≡ 0
      → (taken q.scenario (PredLine kind a b)).lent ≡ lists (take r.threads (lens_with r (PredLine kind a b) lens)) (take 0 ops) (take 0 vals)
  unfolding refusal_of taken
  pred_lent kind a b none =
      let s = q.scenario in
      let p = passes false (misplaced s (PredLine kind a b)) (setup_number s (PredLine kind a b)) none in
      let f = few (taken s (PredLine kind a b)) p.2 in
      lists_alike (rw (← threads_same) (sym (clears_first r.threads lens (omega (arith, f.1, threads_same, m.room.0))))) refl refl

  -- ---- every line
  pub lent_then : (l : Line) → refusal_of q.scenario l ≡ 0 → 3 ≤ stage_no (taken q.scenario l).stage
      → (taken q.scenario l).lent
      ≡ lists (take (taken_by r l).threads (lens_with r l lens)) (take (taken_by r l).count (ops_with r l ops)) (take (taken_by r l).count (vals_with r l vals))
  unfolding taken refusal_of
  lent_then Broken none h = m.lent h
  lent_then Header none h = absurd (omega arith)
  lent_then BadNumber none h = m.lent h
  lent_then (Lock top first threads) none h = absurd (omega arith)
  lent_then (PredLine kind a b) none h = pred_lent kind a b none
  lent_then (Op t code value) none h = op_lent t code value none h
  lent_then (Run t times) none h =
      let p = passes false (misplaced q.scenario (Run t times)) 0 none in
      m.lent (ltb-false (stage_no q.scenario.stage) 3 p.1)
  lent_then NoKind none h = m.lent h

  pub counted_then : (l : Line) → refusal_of q.scenario l ≡ 0 → (taken_by r l).count ≡ length (taken q.scenario l).lent.ops
  unfolding taken
  counted_then Broken none = m.counted
  counted_then Header none = m.counted
  counted_then BadNumber none = m.counted
  counted_then (Lock top first threads) none = m.counted
  counted_then (PredLine kind a b) none = refl
  counted_then (Op t code value) none =
      let below = count_below t code value none in
      omega (arith, length-append q.scenario.lent.ops (code ∷ []), m.counted)
  counted_then (Run t times) none = m.counted
  counted_then NoKind none = m.counted

  pub room_then : (l : Line) → Room (lens_with r l lens) (ops_with r l ops) (vals_with r l vals)
  room_then Broken = m.room
  room_then Header = m.room
  room_then BadNumber = m.room
  room_then (Lock top first threads) = m.room
  room_then (PredLine kind a b) = rw (clears_length r.threads lens) m.room
  room_then (Op t code value) = rw (length-set lens t (get_or lens t 0 + 1), length-set ops r.count code, length-set vals r.count value) m.room
  room_then (Run t times) = m.room
  room_then NoKind = m.room
