-- What the code keeps means what a reading has: at the start, after each line, at the end, and for whoever runs the entries. Assumes nothing.
use Rattle.std.specs.Option.{is_none}
use Rattle.scenario_stages.proofs.Noted.{none_noted, noted_some, told}
use Rattle.std.proofs.Common.{◌≡◌, ℕ, ◌+◌, ◌%◌, Bool, true, false, cond, ◌&&◌, eqb, ltb, List, ◌++◌, replicate, sym, refl, ap, ◌∙◌, append-nil, arith, eqb-true, Some}
use Rattle.scenario_lines.specs.Judge.{judge}
use Rattle.scenario_lines.specs.declared.Line.{Line}
use Rattle.scenario_lines.specs.declared.Line.TheVariants.{Broken, Header, BadNumber, Lock, Pred as PredLine, Op, Run, NoKind}
use Rattle.scenario.specs.Names.{wrong_line, counted_to}
use Rattle.scenario.specs.Scenario.{Scenario, taken}
use Rattle.scenario.specs.Refused.{stage_no, refusal_of}
use Rattle.scenario.specs.Printed.{Reading, reading, next, ended}
use Rattle.scenario.proofs.Setup.{keeps_accepted}
use Rattle.scenario_stages.specs.declared.Read.{Read}
use Rattle.scenario_stages.specs.Kept.{refusal_at, run_thread, run_left, taken_by, refused_by, after_line, on_line, lens_with, ops_with, vals_with, lens_after, ops_after, vals_after, at_end}
use Rattle.scenario_stages.specs.Means.{Means, BeginMeans, LineMeans, EndMeans, EntriesApart, LentMeans, LockMeans, RefusalMeans, noted}
use Rattle.scenario_stages.proofs.Few.{few}
use Rattle.scenario_stages.proofs.Alike.{refuses_alike}
use Rattle.scenario_stages.proofs.Grows.{outlined_then, lent_then, counted_then, room_then}

pub begin_means : BeginMeans
begin_means lens ops vals room =
    record {
      line = refl;
      refused = refl;
      outlined = refl;
      counted = refl;
      lent = λ h. absurd (omega arith);
      accepted = λ h. absurd (omega arith);
      room = room;
    }

schedule_then : (s : Scenario) (l : Line) → (taken s l).schedule ≡ s.schedule ++ replicate (run_left l) (run_thread l)
unfolding taken
schedule_then s Broken = sym (append-nil s.schedule)
schedule_then s Header = sym (append-nil s.schedule)
schedule_then s BadNumber = sym (append-nil s.schedule)
schedule_then s (Lock top first threads) = sym (append-nil s.schedule)
schedule_then s (PredLine kind a b) = sym (append-nil s.schedule)
schedule_then s (Op t code value) = sym (append-nil s.schedule)
schedule_then s (Run t times) = refl
schedule_then s NoKind = sym (append-nil s.schedule)

module _ (r : Read) (lens ops vals : List ℕ) (q : Reading) (m : Means r lens ops vals q) where
  refused_means : (k : ℕ) → Some k ≡ noted k → Means (refused_by r k) lens ops vals (reading (q.line + 1) k q.scenario)
  refused_means k some =
      record {
        line = omega (arith, m.line);
        refused = some;
        outlined = m.outlined;
        counted = m.counted;
        lent = m.lent;
        accepted = m.accepted;
        room = m.room;
      }

  taken_means : (l : Line) (k : ℕ) → k ≡ 0 → refusal_of q.scenario l ≡ 0
      → Means (taken_by r l) (lens_with r l lens) (ops_with r l ops) (vals_with r l vals) (reading (q.line + 1) k (taken q.scenario l))
  taken_means l k z none =
      record {
        line = omega (arith, m.line);
        refused = rw z refl;
        outlined = outlined_then r lens ops vals q m l;
        counted = counted_then r lens ops vals q m l none;
        lent = lent_then r lens ops vals q m l none;
        accepted = keeps_accepted q.scenario l m.accepted none;
        room = room_then r lens ops vals q m l;
      }

  -- by whether a line was refused before, and whether this one is
  line_by : (b e : Bool) (l : Line) (k : ℕ) → eqb k 0 ≡ e → k ≡ refusal_of q.scenario l → r.run_left ≡ 0
      → let s = cond b (cond e (taken_by r l) (refused_by r k)) r in
      let q' = cond b (reading (q.line + 1) k (cond e (taken q.scenario l) q.scenario)) q in
      Means s (cond (b && e) (lens_with r l lens) lens) (cond (b && e) (ops_with r l ops) ops) (cond (b && e) (vals_with r l vals) vals) q'
      × (q'.scenario.schedule ≡ q.scenario.schedule ++ replicate s.run_left s.run_thread)
  line_by false e l k z w left = (m, rw left (sym (append-nil q.scenario.schedule)))
  line_by true true l k z w left = (taken_means l k (eqb-true k 0 z) (sym w ∙ eqb-true k 0 z), schedule_then q.scenario l)
  line_by true false l k z w left = (refused_means k (noted_some k z), sym (append-nil q.scenario.schedule))

  -- the same, where the code's tests and the definition's agree
  line_of : (b : Bool) (l : Line) (k : ℕ) → b ≡ eqb q.refused 0 → k ≡ refusal_of q.scenario l → r.run_left ≡ 0
      → let s = cond b (after_line k r l) r in
      let e = b && eqb k 0 in
      let k' = refusal_of q.scenario l in
      let q' = cond (eqb q.refused 0) (reading (q.line + 1) k' (cond (eqb k' 0) (taken q.scenario l) q.scenario)) q in
      Means s (cond e (lens_with r l lens) lens) (cond e (ops_with r l ops) ops) (cond e (vals_with r l vals) vals) q'
      × (q'.scenario.schedule ≡ q.scenario.schedule ++ replicate s.run_left s.run_thread)
  line_of b l k f g left =
      let k' = refusal_of q.scenario l in
      rw (f, g) (line_by (eqb q.refused 0) (eqb k' 0) l k' refl refl left)

  end_by : (b b' c c' : Bool) → b ≡ b' → c ≡ c'
      → let q' = cond b' (cond c' (reading (q.line + 1) wrong_line q.scenario) q) q in
      Means (cond b (cond c (refused_by r wrong_line) r) r) lens ops vals q' × (q'.scenario ≡ q.scenario)
  end_by b false c c' e f = rw e (m, refl)
  end_by b true c false e f = rw (e, f) (m, refl)
  end_by b true c true e f = rw (e, f) (refused_means wrong_line refl, refl)

pub line_means : LineMeans
unfolding on_line lens_after ops_after vals_after next
line_means r lens ops vals q l m left =
    line_of r lens ops vals q m (is_none r.refused) (judge l) (refusal_at r lens (judge l))
    (ap is_none m.refused ∙ none_noted q.refused)
    (refuses_alike r lens ops vals q m (judge l))
    left

pub end_means : EndMeans
unfolding at_end ended
end_means r lens ops vals q m =
    end_by r lens ops vals q m _ _ _ _
    (ap is_none m.refused ∙ none_noted q.refused)
    (ap (λ (s : Scenario). ltb (stage_no s.stage) 3) m.outlined)

-- ---- what whoever runs the entries needs
pub entries_apart : EntriesApart
entries_apart r lens ops vals q t times m =
    record {
      line = m.line;
      refused = m.refused;
      outlined = m.outlined;
      counted = m.counted;
      lent = m.lent;
      accepted = m.accepted;
      room = m.room;
    }

pub lent_means : LentMeans
lent_means r lens ops vals q m h =
    let stage = ap (λ (s : Scenario). stage_no s.stage) m.outlined in
    let threads = ap (λ (s : Scenario). s.threads) m.outlined in
    let a = m.accepted (omega arith) in
    let f = few q.scenario a.none in
    (m.lent (omega arith), a, omega arith, omega arith, omega (arith, m.counted))

pub lock_means : LockMeans
lock_means r lens ops vals q m =
    let e = sym m.outlined in (
      ap (λ (s : Scenario). s.stage) e,
      ap (λ (s : Scenario). s.pred) e,
      ap (λ (s : Scenario). s.top) e,
      ap (λ (s : Scenario). s.first) e,
      ap (λ (s : Scenario). s.threads) e,
    )

pub refusal_means : RefusalMeans
refusal_means r lens ops vals q m = rw (m.refused, m.line) (told q.refused (q.line % counted_to))
