-- The laws of the lent forms, from those of the machine's definitions.
use Prim.Native.Nat.{ℕ, ◌*◌, ◌<◌}
use mathlib.Core.Path.{◌≡◌, refl, ap, sym, ◌∙◌}
use mathlib.Core.Bool.{Bool, true, false, ◌||◌, cond}
use mathlib.Core.List.{List, [], ◌∷◌, ◌++◌}
use native.Mathlib.Omega.{arith}
use lib.Dec.{eqb}
use lib.ListN.{length, take, drop, take-append-drop}
use package.borrow.Author.Tests.{eqb-true, eqb-false, lt-ltb}
use Rattle.machine.specs.Names.{most_threads, unsound, row_words}
use Rattle.machine.specs.Refusals.{gives, lowest}
use Rattle.machine.specs.Lists.{Lent, scripts_of, list_checks}
use Rattle.machine.specs.Run.{entries, words_of, run_checks, run_refusal, run_lent}
use Rattle.machine.specs.Drain.{drain_refusal}
use Rattle.machine.specs.declared.Lock.{Lock}
use Rattle.machine.specs.declared.Rec.{Rec}
use Rattle.machine.specs.declared.Row.{Row}
use Rattle.machine.proofs.Refusals.{passed}
use Rattle.machine.proofs.RunRule.{refused_run_lem as of_run, pieces}
use Rattle.machine.proofs.RunLaws.{run_one}
use Rattle.machine.proofs.Ends.{refused_drain as of_drain}
use Rattle.machine.proofs.Setup.{refused_setup as of_setup}
use Rattle.lock.proofs.Refusing.{earlier, later, bad}
use Rattle.lock.proofs.Begins.{count_most}
use Rattle.lock_lent.specs.LentLaws.{RefusedSetup, RefusedRun, RefusedRest, RefusedStep, RefusedDrain, PastSixteen, SetupPastSixteen, OneEntry, LaterPiece}
use Rattle.lock_lent.proofs.AnyLength.{as_many}

-- ---- a refused call
pub refused_setup : RefusedSetup
refused_setup = of_setup

pub refused_run_lem : RefusedRun
refused_run_lem s L l schedule budget trace some =
    let r = of_run s L l schedule budget trace some in
    (λ i. record { refusal = r.0 i; n = r.1 i; done = r.2 i; lock = r.3 i }, r.4, r.5)

pub refused_rest : RefusedRest
refused_rest s L l schedule budget used trace some =
    let r = refused_run_lem s L l schedule budget (drop (row_words * used) trace) some in
    (r.0, r.1, ap (λ (t : List ℕ). take (row_words * used) trace ++ t) r.2 ∙ take-append-drop (row_words * used) trace)

pub refused_step : RefusedStep
refused_step s L l i trace = refused_run_lem s L l (i ∷ []) 1 trace

pub refused_drain : RefusedDrain
refused_drain s L l some = let r = of_drain s L l some in (λ i. record { refusal = r.0 i; n = r.1 i; lock = r.2 i }, r.3)

-- ---- more than sixteen records
either_true : (a b : Bool) → (a || (true || b)) ≡ true
either_true true b = refl
either_true false b = refl

module _ (s : Lent) (L : Lock) (l : List Rec) (many : most_threads < length l) where
  abbrev k : ℕ
  k = lowest (list_checks s (length l))

  abbrev refusal : ℕ
  refusal = cond (eqb k 0) unsound k

  run_past : run_refusal s L l ≡ refusal
  unfolding run_refusal lowest
  run_past = go (eqb k 0) refl
    where
      go : (b : Bool) → eqb k 0 ≡ b → run_refusal s L l ≡ cond b unsound k
      go false e = earlier (list_checks s (length l)) (gives unsound (bad s L l) ∷ []) (eqb-false k 0 e)
      go true e =
          let p = passed 0 (list_checks s (length l)) (omega arith) (eqb-true k 0 e) in
          later (list_checks s (length l)) (gives unsound (bad s L l) ∷ []) p
          ∙ rw (lt-ltb most_threads (length s.lens) (omega (arith, as_many s L (length l) p)), either_true) refl

  some : refusal ≡ 0 → ⊥
  some = go (eqb k 0) refl
    where
      go : (b : Bool) → eqb k 0 ≡ b → cond b unsound k ≡ 0 → ⊥
      go false e z = eqb-false k 0 e z
      go true e z = omega (arith, z)

  drain_past : drain_refusal s L l ≡ refusal
  unfolding drain_refusal run_refusal
  drain_past = earlier (run_checks s L l) _ (λ z. some (sym run_past ∙ z)) ∙ run_past

pub past_sixteen : PastSixteen
past_sixteen s L l many = (run_past s L l many, drain_past s L l many)

pub setup_past_sixteen : SetupPastSixteen
setup_past_sixteen q m v s l many none = omega (arith, many, count_most q m v s (length l) none)

-- ---- what is not refused
pub one_entry : OneEntry
unfolding run_lent
one_entry s L l i trace none room =
    let one : entries 1 (i ∷ []) trace ≡ 1 = omega (arith, room) in
    let (lock, recs, rows) = run_one (scripts_of s) L l i in
    rw (none, one) (refl, lock, recs, ap (λ (r : List Row). words_of r ++ drop row_words trace) rows)

pub later_piece : LaterPiece
later_piece = pieces
