-- One entry of the drain order, on the lock and the own record alone: a tidy thread's operation fits, and every way of the table
-- that the order takes brings a measure down.
use Prim.Native.Nat.{ℕ, zero, suc, ◌+◌, ◌-◌, ◌*◌, ◌<◌, ◌≤◌}
use mathlib.Core.Path.{◌≡◌, refl, ap, ◌∙◌}
use mathlib.Core.Bool.{true}
use native.Mathlib.Omega.{arith}
use package.borrow.Author.Tests.{ltb-false, eqb-false}
use Rattle.cell.specs.Pred.{permits}
use Rattle.cell.specs.declared.pred.Pred.{Pred}
use Rattle.machine.specs.Names.{acquire_write, drop_handle, into_inner}
use Rattle.machine.specs.Words.{bit, is_at}
use Rattle.machine.specs.Step.{fits, busy_of, unread}
use Rattle.machine.specs.Move.{Move, by_load_below, by_load_full, by_try_done, by_try_lost, by_check_clear, by_check_set, back, lend, release, by_exc_done, by_exc_lost, into_done, into_lost, by_wait_done, by_wait_more, take, take_last, put, store, drop_read, drop_write}
use Rattle.machine.specs.Sound.{is_into, Tally, Counts, Kept}
use Rattle.machine.specs.Tidy.{Mode, InWrite, mode_of, Rest, ends, reads, lends, returns, writes, puts, Clean, price, cost_from, cost}
use Rattle.machine.specs.declared.Did.{Did}
use Rattle.machine.specs.declared.Lock.{Lock}
use Rattle.machine.specs.declared.Rec.{Rec}
use Rattle.machine.specs.declared.Place.{Place}
use Rattle.machine.specs.declared.Place.TheVariants.{Idle, ReadTry, ReadCheck, ReadBack, Reading, WriteWait, WriteTake, Writing, WritePut}
use Rattle.machine.proofs.Keep.{bit_true, bit_false, moved, weighed}
use Rattle.machine.proofs.TidyLaws.{rest_small}

ruleset tests = (arith, bit_true, bit_false)

-- ---- what a tidy rest says of the operation at hand
module _ (q : Pred) (n : ℕ) (ops vals : ℕ → ℕ) where
  pub rest_permits : {at : ℕ} → Rest q n ops vals InWrite at → permits q (vals at) ≡ true
  rest_permits (puts h e ok t) = ok

  -- at WriteWait and WriteTake it is 4, since it is not 7
  writes_only : {m : Mode} {at : ℕ} → at < n → Rest q n ops vals m at → ops at ≡ acquire_write + (into_inner - acquire_write) * is_into (ops at)
      → ops at ≡ acquire_write
  writes_only lt t e = omega (arith, rest_small q n ops vals lt t)

  -- it fits the place
  pub suits : (top : ℕ) (r : Rec) (p : Place) → Rest q n ops vals (mode_of p) r.at → Kept q top n (ops r.at) r p → r.at < n → fits p (ops r.at) ≡ true
  unfolding fits
  suits top r Idle (ends h) k m = absurd (omega arith)
  suits top r Idle (reads h e t) k m = rw e
  suits top r Idle (writes h e t) k m = rw e
  suits top r ReadTry t k m = rw k.1
  suits top r ReadCheck t k m = rw k.1
  suits top r ReadBack t k m = rw k.1
  suits top r Reading (lends h e t) k m = rw e
  suits top r Reading (returns h e t) k m = rw e
  suits top r WriteWait t k m = rw (writes_only m t k.1)
  suits top r WriteTake t k m = rw (writes_only m t k.1)
  suits top r Writing (puts h e ok t) k m = rw e
  suits top r WritePut t k m = rw k.1

  -- a thread that is not Idle is not at its script's end
  pub unfinished : (top : ℕ) (r : Rec) (p : Place) → Rest q n ops vals (mode_of p) r.at → Kept q top n (ops r.at) r p → busy_of (moved r p) ≡ 1
      → r.at < n
  unfinished top r Idle t k b = absurd (omega arith)
  unfinished top r ReadTry t k b = k.0
  unfinished top r ReadCheck t k b = k.0
  unfinished top r ReadBack t k b = k.0
  unfinished top r Reading (lends h e t) k b = h
  unfinished top r Reading (returns h e t) k b = h
  unfinished top r WriteWait t k b = k.0
  unfinished top r WriteTake t k b = k.0
  unfinished top r Writing (puts h e ok t) k b = h
  unfinished top r WritePut t k b = k.0

-- ---- the measure
pub cost_next : (ops : ℕ → ℕ) (n at : ℕ) → at < n → cost ops n at ≡ price (ops at) + cost ops n (at + 1)
unfolding cost cost_from
cost_next ops n at h = go (n - at) refl
  where
    go : (left : ℕ) → n - at ≡ left → cost_from ops at (n - at) ≡ price (ops at) + cost_from ops (at + 1) (n - (at + 1))
    go zero e = absurd (omega arith)
    go (suc m) e =
        let f : n - (at + 1) ≡ m = omega arith in
        rw (e, f) refl

-- what a place adds to the plain cost of the rest: 2 at Idle, more where the operation may still be given up, as many as its
-- entries are less than its cost where it is under way
abbrev pub up : Place → ℕ
up Idle = 2
up ReadTry = 5
up ReadCheck = 4
up ReadBack = 3
up Reading = 2
up WriteWait = 1
up WriteTake = 0
up Writing = 2
up WritePut = 1

-- the same for a thread that steps alone, which gives nothing up
abbrev pub up' : Place → ℕ
up' Idle = 2
up' ReadTry = 1
up' ReadCheck = 0
up' ReadBack = 0
up' Reading = 2
up' WriteWait = 1
up' WriteTake = 0
up' Writing = 2
up' WritePut = 1

-- what is ahead of a record
abbrev pub ahead : (Place → ℕ) → (ℕ → ℕ) → ℕ → Rec → ℕ
ahead up ops n r = up r.place + cost ops n r.at

-- what a thread that steps alone meets: it saw 0, and gives no count back
abbrev pub Alone : Rec → Type 0
Alone r = is_at ReadBack r + is_at ReadTry r * r.seen.0 ≡ 0

-- no other record is inside an operation that the lock counts, or holds a handle
abbrev pub Still : Tally → Type 0
Still R = R.check + R.back + R.reading + R.wait + R.take + R.writing + R.put ≡ 0

module _ (i : ℕ) (L : Lock) (n : ℕ) (ops : ℕ → ℕ) (r : Rec) (v : ℕ) (more : r.at < n) (small : ops r.at < drop_handle) where
  -- the operation k at hand is done
  done : {k : ℕ} → ops r.at ≡ k → cost ops n r.at ≡ price k + cost ops n (r.at + 1)
  done e = cost_next ops n r.at more ∙ ap (λ (o : ℕ). price o + cost ops n (r.at + 1)) e

  -- a thread that is not Idle, and at WriteWait only if the count is 0; it does not come to WriteWait
  pub falls : (p : Place) (d : Did) → Move i L r (ops r.at) v p d → busy_of (moved r p) ≡ 1 → is_at WriteWait (moved r p) ≤ bit (unread L)
      → (ahead up ops n d.rec < ahead up ops n (moved r p)) × (is_at WriteWait d.rec ≤ is_at WriteWait (moved r p))
  falls p d (by_load_below e t) b w = omega arith
  falls p d (by_load_full e t) b w = omega arith
  falls p d (by_try_done e t) b w = omega arith
  falls p d (by_try_lost e t) b w = omega arith
  falls p d (by_check_clear e t) b w = omega (arith, done e)
  falls p d (by_check_set e t) b w = omega arith
  falls p d (back e) b w = omega arith
  falls p d (lend e) b w = omega (arith, done e)
  falls p d (release e) b w = omega (arith, done e)
  falls p d (by_exc_done e t) b w = omega arith
  falls p d (by_exc_lost e t) b w = omega arith
  falls p d (into_done e t) b w = omega arith
  falls p d (into_lost e t) b w = omega arith
  falls p d (by_wait_done e t) b w = omega arith
  falls p d (by_wait_more e t) b w = omega tests
  falls p d (take e) b w = omega (arith, done e)
  falls p d (take_last e) b w = omega arith
  falls p d (put e) b w = omega arith
  falls p d (store e) b w = omega (arith, done e)
  falls p d (drop_read e) b w = omega arith
  falls p d (drop_write e) b w = omega arith

  -- a thread that steps alone
  pub falls_alone : (R : Tally) → Still R → Clean L → 1 ≤ L.top.0 → (p : Place) (d : Did) → Move i L r (ops r.at) v p d
      → Counts L (weighed ops (moved r p) R) → Alone (moved r p) → (ahead up' ops n d.rec < ahead up' ops n (moved r p)) × Alone d.rec
  falls_alone R s c m p d (by_load_below e t) k a = omega tests
  falls_alone R s c m p d (by_load_full e t) k a = omega (tests, ltb-false L.rc.0 L.top.0 t)
  falls_alone R s c m p d (by_try_done e t) k a = omega tests
  falls_alone R s c m p d (by_try_lost e t) k a = absurd (eqb-false L.rc.0 r.seen.0 t (omega tests))
  falls_alone R s c m p d (by_check_clear e t) k a = omega (tests, done e)
  falls_alone R s c m p d (by_check_set e t) k a = omega tests
  falls_alone R s c m p d (back e) k a = omega tests
  falls_alone R s c m p d (lend e) k a = omega (tests, done e)
  falls_alone R s c m p d (release e) k a = omega (tests, done e)
  falls_alone R s c m p d (by_exc_done e t) k a = omega tests
  falls_alone R s c m p d (by_exc_lost e t) k a = omega tests
  falls_alone R s c m p d (into_done e t) k a = omega arith
  falls_alone R s c m p d (into_lost e t) k a = omega arith
  falls_alone R s c m p d (by_wait_done e t) k a = omega tests
  falls_alone R s c m p d (by_wait_more e t) k a = absurd (eqb-false L.rc.0 0 t (omega tests))
  falls_alone R s c m p d (take e) k a = omega (tests, done e)
  falls_alone R s c m p d (take_last e) k a = omega arith
  falls_alone R s c m p d (put e) k a = omega tests
  falls_alone R s c m p d (store e) k a = omega (tests, done e)
  falls_alone R s c m p d (drop_read e) k a = omega arith
  falls_alone R s c m p d (drop_write e) k a = omega arith
