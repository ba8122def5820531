-- Where an operation fits its place, what the table does is one of the ways of specs/Move.antt; and each way is what the table does.
use Prim.Native.Nat.{ℕ}
use mathlib.Core.Path.{◌≡◌, refl}
use mathlib.Core.Logic.{inl, inr, ⊎_elim}
use mathlib.Core.Bool.{Bool, true, false, ◌||◌, cond, true≢false}
use lib.Dec.{eqb}
use package.borrow.Author.Tests.{eqb-true}
use Rattle.machine.specs.Names.{acquire_read, borrows, release_read, acquire_write, release_write, drop_handle, into_inner}
use Rattle.machine.specs.Step.{act, fits, below, unmoved, unread}
use Rattle.machine.specs.Move.{Move, by_load_below, by_load_full, by_try_done, by_try_lost, by_check_clear, by_check_set, back, lend, release, by_exc_done, by_exc_lost, into_done, into_lost, by_wait_done, by_wait_more, take, take_last, put, store, drop_read, drop_write, Ways}
use Rattle.machine.specs.declared.Did.{Did}
use Rattle.machine.specs.declared.Lock.{Lock}
use Rattle.machine.specs.declared.Rec.{Rec}
use Rattle.machine.specs.declared.Place.{Place}
use Rattle.machine.specs.declared.Place.TheVariants.{Idle, ReadTry, ReadCheck, ReadBack, Reading, WriteWait, WriteTake, Writing, WritePut}
use Rattle.machine.proofs.Refusals.{either}

-- a test, taken apart: what holds of both arms under the test's answer holds of the choice
pub either_way {ℓ} : {A : Type 0} (P : A → Type ℓ) (b : Bool) {x y : A} → (b ≡ true → P x) → (b ≡ false → P y) → P (cond b x y)
either_way P true f g = f refl
either_way P false f g = g refl

-- of two tests one holds: where the first does not, the second does
pub other : (b c : Bool) → (b || c) ≡ true → b ≡ false → c ≡ true
other true c h e = absurd (true≢false e)
other false c h e = h

module _ (i : ℕ) (L : Lock) (r : Rec) (o v : ℕ) where
  way : {p : Place} (b : Bool) {x y : Did} → (b ≡ true → Move i L r o v p x) → (b ≡ false → Move i L r o v p y) → Move i L r o v p (cond b x y)
  way {p} = either_way (Move i L r o v p)

  -- the operation is k, or another that fits
  or : {p : Place} (k : ℕ) {c : Bool} {x y : Did} → (eqb o k || c) ≡ true → (o ≡ k → Move i L r o v p x) → (c ≡ true → Move i L r o v p y)
      → Move i L r o v p (cond (eqb o k) x y)
  or k {c} h f g = way (eqb o k) (λ e. f (eqb-true o k e)) (λ e. g (other (eqb o k) c h e))

  pub moves : (p : Place) → fits p o ≡ true → Move i L r o v p (act i L r p o v)
  unfolding act fits
  moves Idle h =
      or acquire_read h (λ e. way (below L) (by_load_below e) (by_load_full e))
      (λ g. or acquire_write g (λ e. way L.exc (by_exc_lost e) (by_exc_done e))
      (λ s. let e = eqb-true o into_inner s in way L.exc (into_lost e) (into_done e)))
  moves ReadTry h = let e = eqb-true o acquire_read h in way (unmoved L r) (by_try_done e) (by_try_lost e)
  moves ReadCheck h = let e = eqb-true o acquire_read h in way L.exc (by_check_set e) (by_check_clear e)
  moves ReadBack h = back (eqb-true o acquire_read h)
  moves Reading h = or borrows h lend (λ g. or release_read g release (λ s. drop_read (eqb-true o drop_handle s)))
  moves WriteWait h =
      let e = either (eqb o acquire_write) _ (λ w. inl (eqb-true o acquire_write w)) (λ w. inr (eqb-true o into_inner w)) h in
      way (unread L) (by_wait_done e) (by_wait_more e)
  moves WriteTake h = or acquire_write h take (λ s. take_last (eqb-true o into_inner s))
  moves Writing h = or release_write h put (λ s. drop_write (eqb-true o drop_handle s))
  moves WritePut h = store (eqb-true o release_write h)

  -- and each way is what the table does, with an operation that fits
  tabled : (p : Place) (d : Did) → Move i L r o v p d → (fits p o ≡ true) × (d ≡ act i L r p o v)
  unfolding act fits
  tabled p d (by_load_below e t) = rw (e, t) (refl, refl)
  tabled p d (by_load_full e t) = rw (e, t) (refl, refl)
  tabled p d (by_try_done e t) = rw (e, t) (refl, refl)
  tabled p d (by_try_lost e t) = rw (e, t) (refl, refl)
  tabled p d (by_check_clear e t) = rw (e, t) (refl, refl)
  tabled p d (by_check_set e t) = rw (e, t) (refl, refl)
  tabled p d (back e) = rw e (refl, refl)
  tabled p d (lend e) = rw e (refl, refl)
  tabled p d (release e) = rw e (refl, refl)
  tabled p d (by_exc_done e t) = rw (e, t) (refl, refl)
  tabled p d (by_exc_lost e t) = rw (e, t) (refl, refl)
  tabled p d (into_done e t) = rw (e, t) (refl, refl)
  tabled p d (into_lost e t) = rw (e, t) (refl, refl)
  tabled p d (by_wait_done e t) = (⊎_elim (λ w. rw w refl) (λ w. rw w refl) e, rw t refl)
  tabled p d (by_wait_more e t) = (⊎_elim (λ w. rw w refl) (λ w. rw w refl) e, rw t refl)
  tabled p d (take e) = rw e (refl, refl)
  tabled p d (take_last e) = rw e (refl, refl)
  tabled p d (put e) = rw e (refl, refl)
  tabled p d (store e) = rw e (refl, refl)
  tabled p d (drop_read e) = rw e (refl, refl)
  tabled p d (drop_write e) = rw e (refl, refl)

pub ways : Ways
ways i L r o v p = (moves i L r o v p, tabled i L r o v p)
