-- A sound state is safe: a writer past code 8 stands beside no read handle and beside no other such writer, and the count is that of the
-- readers. Demands 2a and 2b follow, since every schedule from setup leaves a sound state.
use Prim.Native.Nat.{ℕ, ◌+◌, ◌<◌, ◌≤◌}
use mathlib.Core.Path.{◌≡◌, refl, sym}
use mathlib.Core.Logic.{◌≢◌}
use mathlib.Core.Bool.{Bool, true, false, true≢false}
use mathlib.Core.List.{List}
use native.Mathlib.Omega.{arith}
use lib.Dec.{eqb}
use lib.ListN.{length}
use package.borrow.Author.Tests.{eqb-true, eqb-false}
use Rattle.cell.specs.Pred.{permits}
use Rattle.cell.specs.declared.pred.Pred.{Pred}
use Rattle.machine.specs.Words.{bit, is, is_at, unbegun, unused}
use Rattle.machine.specs.Step.{Scripts, here}
use Rattle.machine.specs.Sound.{tally, Sound}
use Rattle.machine.specs.Setup.{fresh}
use Rattle.machine.specs.Run.{Ran, run}
use Rattle.machine.specs.Demands.{past8, Writer, at_work, dropped, finisher, Reader, holder, forgotten, SameWriter, Safe, WhoIsThere, WhoIsAnother, Demand2a, Demand2b, CountAtMostTop, SoundIsSafe}
use Rattle.machine.specs.declared.Lock.{Lock}
use Rattle.machine.specs.declared.Rec.{Rec}
use Rattle.machine.specs.declared.Place.{Place}
use Rattle.machine.specs.declared.Place.TheVariants.{Idle, ReadTry, ReadCheck, ReadBack, Reading, WriteWait, WriteTake, Writing, WritePut}
use Rattle.machine.proofs.Sums.{sum_part, sum_two}
use Rattle.machine.proofs.Keep.{bit_le, bit_true}
use Rattle.machine.proofs.Runs.{always_sound}

-- 1 for a record past code 8
abbrev past : Rec → ℕ
past r = is_at WriteTake r + is_at Writing r + is_at WritePut r

past_of : (r : Rec) → past8 r.place ≡ true → past r ≡ 1
past_of r e = go r.place e
  where
    go : (p : Place) → past8 p ≡ true → bit (is p WriteTake) + bit (is p Writing) + bit (is p WritePut) ≡ 1
    go Idle h = absurd (true≢false (sym h))
    go ReadTry h = absurd (true≢false (sym h))
    go ReadCheck h = absurd (true≢false (sym h))
    go ReadBack h = absurd (true≢false (sym h))
    go Reading h = absurd (true≢false (sym h))
    go WriteWait h = absurd (true≢false (sym h))
    go WriteTake h = refl
    go Writing h = refl
    go WritePut h = refl

module _ (S : Scripts) (L : Lock) (l : List Rec) (h : Sound S L l) where
  -- a record past code 8 is counted among the writers
  counted : (i : ℕ) → i < length l → past8 (here l i).place ≡ true → 1 ≤ (tally S l).take + (tally S l).writing + (tally S l).put
  counted i a p =
      omega (
        arith,
        past_of (here l i) p,
        sum_part (λ k r. is_at WriteTake r) l i unbegun a,
        sum_part (λ k r. is_at Writing r) l i unbegun a,
        sum_part (λ k r. is_at WritePut r) l i unbegun a,
      )

  counted_two : (i j : ℕ) → i < length l → j < length l → j ≢ i → past8 (here l i).place ≡ true → past8 (here l j).place ≡ true
      → 2 ≤ (tally S l).take + (tally S l).writing + (tally S l).put
  counted_two i j a b ne p q =
      omega (
        arith,
        past_of (here l i) p,
        past_of (here l j) q,
        sum_two (λ k r. is_at WriteTake r) l i j unbegun refl a b ne,
        sum_two (λ k r. is_at Writing r) l i j unbegun refl a b ne,
        sum_two (λ k r. is_at WritePut r) l i j unbegun refl a b ne,
      )

  -- there is a writer; there is a read handle
  some_writer : Writer L l → 1 ≤ (tally S l).take + (tally S l).put + ((tally S l).writing + L.writes.0 + bit L.finished)
  some_writer (at_work i a p) = omega (arith, counted i a p)
  some_writer (dropped k a) = omega arith
  some_writer (finisher e) = omega (arith, bit_true L.finished e)

  some_reader : Reader L l → 1 ≤ (tally S l).reading + L.reads.0
  some_reader (holder i a e) = omega (arith, bit_true _ e, sum_part (λ k r. is_at Reading r) l i unbegun a)
  some_reader (forgotten k a) = omega arith

  pub apart : Writer L l → Reader L l → ⊥
  apart w r = omega (arith, h.counts.alone, some_writer w, some_reader r)

  at_most : (tally S l).take + (tally S l).put + ((tally S l).writing + L.writes.0 + bit L.finished) ≤ 1
  at_most = omega (arith, h.counts.flag, bit_le L.exc)

  same_place : (i j : ℕ) → i < length l → j < length l → past8 (here l i).place ≡ true → past8 (here l j).place ≡ true → i ≡ j
  same_place i j a b p q = go (eqb j i) refl
    where
      go : (c : Bool) → eqb j i ≡ c → i ≡ j
      go true e = sym (eqb-true j i e)
      go false e = absurd (omega (arith, at_most, counted_two i j a b (eqb-false j i e) p q))

  pub alone : (a b : Writer L l) → SameWriter a b
  alone (at_work i a p) (at_work j b q) = same_place i j a b p q
  alone (at_work i a p) (dropped k b) = omega (arith, at_most, counted i a p)
  alone (at_work i a p) (finisher e) = omega (arith, at_most, counted i a p, bit_true L.finished e)
  alone (dropped k a) (at_work i b q) = omega (arith, at_most, counted i b q)
  alone (dropped k a) (dropped j b) = omega (arith, at_most)
  alone (dropped k a) (finisher e) = omega (arith, at_most, bit_true L.finished e)
  alone (finisher e) (at_work i b q) = omega (arith, at_most, counted i b q, bit_true L.finished e)
  alone (finisher e) (dropped k b) = omega (arith, at_most, bit_true L.finished e)
  alone (finisher e) (finisher f) = tt

pub who_is_there : WhoIsThere
who_is_there L l =
    (λ i a. (λ e. at_work i a (rw e refl), λ e. at_work i a (rw e refl), λ e. at_work i a (rw e refl), λ e. holder i a (rw e refl)), dropped 0, finisher, forgotten 0)

same_back : (L : Lock) (l : List Rec) (x y : Writer L l) → SameWriter x y → SameWriter y x
same_back L l (at_work i a p) (at_work j b q) same = sym same
same_back L l (at_work i a p) (dropped k b) same = same
same_back L l (at_work i a p) (finisher e) same = same
same_back L l (dropped k a) (at_work i b q) same = same
same_back L l (dropped k a) (dropped j b) same = sym same
same_back L l (dropped k a) (finisher e) same = same
same_back L l (finisher e) (at_work i b q) same = same
same_back L l (finisher e) (dropped k b) same = same
same_back L l (finisher e) (finisher f) same = same

pub who_is_another : WhoIsAnother
who_is_another L l =
    (λ i j a b p q same. same, λ i k a p c same. same, λ i a p e same. same, λ k m c d same. same, λ k c e same. same, same_back L l)

pub sound_is_safe : SoundIsSafe
sound_is_safe S L l h = ((apart S L l h, alone S L l h), omega (arith, h.counts.count), h.counts.most)

module _ (S : Scripts) (q : Pred) (m v n : ℕ) (top : 1 ≤ m) (ok : permits q v ≡ true) (schedule : List ℕ) where
  abbrev after : Ran
  after = run S (unused q m v) (fresh n) schedule

  safe : Safe S after.lock after.recs
  safe = sound_is_safe S after.lock after.recs (always_sound S q m v n top ok schedule)

pub demand_2a : Demand2a
demand_2a S q m v n top ok schedule = (safe S q m v n top ok schedule).0

pub demand_2b : Demand2b
demand_2b S q m v n top ok schedule = (safe S q m v n top ok schedule).1

pub count_at_most_top : CountAtMostTop
count_at_most_top S q m v n top ok schedule = (safe S q m v n top ok schedule).2
