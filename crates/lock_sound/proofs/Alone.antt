-- The test of the mover: that the other records are Idle is told by how many records are not.
use Prim.Native.Nat.{ℕ, ◌<◌, ◌≤◌}
use mathlib.Core.Path.{◌≡◌, refl, ap, ◌∙◌}
use mathlib.Core.Bool.{Bool, true, false, ◌&&◌}
use mathlib.Core.List.{List}
use native.Mathlib.Omega.{arith}
use lib.Dec.{eqb, ltb}
use lib.ListN.{length, take, length-take}
use lib.Seq.{get_or-take}
use package.borrow.Author.Tests.{lt-ltb, le-ltb, ltb-true}
use Rattle.machine.specs.Lists.{lists, scripts_of}
use Rattle.machine.specs.Words.{unbegun}
use Rattle.machine.specs.Step.{Scripts, busy_of, busy, others, here}
use Rattle.machine.specs.Sound.{Tally, tally, test_mover}
use Rattle.machine.specs.declared.Rec.{Rec}
use Rattle.std.specs.Prelude.{None, Option, Some}
use Rattle.machine.proofs.Sums.{sum_set}
use Rattle.lock_sound.specs.Counts.{unvalued, as_tally}
use Rattle.lock_sound.specs.declared.sound.Counted.{Counted}
use Rattle.lock_sound.specs.Records.{alone, mover_at}
use Rattle.lock_words.proofs.Tests.{same_test}

-- none of the others is busy exactly if no more are busy than the record itself
others_none : (l : List Rec) (t : ℕ) → t < length l → eqb (others l t) 0 ≡ eqb (busy l) (busy_of (here l t))
others_none l t h =
    let s = sum_set (λ k r. busy_of r) l t unbegun unbegun h in
    same_test (others l t) 0 (busy l) (busy_of (here l t)) (λ e. omega arith) (λ e. omega arith)

module _ (S : Scripts) (count n : ℕ) (recs : List Rec) (t busy : ℕ) (s : length (take count recs) ≡ n) where
  pub mover_there : t < n → mover_at S (take count recs) busy (Some t) ≡ alone (S.len t) (S.op t (here recs t).at) (here recs t) busy
  mover_there lt =
      let there : t < length (take count recs) = omega arith in
      let asked : t < count = omega (arith, length-take count recs) in
      rw (lt-ltb t (length (take count recs)) there, get_or-take count recs t unbegun asked)

  pub mover_missing : n ≤ t → false ≡ mover_at S (take count recs) busy (Some t)
  mover_missing over =
      let past : length (take count recs) ≤ t = omega arith in
      rw (le-ltb t (length (take count recs)) past)

-- a test that is made where there is a thread t
there_or_not : (l : List Rec) (t : ℕ) {a b : Bool} → (t < length l → a ≡ b) → (ltb t (length l) && a) ≡ (ltb t (length l) && b)
there_or_not l t {a} {b} f = go (ltb t (length l)) refl
  where
    go : (c : Bool) → ltb t (length l) ≡ c → (c && a) ≡ (c && b)
    go true e = f (ltb-true t (length l) e)
    go false e = refl

-- with the count over the records it is the definition's test; no clause looks at a value
pub mover_same : (lens ops vals : List ℕ) (l : List Rec) (m : Option ℕ) → mover_at (unvalued lens ops) l (busy l) m ≡ test_mover (scripts_of (lists lens ops vals)) l m
mover_same lens ops vals l None = refl
mover_same lens ops vals l (Some t) = there_or_not l t (λ h. rw (others_none l t h))

-- and with a count that is it
pub mover_by : (lens ops vals : List ℕ) (l : List Rec) (m : Option ℕ) (n : Counted) → as_tally n ≡ tally (unvalued lens ops) l
    → mover_at (unvalued lens ops) l n.busy m ≡ test_mover (scripts_of (lists lens ops vals)) l m
mover_by lens ops vals l m n e = ap (λ (N : Tally). mover_at (unvalued lens ops) l N.busy m) e ∙ mover_same lens ops vals l m
