-- Text that is gone through in pieces, stored or not: what is said of a piece is said of the whole, and it is told whether the whole has room.
-- Assumes nothing.
use Prim.Native.Nat.{ℕ, ◌+◌, ◌<◌, ◌≤◌}
use mathlib.Core.Path.{◌≡◌, refl, sym, ap, ◌∙◌}
use mathlib.Core.Bool.{Bool, true, false}
use mathlib.Core.List.{List, ◌++◌}
use native.Mathlib.Omega.{arith}
use lib.Dec.{leb}
use lib.ListN.{length, take, drop, replicate, length-append, length-replicate}
use lib.Seq.{sets, length-sets, sets-eq, take-append_seam}
use borrow.Author.Tests.{le-leb, lt-leb, leb-false}
use Rattle.std.specs.Prelude.{Result, Ok, Err}
use Rattle.scenario_text.specs.Put.{stored, place_after}
use Rattle.scenario_text.proofs.Stores.{sets_append}
use Rattle.vcd.specs.declared.Refusal.{Refusal}
use Rattle.vcd.specs.declared.Refusal.TheVariants.{NoRoom}
use Rattle.vcd_code.specs.Walk.{told, keeps, passes}

-- of the whole text, which starts at `from` and ends at `end`, what is left starts at `at`
pub record Going (end : ℕ) (whole before : List ℕ) (from : ℕ) (storing : Bool) (rest out : List ℕ) (at : ℕ) : Type 0 where
  pub size : length out ≡ length before
  pub place : end ≡ at + length rest
  pub same : keeps storing before from whole ≡ keeps storing out at rest

-- what is said at the end
abbrev pub Gone : ℕ → List ℕ → List ℕ → ℕ → Bool → Result ℕ Refusal → List ℕ → Type 0
Gone end whole before from storing r out = (r ≡ told (length before) end) × (out ≡ keeps storing before from whole)

pub begins : (end : ℕ) (whole before : List ℕ) (from : ℕ) (storing : Bool) → end ≡ from + length whole → Going end whole before from storing whole before from
begins end whole before from storing e = record { size = refl; place = e; same = refl }

-- ---- one piece
length_keeps : (storing : Bool) (l : List ℕ) (at : ℕ) (x : List ℕ) → length (keeps storing l at x) ≡ length l
length_keeps true l at x = length-sets l at x
length_keeps false l at x = refl

keeps_append : (storing : Bool) (l : List ℕ) (at : ℕ) (x y : List ℕ) → keeps storing l at (x ++ y) ≡ keeps storing (keeps storing l at x) (at + length x) y
keeps_append true l at x y = sets_append x y l at
keeps_append false l at x y = refl

-- a piece that has room, or is not stored
passes_keeps : (storing : Bool) (l : List ℕ) (at : ℕ) (x : List ℕ) → leb (at + length x) (length l) ≡ true → passes storing l at x ≡ keeps storing l at x
passes_keeps true l at x e = rw e refl
passes_keeps false l at x e = refl

passes_all : (storing : Bool) (l : List ℕ) (at : ℕ) (x : List ℕ) → (storing ≡ true → at + length x ≤ length l) → passes storing l at x ≡ keeps storing l at x
passes_all true l at x h = passes_keeps true l at x (le-leb (at + length x) (length l) (h refl))
passes_all false l at x h = refl

unstored : (storing : Bool) (end : ℕ) (whole before rest out x out' : List ℕ) (from at : ℕ) → (storing ≡ true → end ≤ length before)
    → length before < end → out' ≡ passes storing out at x → keeps storing before from whole ≡ keeps storing out at rest
    → out' ≡ keeps storing before from whole
unstored true end whole before rest out x out' from at fits long left same =
    let no : ⊥ = omega (arith, fits refl, long) in
    absurd no
unstored false end whole before rest out x out' from at fits long left same = left ∙ sym same

-- ---- the answer
told_by : (t : Bool) (room n m : ℕ) → leb n room ≡ t → Ok m ≡ told room n → (t ≡ true) × (m ≡ n)
told_by true room n m e is =
    let f : Ok m ≡ Ok n = rw e at is in
    (refl, cc)
told_by false room n m e is =
    let f : Ok m ≡ Err NoRoom = rw e at is in
    cc

untold_by : (t : Bool) (room n : ℕ) (why : Refusal) → leb n room ≡ t → Err why ≡ told room n → (t ≡ false) × (why ≡ NoRoom)
untold_by false room n why e is =
    let f : Err why ≡ Err NoRoom = rw e at is in
    (refl, cc)
untold_by true room n why e is =
    let f : Err why ≡ Ok n = rw e at is in
    cc

pub has_room : (room n m : ℕ) → Ok m ≡ told room n → (leb n room ≡ true) × (m ≡ n)
has_room room n m is = told_by (leb n room) room n m refl is

pub has_none : (room n : ℕ) (why : Refusal) → Err why ≡ told room n → (leb n room ≡ false) × (why ≡ NoRoom)
has_none room n why is = untold_by (leb n room) room n why refl is

module _ {end : ℕ} {whole before : List ℕ} {from : ℕ} {storing : Bool} {out : List ℕ} {at : ℕ} where
  pub one_more : (x rest : List ℕ) (next : ℕ) (out' : List ℕ) → Going end whole before from storing (x ++ rest) out at
      → Ok next ≡ told (length out) (at + length x) → out' ≡ passes storing out at x
      → Going end whole before from storing rest out' next
  one_more x rest next out' g is left =
      let (room, n) = has_room (length out) (at + length x) next is in
      let e : out' ≡ keeps storing out at x = left ∙ passes_keeps storing out at x room in
      record {
        size = ap length e ∙ length_keeps storing out at x ∙ g.size;
        place = omega (arith, g.place, n, length-append x rest);
        same = g.same ∙ rw (e, n) (keeps_append storing out at x rest);
      }

  -- a piece that has no room: then nothing is stored, since what is stored has room
  pub no_more : (x rest : List ℕ) (why : Refusal) (out' : List ℕ) → Going end whole before from storing (x ++ rest) out at
      → (storing ≡ true → end ≤ length before)
      → Err why ≡ told (length out) (at + length x) → out' ≡ passes storing out at x
      → Gone end whole before from storing (Err why) out'
  no_more x rest why out' g fits is left =
      let (none, room) = has_none (length out) (at + length x) why is in
      let long : length before < end =
      omega (arith, leb-false (at + length x) (length out) none, g.size, g.place, length-append x rest) in
      (rw (lt-leb end (length before) long, room), unstored storing end whole before (x ++ rest) out x out' from at fits long left g.same)

  -- what is left, all at once
  pub ends : {rest : List ℕ} (r : Result ℕ Refusal) (out' : List ℕ) → Going end whole before from storing rest out at
      → r ≡ told (length out) (at + length rest) → out' ≡ keeps storing out at rest → Gone end whole before from storing r out'
  ends {rest} r out' g is left = (rw (← g.size, g.place) is, left ∙ sym g.same)

  pub still : {rest : List ℕ} → Going end whole before from storing rest out at → (storing ≡ true → end ≤ length before)
      → storing ≡ true → at + length rest ≤ length out
  still {rest} g fits e = omega (arith, fits e, g.place, g.size)

  pub last : {rest : List ℕ} (r : Result ℕ Refusal) (out' : List ℕ) → Going end whole before from storing rest out at → (storing ≡ true → end ≤ length before)
      → r ≡ told (length out) (at + length rest) → out' ≡ passes storing out at rest → Gone end whole before from storing r out'
  last {rest} r out' g fits is left = ends r out' g is (left ∙ passes_all storing out at rest (still g fits))

-- ---- the piece in its array
-- made at the start of an array that is just as long as such a piece may be
pub made : (x piece : List ℕ) (most n : ℕ) → length x ≤ most → n ≡ place_after most (replicate most 0) 0 x → piece ≡ stored most (replicate most 0) 0 x
    → (n ≤ length piece) × (take n piece ≡ x)
made x piece most n short place left =
    let l : List ℕ = replicate most 0 in
    let long : length l ≡ most = length-replicate most 0 in
    let e = le-leb (0 + most) (length l) (omega (arith, long)) in
    let after : n ≡ 0 + length x = rw e at place in
    let next : n ≡ length x = omega (arith, after) in
    let kept : piece ≡ sets l 0 x = rw e at left in
    let all : sets l 0 x ≡ x ++ drop (0 + length x) l = sets-eq x l 0 (omega (arith, long)) in
    let size : length piece ≡ length l = ap length kept ∙ length-sets l 0 x in
    (omega (arith, next, size, long), rw (next, kept, all) (take-append_seam x (drop (0 + length x) l)))
