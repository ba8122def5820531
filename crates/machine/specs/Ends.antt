-- Demand 3: the drain order ends every script.
use Rattle.std.specs.Prelude.{ℕ, ◌<◌, ◌≤◌, ◌≡◌, ◌≢◌, true, false, List, [], ◌∷◌, length, set}
use Rattle.cell.specs.Value.{kept, is_full}
use Rattle.machine.specs.Names.{into_inner, exchanges_exc, waits_rc, takes_cell}
use Rattle.machine.specs.Words.{may_go, next}
use Rattle.machine.specs.Step.{Scripts, busy, here, op_of}
use Rattle.machine.specs.Sound.{Sound}
use Rattle.machine.specs.Lists.{Lent, scripts_of, beside}
use Rattle.machine.specs.Run.{run, run_refusal}
use Rattle.machine.specs.Tidy.{Tidy, bound}
use Rattle.machine.specs.Drain.{Order, drain, drain_refusal, drain_lent}
use Rattle.machine.specs.declared.Lock.{Lock}
use Rattle.machine.specs.declared.Rec.{Rec}
use Rattle.machine.specs.declared.Row.{Row}
use Rattle.machine.specs.declared.Place.TheVariants.{Idle}

-- an accepted row with the flag up and the count 0
abbrev pub row_as : ℕ → ℕ → ℕ → Row
row_as i access got = record { thread = i; access = access; answer = 0; got = got; exc = 1; rc = 0 }

unfoldable pub AllAccepted : List Row → Type 0
AllAccepted [] = Unit {0}
AllAccepted (r ∷ rows) = (r.answer ≡ 0) × AllAccepted rows

-- what drain makes of a state: it is the drain order, entry by entry; a run of those entries refuses none and leaves the same;
-- they are at most the plain cost and three a thread; every script is at its end and every record Idle; the flag is clear, the
-- count 0, the cell full
pub record Drained (S : Scripts) (L : Lock) (l : List Rec) : Type 0 where
  pub order : Order S L l (drain S L l).made (drain S L l).lock (drain S L l).recs
  pub accepted : AllAccepted (run S L l (drain S L l).made).rows
  pub lock : (run S L l (drain S L l).made).lock ≡ (drain S L l).lock
  pub recs : (run S L l (drain S L l).made).recs ≡ (drain S L l).recs
  pub bounded : length (drain S L l).made ≤ bound S l
  pub size : length (drain S L l).recs ≡ length l
  pub ended : (j : ℕ) → j < length l → ((here (drain S L l).recs j).place ≡ Idle) × ((here (drain S L l).recs j).at ≡ S.len j)
  pub clear : (drain S L l).lock.exc ≡ false
  pub count : (drain S L l).lock.rc.0 ≡ 0
  pub full : is_full (drain S L l).lock.cell ≡ true

abbrev pub Demand3 : Type 0
Demand3 = (S : Scripts) (L : Lock) (l : List Rec) → Sound S L l → Tidy S L l → Drained S L l

-- the order is one: from a state no other entries follow it, and no other state is left
abbrev pub OrderIsOne : Type 0
OrderIsOne =
    (S : Scripts) (L M N : Lock) (l m n : List Rec) (es fs : List ℕ) → Order S L l es M m → Order S L l fs N n
    → (es ≡ fs) × (M ≡ N) × (m ≡ n)

-- into_inner has no part in tidy scripts: with nothing dropped and all records Idle, three entries of its thread finish the lock,
-- and the third takes what is in the cell
abbrev pub IntoInnerEnds : Type 0
IntoInnerEnds =
    (S : Scripts) (L : Lock) (l : List Rec) (i : ℕ) → Sound S L l → L.reads.0 ≡ 0 → L.writes.0 ≡ 0 → L.finished ≡ false → busy l ≡ 0
    → i < length l → (here l i).at < S.len i → op_of S l i ≡ into_inner → may_go L.mover i ≡ true
    → let w = run S L l (i ∷ i ∷ i ∷ []) in
    (w.rows ≡ row_as i exchanges_exc 0 ∷ row_as i waits_rc 0 ∷ row_as i takes_cell (kept L.cell) ∷ [])
    × (w.lock.finished ≡ true)
    × (w.recs ≡ set l i (next (here l i) Idle))

-- ---- drain as it is called
-- where nothing is refused it is that drain, from a state that is sound and tidy, and n is the number of its entries
abbrev pub DrainRule : Type 0
DrainRule =
    (s : Lent) (L : Lock) (l : List Rec) → drain_refusal s L l ≡ 0
    → let left = drain_lent s L l in
    let S = scripts_of s in
    (left.refusal ≡ beside s 0)
    × (left.n ≡ length (drain S L l).made)
    × (left.lock ≡ (drain S L l).lock)
    × (left.recs ≡ (drain S L l).recs)
    × Sound S L l
    × Drained S L l

-- a refused drain changes nothing that is lent, and n is 0
abbrev pub RefusedDrain : Type 0
RefusedDrain =
    (s : Lent) (L : Lock) (l : List Rec) → drain_refusal s L l ≢ 0
    → let left = drain_lent s L l in
    (left.refusal ≡ beside s (drain_refusal s L l)) × (left.n ≡ 0) × (left.lock ≡ L) × (left.recs ≡ l)

-- Sixteen threads with 64 operations of cost 3, and three entries each: no state that run takes has a larger bound, and no drain,
-- whatever it is lent, makes more entries.
abbrev pub AtMost3120 : Type 0
AtMost3120 = (s : Lent) (L : Lock) (l : List Rec) → (run_refusal s L l ≡ 0 → bound (scripts_of s) l ≤ 3120) × ((drain_lent s L l).n ≤ 3120)
