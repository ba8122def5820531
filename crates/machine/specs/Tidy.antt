-- Tidy states, as named facts and as a test, and the plain cost. `TidyTested` of specs/Tested.antt says that both
-- say the same.
use Rattle.std.specs.Prelude.{ℕ, zero, suc, ◌+◌, ◌-◌, ◌<◌, ◌≡◌, Bool, true, false, ◌||◌, ◌&&◌, not, cond, List, eqb, leb, length}
use Rattle.cell.specs.Pred.{permits}
use Rattle.cell.specs.declared.pred.Pred.{Pred}
use Rattle.machine.specs.Names.{acquire_read, borrows, release_read, acquire_write, release_write}
use Rattle.machine.specs.Words.{moving}
use Rattle.machine.specs.Step.{Scripts, sum, here}
use Rattle.machine.specs.Sound.{every}
use Rattle.machine.specs.declared.Lock.{Lock}
use Rattle.machine.specs.declared.Rec.{Rec}
use Rattle.machine.specs.declared.Place.{Place}
use Rattle.machine.specs.declared.Place.TheVariants.{Idle, ReadTry, ReadCheck, ReadBack, Reading, WriteWait, WriteTake, Writing, WritePut}

-- what a thread holds between two operations
pub data Mode : Type 0 where
  Free : Mode
  InRead : Mode
  InWrite : Mode

-- what it holds as its present operation starts: an operation under way belongs to the rest
abbrev pub mode_of : Place → Mode
mode_of Idle = Free
mode_of ReadTry = Free
mode_of ReadCheck = Free
mode_of ReadBack = Free
mode_of Reading = InRead
mode_of WriteWait = Free
mode_of WriteTake = Free
mode_of Writing = InWrite
mode_of WritePut = InWrite

-- The rest of a script, of length n, from a script place and what is held there: every operation fits, it ends at Idle, it has
-- no 6 and no 7, and it releases permitted values.
pub data Rest (q : Pred) (n : ℕ) (ops vals : ℕ → ℕ) : Mode → ℕ → Type 0 where
  ends : {at : ℕ} → at ≡ n → Rest q n ops vals Free at
  reads : {at : ℕ} → at < n → ops at ≡ acquire_read → Rest q n ops vals InRead (at + 1) → Rest q n ops vals Free at
  lends : {at : ℕ} → at < n → ops at ≡ borrows → Rest q n ops vals InRead (at + 1) → Rest q n ops vals InRead at
  returns : {at : ℕ} → at < n → ops at ≡ release_read → Rest q n ops vals Free (at + 1) → Rest q n ops vals InRead at
  writes : {at : ℕ} → at < n → ops at ≡ acquire_write → Rest q n ops vals InWrite (at + 1) → Rest q n ops vals Free at
  puts : {at : ℕ} → at < n → ops at ≡ release_write → permits q (vals at) ≡ true → Rest q n ops vals Free (at + 1) → Rest q n ops vals InWrite at

abbrev pub TidyRec : Pred → ℕ → (ℕ → ℕ) → (ℕ → ℕ) → Rec → Type 0
TidyRec q n ops vals r = Rest q n ops vals (mode_of r.place) r.at

-- nothing dropped, no mover, not finished
abbrev pub Clean : Lock → Type 0
Clean L = (L.reads.0 + L.writes.0 + moving L.mover ≡ 0) × (L.finished ≡ false)

pub record Tidy (S : Scripts) (L : Lock) (l : List Rec) : Type 0 where
  pub clean : Clean L
  pub rest : (j : ℕ) → j < length l → TidyRec L.pred (S.len j) (S.op j) (S.val j) (here l j)

-- ---- the test
-- the rest of a script, with so many operations left
unfoldable pub tidy_rest : Pred → (ℕ → ℕ) → (ℕ → ℕ) → Mode → ℕ → ℕ → Bool
tidy_rest q ops vals Free at zero = true
tidy_rest q ops vals InRead at zero = false
tidy_rest q ops vals InWrite at zero = false
tidy_rest q ops vals Free at (suc left) =
    cond (eqb (ops at) acquire_read) (tidy_rest q ops vals InRead (at + 1) left)
    (eqb (ops at) acquire_write && tidy_rest q ops vals InWrite (at + 1) left)
tidy_rest q ops vals InRead at (suc left) =
    cond (eqb (ops at) borrows) (tidy_rest q ops vals InRead (at + 1) left)
    (eqb (ops at) release_read && tidy_rest q ops vals Free (at + 1) left)
tidy_rest q ops vals InWrite at (suc left) =
    eqb (ops at) release_write && (permits q (vals at) && tidy_rest q ops vals Free (at + 1) left)

abbrev pub test_rest : Pred → ℕ → (ℕ → ℕ) → (ℕ → ℕ) → Rec → Bool
test_rest q n ops vals r = leb r.at n && tidy_rest q ops vals (mode_of r.place) r.at (n - r.at)

abbrev pub is_clean : Lock → Bool
is_clean L = eqb (L.reads.0 + L.writes.0 + moving L.mover) 0 && not L.finished

unfoldable pub tidy : Scripts → Lock → List Rec → Bool
tidy S L l = is_clean L && every (λ j r. test_rest L.pred (S.len j) (S.op j) (S.val j) r) 0 l

-- ---- the plain cost
-- of an operation
abbrev pub price : ℕ → ℕ
price o = cond (eqb o acquire_read || eqb o acquire_write) 3 (cond (eqb o release_write) 2 1)

unfoldable pub cost_from : (ℕ → ℕ) → ℕ → ℕ → ℕ
cost_from ops at zero = 0
cost_from ops at (suc left) = price (ops at) + cost_from ops (at + 1) left

-- of a script of length n from a script place on; an operation under way costs its full amount
unfoldable pub cost : (ℕ → ℕ) → ℕ → ℕ → ℕ
cost ops n at = cost_from ops at (n - at)

-- the plain cost of all scripts, and three entries for each thread
abbrev pub bound : Scripts → List Rec → ℕ
bound S l = sum (λ k r. cost (S.op k) (S.len k) r.at + 3) 0 l
