-- The tests of specs/Sound.antt and specs/Tidy.antt say what the named facts say; and tidy is not too strong.
use Rattle.std.specs.Prelude.{ℕ, ◌+◌, ◌*◌, ◌<◌, ◌≡◌, ◌↔◌, ◌⊎◌, true, false, List, length}
use Rattle.cell.specs.Pred.{permits}
use Rattle.cell.specs.declared.pred.Pred.{Pred}
use Rattle.machine.specs.Names.{acquire_read, borrows, release_read, acquire_write, release_write}
use Rattle.machine.specs.Words.{unused}
use Rattle.machine.specs.Step.{Scripts, sum, here, step}
use Rattle.machine.specs.Setup.{fresh}
use Rattle.machine.specs.Sound.{Sound, sound, WriteOp}
use Rattle.machine.specs.Tidy.{Mode, Free, InRead, InWrite, mode_of, Tidy, tidy, price, cost, bound}
use Rattle.machine.specs.declared.Lock.{Lock}
use Rattle.machine.specs.declared.Rec.{Rec}
use Rattle.std.specs.Prelude.{None}

abbrev pub SoundTested : Type 0
SoundTested = (S : Scripts) (L : Lock) (l : List Rec) → (sound S L l ≡ true) ↔ Sound S L l

abbrev pub TidyTested : Type 0
TidyTested = (S : Scripts) (L : Lock) (l : List Rec) → (tidy S L l ≡ true) ↔ Tidy S L l

abbrev pub WriteOpSays : Type 0
WriteOpSays = (o : ℕ) → WriteOp o ↔ ((o ≡ 4) ⊎ (o ≡ 7))

-- ---- the plain cost: 3 for operations 1 and 4, 2 for 5, 1 for 2 and 3; of a script the sum from a script place on; of a state the sum
-- of its scripts, and the bound is that and 3 for each thread
abbrev pub PlainCost : Type 0
PlainCost =
    (price 1 ≡ 3)
    × (price 4 ≡ 3)
    × (price 5 ≡ 2)
    × (price 2 ≡ 1)
    × (price 3 ≡ 1)
    × ((ops : ℕ → ℕ) (n at : ℕ) → at < n → cost ops n at ≡ price (ops at) + cost ops n (at + 1))
    × ((ops : ℕ → ℕ) (n : ℕ) → cost ops n n ≡ 0)
    × ((S : Scripts) (l : List Rec) → bound S l ≡ sum (λ k r. cost (S.op k) (S.len k) r.at) 0 l + 3 * length l)

-- ---- tidy is not too strong
-- Whole sections from a script place on: 1, any number of 2, and 3; or 4, and 5 with a permitted value.
pub data Sections (q : Pred) (n : ℕ) (ops vals : ℕ → ℕ) : ℕ → Type 0 where
  none : {at : ℕ} → at ≡ n → Sections q n ops vals at
  read : {at : ℕ} (times : ℕ) → at + 1 + times < n → ops at ≡ acquire_read → ((k : ℕ) → k < times → ops (at + 1 + k) ≡ borrows)
      → ops (at + 1 + times) ≡ release_read → Sections q n ops vals (at + 1 + times + 1) → Sections q n ops vals at
  write : {at : ℕ} → at + 1 < n → ops at ≡ acquire_write → ops (at + 1) ≡ release_write → permits q (vals (at + 1)) ≡ true
      → Sections q n ops vals (at + 1 + 1) → Sections q n ops vals at

-- a proper rest: of a thread that holds nothing whole sections; of one that holds a handle the rest of its section first
pub data Proper (q : Pred) (n : ℕ) (ops vals : ℕ → ℕ) : Mode → ℕ → Type 0 where
  free : {at : ℕ} → Sections q n ops vals at → Proper q n ops vals Free at
  in_read : {at : ℕ} (times : ℕ) → at + times < n → ((k : ℕ) → k < times → ops (at + k) ≡ borrows) → ops (at + times) ≡ release_read
      → Sections q n ops vals (at + times + 1) → Proper q n ops vals InRead at
  in_write : {at : ℕ} → at < n → ops at ≡ release_write → permits q (vals at) ≡ true → Sections q n ops vals (at + 1) → Proper q n ops vals InWrite at

-- scripts of whole sections are tidy at setup
abbrev pub SectionsAreTidy : Type 0
SectionsAreTidy =
    (S : Scripts) (q : Pred) (m v n : ℕ) → ((j : ℕ) → j < n → Sections q (S.len j) (S.op j) (S.val j) 0) → Tidy S (unused q m v) (fresh n)

-- nothing dropped, no mover, not finished, and a proper rest of every script
abbrev pub ProperIsTidy : Type 0
ProperIsTidy =
    (S : Scripts) (L : Lock) (l : List Rec) → L.reads.0 ≡ 0 → L.writes.0 ≡ 0 → L.mover ≡ None → L.finished ≡ false
    → ((j : ℕ) → j < length l → Proper L.pred (S.len j) (S.op j) (S.val j) (mode_of (here l j).place) (here l j).at)
    → Tidy S L l

-- every step from a tidy state leaves it tidy, accepted or refused
abbrev pub TidyIsKept : Type 0
TidyIsKept = (S : Scripts) (L : Lock) (l : List Rec) (i : ℕ) → Tidy S L l → Tidy S (step S L l i).lock (step S L l i).recs
