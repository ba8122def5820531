-- Which states are sound: as named facts, and as a test that run and drain make on any input. `SoundTested` of
-- specs/Tested.antt says that both say the same.
use Rattle.std.specs.Prelude.{ℕ, suc, ◌+◌, ◌-◌, ◌*◌, ◌<◌, ◌≤◌, min, ◌≡◌, Bool, true, ◌||◌, ◌&&◌, not, List, [], ◌∷◌, eqb, ltb, leb, length}
use Rattle.cell.specs.Value.{kept, is_full}
use Rattle.cell.specs.Pred.{permits, good}
use Rattle.cell.specs.declared.pred.Pred.{Pred}
use Rattle.machine.specs.Names.{acquire_read, acquire_write, release_write, into_inner}
use Rattle.machine.specs.Words.{bit, is, is_at, moving}
use Rattle.machine.specs.Step.{Scripts, sum, busy, others, here}
use Rattle.machine.specs.declared.Lock.{Lock}
use Rattle.machine.specs.declared.Rec.{Rec}
use Rattle.std.specs.Prelude.{None, Option, Some}
use Rattle.machine.specs.declared.Place.{Place}
use Rattle.machine.specs.declared.Place.TheVariants.{Idle, ReadTry, ReadCheck, ReadBack, Reading, WriteWait, WriteTake, Writing, WritePut}

-- 1 if the operation is into_inner
abbrev pub is_into : ℕ → ℕ
is_into o = bit (eqb o into_inner)

-- 1 for a record inside into_inner; ops is its script
abbrev pub inside_of : (ℕ → ℕ) → Rec → ℕ
inside_of ops r = (is_at WriteWait r + is_at WriteTake r) * is_into (ops r.at)

-- how many records stand at each place, are not Idle, or are inside into_inner
pub record Tally : Type 0 where
  pub check : ℕ
  pub back : ℕ
  pub reading : ℕ
  pub wait : ℕ
  pub take : ℕ
  pub writing : ℕ
  pub put : ℕ
  pub busy : ℕ
  pub inside : ℕ

abbrev pub tally : Scripts → List Rec → Tally
tally S l =
    record {
      check = sum (λ k r. is_at ReadCheck r) 0 l;
      back = sum (λ k r. is_at ReadBack r) 0 l;
      reading = sum (λ k r. is_at Reading r) 0 l;
      wait = sum (λ k r. is_at WriteWait r) 0 l;
      take = sum (λ k r. is_at WriteTake r) 0 l;
      writing = sum (λ k r. is_at Writing r) 0 l;
      put = sum (λ k r. is_at WritePut r) 0 l;
      busy = busy l;
      inside = sum (λ k r. inside_of (S.op k) r) 0 l;
    }

-- read handles: held and dropped
abbrev pub handles : Lock → Tally → ℕ
handles L N = N.reading + L.reads.0

-- those who have taken the value away: a record at Writing, a dropped write, a finished lock
abbrev pub away : Lock → Tally → ℕ
away L N = N.writing + L.writes.0 + bit L.finished

-- writers past code 8 who have not cleared the flag
abbrev pub writers : Lock → Tally → ℕ
writers L N = N.take + N.put + away L N

-- the clauses on counts
pub record Counts (L : Lock) (N : Tally) : Type 0 where
  pub most : L.rc.0 ≤ L.top.0
  pub count : L.rc.0 ≡ N.check + N.back + handles L N
  -- the flag is up exactly if one writer is there, waiting or past code 8, and there never are more
  pub flag : bit L.exc ≡ N.wait + writers L N
  -- of writers past code 8 and read handles there is one kind at most
  pub alone : min (writers L N) (handles L N) ≡ 0
  -- the cell is empty exactly if one has taken the value away; by `flag` there are not two
  pub cell : bit (is_full L.cell) + away L N ≡ 1
  pub value : bit (is_full L.cell) ≤ bit (permits L.pred (kept L.cell))
  -- nobody but the mover is inside into_inner; by `Moves` the others are Idle
  pub inside : N.inside ≤ moving L.mover
  pub finish : L.finished ≡ true → (N.busy ≡ 0) × (moving L.mover ≡ 0)

-- the operation is 4 or 7, as an equation; `WriteOpSays` of specs/Tested.antt says so
abbrev pub WriteOp : ℕ → Type 0
WriteOp o = o ≡ acquire_write + (into_inner - acquire_write) * is_into o

-- the clauses on one record: q and top are the lock's, n the length of its script, o the operation at its script place
abbrev pub Kept : Pred → ℕ → ℕ → ℕ → Rec → Place → Type 0
Kept q top n o r Idle = (r.at ≤ n) × (r.seen.0 ≡ 0) × (r.taken ≡ 0)
Kept q top n o r ReadTry = (r.at < n) × (o ≡ acquire_read) × (r.seen.0 < top) × (r.taken ≡ 0)
Kept q top n o r ReadCheck = (r.at < n) × (o ≡ acquire_read) × (r.seen.0 ≡ 0) × (r.taken ≡ 0)
Kept q top n o r ReadBack = (r.at < n) × (o ≡ acquire_read) × (r.seen.0 ≡ 0) × (r.taken ≡ 0)
Kept q top n o r Reading = (r.at ≤ n) × (r.seen.0 ≡ 0) × (r.taken ≡ 0)
Kept q top n o r WriteWait = (r.at < n) × WriteOp o × (r.seen.0 ≡ 0) × (r.taken ≡ 0)
Kept q top n o r WriteTake = (r.at < n) × WriteOp o × (r.seen.0 ≡ 0) × (r.taken ≡ 0)
Kept q top n o r Writing = (r.at ≤ n) × (r.seen.0 ≡ 0) × (bit (permits q r.taken) ≡ 1)
Kept q top n o r WritePut = (r.at < n) × (o ≡ release_write) × (r.seen.0 ≡ 0) × (r.taken ≡ 0)

abbrev pub KeptRec : Pred → ℕ → ℕ → (ℕ → ℕ) → Rec → Type 0
KeptRec q top n ops r = Kept q top n (ops r.at) r r.place

-- a mover is a thread that there is, at into_inner, the others Idle
abbrev pub Moves : Scripts → List Rec → Option ℕ → Type 0
Moves S l None = Unit {0}
Moves S l (Some t) = (t < length l) × ((here l t).at < S.len t) × (S.op t (here l t).at ≡ into_inner) × (others l t ≡ 0)

pub record Sound (S : Scripts) (L : Lock) (l : List Rec) : Type 0 where
  pub top : 1 ≤ L.top.0
  pub pred : good L.pred ≡ true
  pub counts : Counts L (tally S l)
  pub kept : (j : ℕ) → j < length l → KeptRec L.pred L.top.0 (S.len j) (S.op j) (here l j)
  pub mover : Moves S l L.mover

-- ---- the test
-- a test that holds of every record; k is the first thread
unfoldable pub every : (ℕ → Rec → Bool) → ℕ → List Rec → Bool
every f k [] = true
every f k (r ∷ l) = f k r && every f (suc k) l

abbrev pub test_counts : Lock → Tally → Bool
test_counts L N =
    leb L.rc.0 L.top.0
    && (eqb L.rc.0 (N.check + N.back + handles L N)
    && (eqb (bit L.exc) (N.wait + writers L N)
    && ((eqb (writers L N) 0 || eqb (handles L N) 0)
    && (eqb (bit (is_full L.cell) + away L N) 1
    && (leb (bit (is_full L.cell)) (bit (permits L.pred (kept L.cell)))
    && (leb N.inside (moving L.mover)
    && (not L.finished || (eqb N.busy 0 && eqb (moving L.mover) 0))))))))

-- the script place is in range: inside an operation below the script's length, and elsewhere not past it
abbrev pub in_range : ℕ → Rec → Place → Bool
in_range n r Idle = leb r.at n
in_range n r ReadTry = ltb r.at n
in_range n r ReadCheck = ltb r.at n
in_range n r ReadBack = ltb r.at n
in_range n r Reading = leb r.at n
in_range n r WriteWait = ltb r.at n
in_range n r WriteTake = ltb r.at n
in_range n r Writing = leb r.at n
in_range n r WritePut = ltb r.at n

-- a place inside an operation has that operation
abbrev pub has_its : ℕ → Place → Bool
has_its o Idle = true
has_its o ReadTry = eqb o acquire_read
has_its o ReadCheck = eqb o acquire_read
has_its o ReadBack = eqb o acquire_read
has_its o Reading = true
has_its o WriteWait = eqb o acquire_write || eqb o into_inner
has_its o WriteTake = eqb o acquire_write || eqb o into_inner
has_its o Writing = true
has_its o WritePut = eqb o release_write

-- what is seen is below the top at ReadTry, and 0 elsewhere; what is taken is permitted at Writing, and 0 elsewhere
abbrev pub keeps_seen : ℕ → Rec → Place → Bool
keeps_seen top r p = (is p ReadTry && ltb r.seen.0 top) || (not (is p ReadTry) && eqb r.seen.0 0)

abbrev pub keeps_taken : Pred → Rec → Place → Bool
keeps_taken q r p = (is p Writing && permits q r.taken) || (not (is p Writing) && eqb r.taken 0)

abbrev pub test_rec : Pred → ℕ → ℕ → (ℕ → ℕ) → Rec → Bool
test_rec q top n ops r =
    in_range n r r.place && (has_its (ops r.at) r.place && (keeps_seen top r r.place && keeps_taken q r r.place))

abbrev pub test_mover : Scripts → List Rec → Option ℕ → Bool
test_mover S l None = true
test_mover S l (Some t) = ltb t (length l) && (ltb (here l t).at (S.len t) && (eqb (S.op t (here l t).at) into_inner && eqb (others l t) 0))

unfoldable pub sound : Scripts → Lock → List Rec → Bool
sound S L l =
    leb 1 L.top.0
    && (good L.pred
    && (test_counts L (tally S l)
    && (every (λ j r. test_rec L.pred L.top.0 (S.len j) (S.op j) r) 0 l
    && test_mover S l L.mover)))
