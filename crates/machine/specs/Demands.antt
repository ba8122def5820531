-- The demands on every schedule, one named statement each. Demand 3 is in specs/Ends.antt.
use Rattle.std.specs.Prelude.{ℕ, ◌+◌, ◌<◌, ◌≤◌, ◌≡◌, ◌≢◌, Bool, true, ◌||◌, List, [], ◌∷◌, reverse, length}
use Rattle.cell.specs.Pred.{permits}
use Rattle.cell.specs.declared.pred.Pred.{Pred}
use Rattle.machine.specs.Words.{is, unused}
use Rattle.machine.specs.Step.{Scripts, here, step}
use Rattle.machine.specs.Sound.{tally, Sound}
use Rattle.machine.specs.Lists.{Lent, scripts_of, beside}
use Rattle.machine.specs.Setup.{fresh, setup, setup_refusal, setup_recs}
use Rattle.machine.specs.Run.{Ran, run}
use Rattle.machine.specs.Tidy.{Tidy}
use Rattle.machine.specs.Ends.{Drained}
use Rattle.machine.specs.Trace.{current, place_of, Told, Borrowed}
use Rattle.machine.specs.declared.Lock.{Lock}
use Rattle.machine.specs.declared.Rec.{Rec}
use Rattle.machine.specs.declared.Place.{Place}
use Rattle.std.specs.Prelude.{Err, Ok}
use Rattle.machine.specs.declared.Place.TheVariants.{Reading, WriteTake, Writing, WritePut}

-- ---- soundness
abbrev pub SetupIsSound : Type 0
SetupIsSound =
    (q : Pred) (m v : ℕ) (s : Lent) (l : List Rec) → setup_refusal q m v s (length l) ≡ 0
    → (setup q m v s (length l) ≡ Ok (unused q m v))
    × (setup_recs q m v s l ≡ fresh (length l))
    × Sound (scripts_of s) (unused q m v) (fresh (length l))

-- a refused setup makes no lock, and the records stay
abbrev pub RefusedSetup : Type 0
RefusedSetup =
    (q : Pred) (m v : ℕ) (s : Lent) (l : List Rec) → setup_refusal q m v s (length l) ≢ 0
    → (setup q m v s (length l) ≡ Err (beside s (setup_refusal q m v s (length l)))) × (setup_recs q m v s l ≡ l)

-- every step keeps it, accepted or refused, from every sound state
abbrev pub StepKeepsSound : Type 0
StepKeepsSound = (S : Scripts) (L : Lock) (l : List Rec) (i : ℕ) → Sound S L l → Sound S (step S L l i).lock (step S L l i).recs

-- ---- a property of what every schedule makes of every setup. The first value is permitted, so the predicate's parameter is good
abbrev pub FromSetup : (Scripts → ℕ → Ran → Type 0) → Type 0
FromSetup P = (S : Scripts) (q : Pred) (m v n : ℕ) → 1 ≤ m → permits q v ≡ true → (schedule : List ℕ) → P S v (run S (unused q m v) (fresh n) schedule)

abbrev pub AlwaysSound : Type 0
AlwaysSound = FromSetup (λ S v w. Sound S w.lock w.recs)

-- ---- demand 2a: exclusion
abbrev pub past8 : Place → Bool
past8 p = is p WriteTake || (is p Writing || is p WritePut)

-- a writer past code 8 who has not cleared the flag: a record, a dropped write, the one who finished the lock
pub data Writer (L : Lock) (l : List Rec) : Type 0 where
  at_work : (i : ℕ) → i < length l → past8 (here l i).place ≡ true → Writer L l
  dropped : (k : ℕ) → k < L.writes.0 → Writer L l
  finisher : L.finished ≡ true → Writer L l

-- a read handle, held or dropped
pub data Reader (L : Lock) (l : List Rec) : Type 0 where
  holder : (i : ℕ) → i < length l → is (here l i).place Reading ≡ true → Reader L l
  forgotten : (k : ℕ) → k < L.reads.0 → Reader L l

abbrev pub SameWriter : {L : Lock} {l : List Rec} → Writer L l → Writer L l → Type 0
SameWriter (at_work i h p) (at_work j g q) = i ≡ j
SameWriter (at_work i h p) (dropped k g) = ⊥
SameWriter (at_work i h p) (finisher e) = ⊥
SameWriter (dropped k h) (at_work i g q) = ⊥
SameWriter (dropped k h) (dropped j g) = k ≡ j
SameWriter (dropped k h) (finisher e) = ⊥
SameWriter (finisher e) (at_work i h p) = ⊥
SameWriter (finisher e) (dropped k h) = ⊥
SameWriter (finisher e) (finisher f) = Unit {0}

-- Who is a writer and who a reader, from below, so that what is said of them is said of all: the five kinds of writer, the two kinds of
-- read handle.
abbrev pub WhoIsThere : Type 0
WhoIsThere =
    (L : Lock) (l : List Rec)
    → ((i : ℕ) → i < length l
    → ((here l i).place ≡ WriteTake → Writer L l)
    × ((here l i).place ≡ Writing → Writer L l)
    × ((here l i).place ≡ WritePut → Writer L l)
    × ((here l i).place ≡ Reading → Reader L l))
    × (0 < L.writes.0 → Writer L l)
    × (L.finished ≡ true → Writer L l)
    × (0 < L.reads.0 → Reader L l)

-- And who is a second writer: another record, another dropped handle, one of another kind; in whichever order they are named.
abbrev pub WhoIsAnother : Type 0
WhoIsAnother =
    (L : Lock) (l : List Rec)
    → let Same : Writer L l → Writer L l → Type 0 = λ x y. SameWriter x y in
    let Past8 : ℕ → Type 0 = λ i. past8 (here l i).place ≡ true in
    ((i j : ℕ) (a : i < length l) (b : j < length l) (p : Past8 i) (q : Past8 j) → Same (at_work i a p) (at_work j b q) → i ≡ j)
    × ((i k : ℕ) (a : i < length l) (p : Past8 i) (c : k < L.writes.0) → Same (at_work i a p) (dropped k c) → ⊥)
    × ((i : ℕ) (a : i < length l) (p : Past8 i) (e : L.finished ≡ true) → Same (at_work i a p) (finisher e) → ⊥)
    × ((k m : ℕ) (c : k < L.writes.0) (d : m < L.writes.0) → Same (dropped k c) (dropped m d) → k ≡ m)
    × ((k : ℕ) (c : k < L.writes.0) (e : L.finished ≡ true) → Same (dropped k c) (finisher e) → ⊥)
    × ((x y : Writer L l) → Same x y → Same y x)

-- no such writer stands beside a read handle or beside a second such writer
abbrev pub Apart : Lock → List Rec → Type 0
Apart L l = (Writer L l → Reader L l → ⊥) × ((a b : Writer L l) → SameWriter a b)

abbrev pub Demand2a : Type 0
Demand2a = FromSetup (λ S v w. Apart w.lock w.recs)

-- ---- demand 2b: the count equals pending, held and dropped readers
abbrev pub Counted : Scripts → Lock → List Rec → Type 0
Counted S L l =
    let N = tally S l in
    L.rc.0 ≡ N.check + N.back + N.reading + L.reads.0

abbrev pub Demand2b : Type 0
Demand2b = FromSetup (λ S v w. Counted S w.lock w.recs)

-- and it never goes above M
abbrev pub CountAtMostTop : Type 0
CountAtMostTop = FromSetup (λ S v w. w.lock.rc.0 ≤ w.lock.top.0)

-- ---- 2a, 2b and that the count is at most M, of every sound state: run and drain take states from outside, and scripts are lent anew
abbrev pub Safe : Scripts → Lock → List Rec → Type 0
Safe S L l = Apart L l × Counted S L l × (L.rc.0 ≤ L.top.0)

abbrev pub SoundIsSafe : Type 0
SoundIsSafe = (S : Scripts) (L : Lock) (l : List Rec) → Sound S L l → Safe S L l

-- ---- the script places of the records are those that the rows say
abbrev pub PlacesTold : Type 0
PlacesTold = FromSetup (λ S v w. (j : ℕ) → j < length w.recs → (here w.recs j).at ≡ place_of j (reverse w.rows))

-- ---- demand 2c: each borrow, take and into_inner got what the last finished release put, or the first value
abbrev pub Demand2c : Type 0
Demand2c = FromSetup (λ S v w. Told S v (reverse w.rows))

-- thread j is Reading before every entry of the schedule
unfoldable pub HoldsThrough : Scripts → ℕ → Lock → List Rec → List ℕ → Type 0
HoldsThrough S j L l [] = Unit {0}
HoldsThrough S j L l (i ∷ more) = (is (here l j).place Reading ≡ true) × HoldsThrough S j (step S L l i).lock (step S L l i).recs more

-- Handles held at once borrow the same value: from where thread i holds one, through entries in which it does, and then through
-- entries in which thread j holds one, every borrow, by whomever, gets the value that was the present one at the start.
abbrev pub ReadersMatch : Type 0
ReadersMatch =
    FromSetup (λ S v w. (i j : ℕ) (first second : List ℕ)
    → let u = run S w.lock w.recs first in
    HoldsThrough S i w.lock w.recs first
    → HoldsThrough S j u.lock u.recs second
    → Borrowed (current v (reverse w.rows)) u.rows × Borrowed (current v (reverse w.rows)) (run S u.lock u.recs second).rows)

-- ---- demand 3, of what every schedule makes of every setup
abbrev pub Demand3FromSetup : Type 0
Demand3FromSetup = FromSetup (λ S v w. Tidy S w.lock w.recs → Drained S w.lock w.recs)
