-- Whoever stands in the way has a way on, in a tidy state: it comes to Idle by entries of its own thread, as a turn of the drain order has them, after
-- the readers that it waits for, if it waits for any, have come to Idle in the same way. A reader that sees the flag and the writer that waits for the
-- reader name each other; but the reader needs nothing of the writer, so nobody waits in a circle for ever.
use Rattle.std.specs.Prelude.{ℕ, ◌+◌, ◌<◌, ◌≡◌, ◌≢◌, false, List, length, None, Some}
use Rattle.machine.specs.Step.{Scripts, here, step}
use Rattle.machine.specs.Sound.{Sound}
use Rattle.machine.specs.Run.{run}
use Rattle.machine.specs.Tidy.{Tidy}
use Rattle.machine.specs.Drain.{Until, at_idle}
use Rattle.machine.specs.Ends.{AllAccepted}
use Rattle.machine.specs.declared.Lock.{Lock}
use Rattle.machine.specs.declared.Rec.{Rec}
use Rattle.machine.specs.declared.Place.TheVariants.{Idle}
use Rattle.why.specs.Why.{why}
use Rattle.why.specs.Reasons.{HasFlag, Counted, Names}
use Rattle.why.specs.declared.Reason.TheVariants.{CountFull, CountChanged, Flag, Readers}

-- thread w alone steps until it stands at Idle, and none of its entries is refused; no other record moves, and it is in nobody's way any more: it has put
-- the flag down, or has taken itself off the count
pub record WayOut (S : Scripts) (L : Lock) (l : List Rec) (w : ℕ) : Type 0 where
  pub entries : List ℕ
  pub lock : Lock
  pub recs : List Rec
  pub steps : Until at_idle S w L l entries lock recs
  pub accepted : AllAccepted (run S L l entries).rows
  pub idle : (here recs w).place ≡ Idle
  pub others : (j : ℕ) → j ≢ w → here recs j ≡ here l j
  pub down : HasFlag (here l w) → lock.exc ≡ false
  pub off : Counted (here l w) → lock.rc.0 + 1 ≡ L.rc.0

-- the readers that are named to thread w come out, one after the other, each as it is named
pub data ReadersLeave (S : Scripts) (w : ℕ) : Lock → List Rec → Lock → List Rec → Type 0 where
  all_out : {L : Lock} {l : List Rec} → ReadersLeave S w L l L l
  one_out : {L M : Lock} {l m : List Rec} (v : ℕ) → why S L l w ≡ Readers (Some v) → (o : WayOut S L l v)
      → ReadersLeave S w o.lock o.recs M m → ReadersLeave S w L l M m

-- then it comes out itself. Who waits for no reader needs nobody
pub record WayOn (S : Scripts) (L : Lock) (l : List Rec) (w : ℕ) : Type 0 where
  pub lock : Lock
  pub recs : List Rec
  pub first : ReadersLeave S w L l lock recs
  pub then : WayOut S lock recs w

-- a counted reader comes out by itself, also one that sees the flag of the writer that waits for it
abbrev pub ReadersComeOut : Type 0
ReadersComeOut = (S : Scripts) (L : Lock) (l : List Rec) (w : ℕ) → Sound S L l → Tidy S L l → w < length l → Counted (here l w) → WayOut S L l w

-- whoever is named
abbrev pub NamedGoesOn : Type 0
NamedGoesOn = (S : Scripts) (L : Lock) (l : List Rec) (i w : ℕ) → Sound S L l → Tidy S L l → Names (why S L l i) w → WayOn S L l w

-- where the count is full, a counted reader comes out by itself, and the count goes down
abbrev pub FullGoesDown : Type 0
FullGoesDown =
    (S : Scripts) (L : Lock) (l : List Rec) (i : ℕ) → Sound S L l → Tidy S L l → why S L l i ≡ CountFull
    → (w : ℕ) × (w < length l) × Counted (here l w) × WayOut S L l w

-- a thread that finds the count changed needs nobody: its next step brings it to Idle, where it looks again. Of any sound state
abbrev pub ChangedLooksAgain : Type 0
ChangedLooksAgain =
    (S : Scripts) (L : Lock) (l : List Rec) (i : ℕ) → Sound S L l → why S L l i ≡ CountChanged
    → ((step S L l i).row.answer ≡ 0) × ((here (step S L l i).recs i).place ≡ Idle)

-- and nobody waits for a dropped handle, behind which there is no way on
abbrev pub NoneForDropped : Type 0
NoneForDropped =
    (S : Scripts) (L : Lock) (l : List Rec) (i : ℕ) → Sound S L l → Tidy S L l → (why S L l i ≢ Flag None) × (why S L l i ≢ Readers None)
