-- What setup, run and drain answer is exact, a refusal exactly where its condition holds and no lower one does, and none exactly where no
-- condition holds; and the state after setup: said of what the functions of `lock` return, and over a list of records.
use Rattle.std.specs.Prelude.{ℕ, ◌<◌, ◌≡◌, List, length, get_or, take, drop}
use Rattle.cell.specs.declared.pred.Pred.{Pred}
use Rattle.machine.specs.Names.{unsound, untidy, most_threads}
use Rattle.machine.specs.Words.{unused}
use Rattle.machine.specs.Refusals.{Nothing, Exact}
use Rattle.machine.specs.Lists.{Lent, scripts_of, beside}
use Rattle.machine.specs.Sound.{Sound}
use Rattle.machine.specs.Tidy.{Tidy}
use Rattle.machine.specs.Setup.{setup, setup_recs}
use Rattle.machine.specs.SetupLaws.{Unused, Fresh}
use Rattle.machine.specs.Run.{RunLeft, run_lent}
use Rattle.machine.specs.Drain.{DrainLeft, drain_lent}
use Rattle.machine.specs.When.{OfLists, AtSetup, AtRun, AtDrain}
use Rattle.machine.specs.declared.Lock.{Lock}
use Rattle.machine.specs.declared.Rec.{Rec}
use Rattle.machine.specs.declared.Refusal.{Refusal}
use Rattle.std.specs.Prelude.{Err, Ok, Result}
use Rattle.lock.specs.declared.run.RunReturn.{RunReturn}
use Rattle.lock.specs.declared.setup.Begun.{Begun}
use Rattle.lock.specs.declared.drain.DrainReturn.{DrainReturn}
use Rattle.lock_promises.specs.Given.{ReturnedBySetup, ReturnedByRun, ReturnedByRest, ReturnedByDrain, refusal_in}

-- the refusal's number is exact, and beside it stands what belongs there: machine's `FirstLong` and `FirstWrong` say what
abbrev pub ExactRefusal : (ℕ → Type 0) → Lent → Refusal → Type 0
ExactRefusal When s why = Exact When why.number × (why ≡ beside s why.number)

-- ---- setup
-- the number of what setup answers, 0 where it makes a lock
abbrev pub number_of : Result Lock Refusal → ℕ
number_of (Ok L) = 0
number_of (Err why) = why.number

-- so many records are lent; where no condition holds, a lock is made
pub record SetupSays (q : Pred) (m v : ℕ) (s : Lent) (records : ℕ) (start : Result Lock Refusal) : Type 0 where
  pub exact : Exact (AtSetup q m v s records) (number_of start)
  pub next_to : (why : Refusal) → start ≡ Err why → why ≡ beside s why.number
  pub made : Nothing (AtSetup q m v s records) → start ≡ Ok (unused q m v)

abbrev pub SetupAnswer : Type 0
SetupAnswer =
    (s : Lent) (q : Pred) (m v : ℕ) (l : List Rec) (start : Result Lock Refusal) → start ≡ setup q m v s (length l) → SetupSays q m v s (length l) start

abbrev pub SetupAnswerByValue : Type 0
SetupAnswerByValue =
    (s : Lent) (q : Pred) (m v count : ℕ) (recs : List Rec) (b : Begun) → ReturnedBySetup s q m v count recs b → SetupSays q m v s count b.start

-- the lock that is made is an unused one, and there are so many records, which have done nothing
abbrev pub BeginsWith : Pred → ℕ → ℕ → Lock → ℕ → List Rec → Type 0
BeginsWith q m v L n l = Unused q m v L × (length l ≡ n) × ((i : ℕ) (none : Rec) → i < n → Fresh (get_or l i none))

abbrev pub SetupState : Type 0
SetupState =
    (s : Lent) (q : Pred) (m v : ℕ) (l : List Rec) (start : Result Lock Refusal) (l' : List Rec) (L : Lock)
    → start ≡ setup q m v s (length l) → l' ≡ setup_recs q m v s l → start ≡ Ok L
    → BeginsWith q m v L (length l) l'

-- of the first `count` records; the other records of the array stay
abbrev pub SetupStateByValue : Type 0
SetupStateByValue =
    (s : Lent) (q : Pred) (m v count : ℕ) (recs : List Rec) (b : Begun) (L : Lock) → length recs ≡ most_threads → ReturnedBySetup s q m v count recs b
    → b.start ≡ Ok L
    → Unused q m v L
    × (length b.recs ≡ most_threads)
    × ((i : ℕ) (none : Rec) → i < count → Fresh (get_or b.recs i none))
    × (drop count b.recs ≡ drop count recs)

-- ---- run
abbrev pub RunAnswer : Type 0
RunAnswer =
    (s : Lent) (L : Lock) (l : List Rec) (schedule : List ℕ) (budget : ℕ) (trace : List ℕ) (left : RunLeft) → left ≡ run_lent s L l schedule budget trace
    → ExactRefusal (AtRun s L l) s left.refusal

-- With records by value the count is what check 6 compares; the records l are the first `count` of the array. A count other than the
-- number of lengths has the condition of 6, a count above 16 that is their number that of 10.
pub data AtRunOf (s : Lent) (count : ℕ) (L : Lock) (l : List Rec) : ℕ → Type 0 where
  lists : {k : ℕ} → OfLists s count k → AtRunOf s count L l k
  no_threads : length s.lens ≡ 0 → AtRunOf s count L l unsound
  many_threads : most_threads < length s.lens → AtRunOf s count L l unsound
  for_not_sound : (Sound (scripts_of s) L l → ⊥) → AtRunOf s count L l unsound

abbrev pub RunAnswerByValue : Type 0
RunAnswerByValue =
    (s : Lent) (count : ℕ) (L : Lock) (recs : List Rec) (schedule : List ℕ) (budget : ℕ) (trace : List ℕ) (r : RunReturn)
    → ReturnedByRun s count L recs schedule budget trace r
    → ExactRefusal (AtRunOf s count L (take count recs)) s (refusal_in r.ran.refusal)

-- a later piece, by run_rest, is refused as a run is
abbrev pub RestAnswerByValue : Type 0
RestAnswerByValue =
    (s : Lent) (count : ℕ) (L : Lock) (recs : List Rec) (schedule : List ℕ) (budget used : ℕ) (trace : List ℕ) (r : RunReturn)
    → ReturnedByRest s count L recs schedule budget used trace r
    → ExactRefusal (AtRunOf s count L (take count recs)) s (refusal_in r.ran.refusal)

-- ---- drain
abbrev pub DrainAnswer : Type 0
DrainAnswer = (s : Lent) (L : Lock) (l : List Rec) (left : DrainLeft) → left ≡ drain_lent s L l → ExactRefusal (AtDrain s L l) s left.refusal

pub data AtDrainOf (s : Lent) (count : ℕ) (L : Lock) (l : List Rec) : ℕ → Type 0 where
  as_run : {k : ℕ} → AtRunOf s count L l k → AtDrainOf s count L l k
  for_not_tidy : (Tidy (scripts_of s) L l → ⊥) → AtDrainOf s count L l untidy

abbrev pub DrainAnswerByValue : Type 0
DrainAnswerByValue =
    (s : Lent) (count : ℕ) (L : Lock) (recs : List Rec) (d : DrainReturn) → ReturnedByDrain s count L recs d
    → ExactRefusal (AtDrainOf s count L (take count recs)) s (refusal_in d.drained.refusal)
