-- When each refusal is given, a constructor for each cause in the table of refusals; and that each answer is exact.
use Rattle.std.specs.Prelude.{ℕ, ◌<◌, ◌≤◌, ◌≡◌, ◌≢◌, true, false, List, length}
use Rattle.cell.specs.Pred.{permits, good}
use Rattle.cell.specs.declared.pred.Pred.{Pred}
use Rattle.machine.specs.Names.{release_write, into_inner, thread_count, top_is_zero, bad_predicate, first_value, script_too_long, wrong_lengths, wrong_code, unsound, no_thread, script_finished, lock_gone, does_not_fit, others_busy, not_permitted, untidy, most_threads, longest_script}
use Rattle.machine.specs.Refusals.{Exact}
use Rattle.machine.specs.Step.{Scripts, here, op_of, val_of, entry_refusal}
use Rattle.machine.specs.Fits.{Fits}
use Rattle.machine.specs.Sound.{Sound}
use Rattle.machine.specs.Lists.{Lent, total, scripts_of, wrong, beside}
use Rattle.machine.specs.Setup.{setup_refusal}
use Rattle.machine.specs.Run.{run_refusal}
use Rattle.machine.specs.Tidy.{Tidy}
use Rattle.machine.specs.Drain.{drain_refusal}
use Rattle.machine.specs.declared.Lock.{Lock}
use Rattle.machine.specs.declared.Rec.{Rec}
use Rattle.std.specs.Prelude.{Some}
use Rattle.machine.specs.declared.Place.TheVariants.{Idle, Writing}

-- at an entry for thread i
pub data AtEntry (S : Scripts) (L : Lock) (l : List Rec) (i : ℕ) : ℕ → Type 0 where
  for_no_thread : length l ≤ i → AtEntry S L l i no_thread
  for_script_finished : S.len i ≤ (here l i).at → AtEntry S L l i script_finished
  lock_finished : L.finished ≡ true → AtEntry S L l i lock_gone
  moved_by_another : (t : ℕ) → L.mover ≡ Some t → t ≢ i → AtEntry S L l i lock_gone
  for_does_not_fit : (Fits (here l i).place (op_of S l i) → ⊥) → AtEntry S L l i does_not_fit
  -- into_inner not yet begun, and another record not Idle
  for_others_busy : op_of S l i ≡ into_inner → L.mover ≢ Some i → (j : ℕ) → j ≢ i → j < length l → (here l j).place ≢ Idle → AtEntry S L l i others_busy
  for_not_permitted : (here l i).place ≡ Writing → op_of S l i ≡ release_write → permits L.pred (val_of S l i) ≡ false → AtEntry S L l i not_permitted

-- of what is lent, with so many records
pub data OfLists (s : Lent) (records : ℕ) : ℕ → Type 0 where
  for_too_long : (t : ℕ) → t < length s.lens → longest_script < (scripts_of s).len t → OfLists s records script_too_long
  operations : length s.ops ≢ total s.lens → OfLists s records wrong_lengths
  values : length s.vals ≢ total s.lens → OfLists s records wrong_lengths
  records : records ≢ length s.lens → OfLists s records wrong_lengths
  no_code : (t k : ℕ) → t < length s.lens → k < (scripts_of s).len t → (scripts_of s).op t k ≡ 0 → OfLists s records wrong_code
  unknown_code : (t k : ℕ) → t < length s.lens → k < (scripts_of s).len t → into_inner < (scripts_of s).op t k → OfLists s records wrong_code
  stray_value : (t k : ℕ) → t < length s.lens → k < (scripts_of s).len t → (scripts_of s).op t k ≢ release_write → (scripts_of s).val t k ≢ 0
      → OfLists s records wrong_code

pub data AtSetup (q : Pred) (m v : ℕ) (s : Lent) (records : ℕ) : ℕ → Type 0 where
  no_threads : length s.lens ≡ 0 → AtSetup q m v s records thread_count
  many_threads : most_threads < length s.lens → AtSetup q m v s records thread_count
  for_top_is_zero : m ≡ 0 → AtSetup q m v s records top_is_zero
  for_bad_predicate : good q ≡ false → AtSetup q m v s records bad_predicate
  for_first_value : permits q v ≡ false → AtSetup q m v s records first_value
  lists : {k : ℕ} → OfLists s records k → AtSetup q m v s records k

pub data AtRun (s : Lent) (L : Lock) (l : List Rec) : ℕ → Type 0 where
  lists : {k : ℕ} → OfLists s (length l) k → AtRun s L l k
  no_threads : length s.lens ≡ 0 → AtRun s L l unsound
  many_threads : most_threads < length s.lens → AtRun s L l unsound
  for_not_sound : (Sound (scripts_of s) L l → ⊥) → AtRun s L l unsound

pub data AtDrain (s : Lent) (L : Lock) (l : List Rec) : ℕ → Type 0 where
  as_run : {k : ℕ} → AtRun s L l k → AtDrain s L l k
  for_not_tidy : (Tidy (scripts_of s) L l → ⊥) → AtDrain s L l untidy

-- ---- each answer is exact: k exactly if k's condition holds and no lower one does, 0 exactly if none holds
abbrev pub EntryExact : Type 0
EntryExact = (S : Scripts) (L : Lock) (l : List Rec) (i : ℕ) → Exact (AtEntry S L l i) (entry_refusal S L l i)

abbrev pub SetupExact : Type 0
SetupExact = (q : Pred) (m v : ℕ) (s : Lent) (records : ℕ) → Exact (AtSetup q m v s records) (setup_refusal q m v s records)

abbrev pub RunExact : Type 0
RunExact = (s : Lent) (L : Lock) (l : List Rec) → Exact (AtRun s L l) (run_refusal s L l)

abbrev pub DrainExact : Type 0
DrainExact = (s : Lent) (L : Lock) (l : List Rec) → Exact (AtDrain s L l) (drain_refusal s L l)

-- ---- what stands beside a number
-- beside 5 the first thread whose script is above 64, where there is one
abbrev pub FirstLong : Type 0
FirstLong =
    (s : Lent) (t : ℕ) → t < length s.lens → longest_script < (scripts_of s).len t
    → let first = (beside s script_too_long).thread in
    (first ≤ t) × (first < length s.lens) × (longest_script < (scripts_of s).len first)

-- thread t has a wrong code or value at its script place k
abbrev pub WrongAt : Lent → ℕ → ℕ → Type 0
WrongAt s t k = (t < length s.lens) × (k < (scripts_of s).len t) × (wrong ((scripts_of s).op t k) ((scripts_of s).val t k) ≡ true)

-- beside 7 the first thread with one, and in it the first script place
abbrev pub FirstWrong : Type 0
FirstWrong =
    (s : Lent) (t k : ℕ) → WrongAt s t k
    → let r = beside s wrong_code in
    WrongAt s r.thread r.place × (r.thread ≤ t) × ((j : ℕ) → WrongAt s r.thread j → r.place ≤ j)

-- the number is the one given, and beside any other than 5 and 7 stands 0
abbrev pub BesideOthers : Type 0
BesideOthers =
    (s : Lent) (k : ℕ)
    → ((beside s k).number ≡ k)
    × (k ≢ script_too_long → k ≢ wrong_code → (beside s k).thread ≡ 0)
    × (k ≢ wrong_code → (beside s k).place ≡ 0)
