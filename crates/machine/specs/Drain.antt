-- The drain order, entry by entry, as a relation; and drain, which makes the entries of that order.
use Rattle.std.specs.Prelude.{ℕ, zero, suc, ◌+◌, ◌*◌, ◌≡◌, Bool, true, false, ◌||◌, not, cond, List, [], ◌∷◌, ◌++◌, eqb, leb, length}
use Rattle.machine.specs.Names.{untidy}
use Rattle.machine.specs.Words.{is}
use Rattle.machine.specs.Refusals.{Check, gives, lowest}
use Rattle.machine.specs.Lists.{Lent, scripts_of, beside}
use Rattle.machine.specs.Step.{Scripts, step, here}
use Rattle.machine.specs.Run.{run_checks}
use Rattle.machine.specs.Tidy.{tidy, bound}
use Rattle.machine.specs.declared.Lock.{Lock}
use Rattle.machine.specs.declared.Rec.{Rec}
use Rattle.machine.specs.declared.Refusal.{Refusal}
use Rattle.machine.specs.declared.Place.TheVariants.{Idle, WriteWait}

-- where a record stops: at Idle; at its script's end
abbrev pub at_idle : ℕ → Rec → Bool
at_idle k r = is r.place Idle

abbrev pub at_end : Scripts → ℕ → Rec → Bool
at_end S k r = leb (S.len k) r.at

-- which records have a turn: all but one at WriteWait; the one at WriteWait; all
abbrev pub not_waiting : Rec → Bool
not_waiting r = not (is r.place WriteWait)

abbrev pub waiting : Rec → Bool
waiting r = is r.place WriteWait

abbrev pub all : Rec → Bool
all r = true

-- ---- the order as a relation between a state, the entries made from there and the state that they leave
-- thread i steps until its record stops
pub data Until (stop : ℕ → Rec → Bool) (S : Scripts) (i : ℕ) : Lock → List Rec → List ℕ → Lock → List Rec → Type 0 where
  stops : {L : Lock} {l : List Rec} → stop i (here l i) ≡ true → Until stop S i L l [] L l
  steps : {L M : Lock} {l m : List Rec} {es : List ℕ} → stop i (here l i) ≡ false
      → Until stop S i (step S L l i).lock (step S L l i).recs es M m → Until stop S i L l (i ∷ es) M m

-- the turn of thread i: it steps until its record stops, if the record has a turn
pub data Turn (who : Rec → Bool) (stop : ℕ → Rec → Bool) (S : Scripts) (i : ℕ) : Lock → List Rec → List ℕ → Lock → List Rec → Type 0 where
  skips : {L : Lock} {l : List Rec} → who (here l i) ≡ false → Turn who stop S i L l [] L l
  works : {L M : Lock} {l m : List Rec} {es : List ℕ} → who (here l i) ≡ true → Until stop S i L l es M m → Turn who stop S i L l es M m

-- the turns of the threads k, k + 1 and so on, c of them
pub data Turns (who : Rec → Bool) (stop : ℕ → Rec → Bool) (S : Scripts) : ℕ → ℕ → Lock → List Rec → List ℕ → Lock → List Rec → Type 0 where
  over : {k : ℕ} {L : Lock} {l : List Rec} → Turns who stop S k zero L l [] L l
  turn : {k c : ℕ} {L M N : Lock} {l m n : List Rec} {es fs : List ℕ} → Turn who stop S k L l es M m → Turns who stop S (suc k) c M m fs N n
      → Turns who stop S k (suc c) L l (es ++ fs) N n

-- First each record other than one at WriteWait steps until it is at Idle; then the record at WriteWait does so; then each steps
-- to its script's end.
pub record Order (S : Scripts) (L : Lock) (l : List Rec) (es : List ℕ) (M : Lock) (m : List Rec) : Type 0 where
  pub lock₁ : Lock
  pub recs₁ : List Rec
  pub es₁ : List ℕ
  pub lock₂ : Lock
  pub recs₂ : List Rec
  pub es₂ : List ℕ
  pub es₃ : List ℕ
  pub first : Turns not_waiting at_idle S 0 (length l) L l es₁ lock₁ recs₁
  pub second : Turns waiting at_idle S 0 (length l) lock₁ recs₁ es₂ lock₂ recs₂
  pub third : Turns all (at_end S) S 0 (length l) lock₂ recs₂ es₃ M m
  pub whole : es ≡ es₁ ++ (es₂ ++ es₃)

-- ---- the same, computed. Drain asks at each entry alone whether the record stops, so in the first part it stops at WriteWait too
abbrev pub at_idle_or_wait : ℕ → Rec → Bool
at_idle_or_wait k r = is r.place Idle || is r.place WriteWait

-- what entries leave: the lock, the records, and the entries made
pub record Went : Type 0 where
  pub lock : Lock
  pub recs : List Rec
  pub made : List ℕ

abbrev pub stays : Lock → List Rec → Went
stays L l = record { lock = L; recs = l; made = [] }

abbrev pub after : List ℕ → Went → Went
after es w = record { lock = w.lock; recs = w.recs; made = es ++ w.made }

-- thread i steps until its record stops, at most f times
unfoldable pub until : (ℕ → Rec → Bool) → Scripts → ℕ → ℕ → Lock → List Rec → Went
until stop S i zero L l = stays L l
until stop S i (suc f) L l =
    let w = after (i ∷ []) (until stop S i f (step S L l i).lock (step S L l i).recs) in
    cond (stop i (here l i)) (stays L l) w

-- threads k, k + 1 and so on, c of them, one after the other
unfoldable pub sweep : (ℕ → Rec → Bool) → Scripts → ℕ → ℕ → ℕ → Lock → List Rec → Went
sweep stop S f k zero L l = stays L l
sweep stop S f k (suc c) L l =
    let w = until stop S k f L l in
    after w.made (sweep stop S f (suc k) c w.lock w.recs)

-- enough for every thread to stop
abbrev pub enough : Scripts → List Rec → ℕ
enough S l = bound S l + 2 * length l

unfoldable pub drain : Scripts → Lock → List Rec → Went
drain S L l =
    let f = enough S l in
    let a = sweep at_idle_or_wait S f 0 (length l) L l in
    let b = sweep at_idle S f 0 (length l) a.lock a.recs in
    after a.made (after b.made (sweep (at_end S) S f 0 (length l) b.lock b.recs))

-- ---- drain as it is called
abbrev pub drain_checks : Lent → Lock → List Rec → List Check
drain_checks s L l = run_checks s L l ++ (gives untidy (not (tidy (scripts_of s) L l)) ∷ [])

unfoldable pub drain_refusal : Lent → Lock → List Rec → ℕ
drain_refusal s L l = lowest (drain_checks s L l)

-- what drain leaves: the refusal, whose number is 0 for none; the entries used; the lock; the records
pub record DrainLeft : Type 0 where
  pub refusal : Refusal
  pub n : ℕ
  pub lock : Lock
  pub recs : List Rec

unfoldable pub drain_lent : Lent → Lock → List Rec → DrainLeft
drain_lent s L l =
    let k = drain_refusal s L l in
    let w = drain (scripts_of s) L l in
    cond (eqb k 0)
    (record { refusal = beside s 0; n = length w.made; lock = w.lock; recs = w.recs })
    (record { refusal = beside s k; n = 0; lock = L; recs = l })
