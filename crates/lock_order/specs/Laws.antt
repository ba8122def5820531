-- What the entries are that are written: the drain order and no other; and that a run of them is the drain. And when each number is
-- answered.
use Rattle.std.specs.Prelude.{ℕ, ◌*◌, ◌<◌, ◌≤◌, ◌≡◌, ◌≢◌, List, length, take, drop}
use Rattle.machine.specs.Names.{most_threads, row_words}
use Rattle.machine.specs.Lists.{Lent, scripts_of}
use Rattle.machine.specs.Run.{run}
use Rattle.machine.specs.Tidy.{bound}
use Rattle.machine.specs.Drain.{Order}
use Rattle.machine.specs.Ends.{AllAccepted}
use Rattle.machine.specs.declared.Lock.{Lock}
use Rattle.machine.specs.declared.Rec.{Rec}
use Rattle.lock.specs.ByValue.{run_of, drain_of}
use Rattle.lock_order.specs.Order.{no_room, order_of}

-- the entries that were written
unfoldable pub entries_of : Lent → ℕ → Lock → List Rec → List ℕ → List ℕ
entries_of s count L recs out = take (order_of s count L recs out).n (order_of s count L recs out).out

pub record Ordered (s : Lent) (count : ℕ) (L : Lock) (recs : List Rec) (out : List ℕ) : Type 0 where
  -- they are as many as drain makes, and at most the bound that is told: the plain cost of the state given, and three a thread
  pub many : length (entries_of s count L recs out) ≡ (drain_of s count L recs).n
  pub n : (order_of s count L recs out).n ≡ (drain_of s count L recs).n
  pub told : (order_of s count L recs out).bound ≡ bound (scripts_of s) (take count recs)
  pub bounded : length (entries_of s count L recs out) ≤ (order_of s count L recs out).bound
  -- they are the drain order, from this state to what drain leaves, and nothing else is
  pub order : Order (scripts_of s) L (take count recs) (entries_of s count L recs out) (drain_of s count L recs).lock (drain_of s count L recs).recs
  pub one : (fs : List ℕ) (M : Lock) (m : List Rec) → Order (scripts_of s) L (take count recs) fs M m → fs ≡ entries_of s count L recs out
  -- a run of them refuses none, and leaves what drain leaves
  pub accepted : AllAccepted (run (scripts_of s) L (take count recs) (entries_of s count L recs out)).rows
  pub same_lock : (run (scripts_of s) L (take count recs) (entries_of s count L recs out)).lock ≡ (drain_of s count L recs).lock
  pub same_recs : (run (scripts_of s) L (take count recs) (entries_of s count L recs out)).recs ≡ (drain_of s count L recs).recs
  -- the list keeps its length, and the words behind them
  pub size : length (order_of s count L recs out).out ≡ length out
  pub behind : drop (order_of s count L recs out).n (order_of s count L recs out).out ≡ drop (order_of s count L recs out).n out

abbrev pub OrderIsDrain : Type 0
OrderIsDrain =
    (s : Lent) (count : ℕ) (L : Lock) (recs : List Rec) (out : List ℕ) → length recs ≡ most_threads → (order_of s count L recs out).refusal.number ≡ 0
    → Ordered s count L recs out

-- the same of the run as it is called: with the budget and the room for them, every entry is made and none refused, and lock and records
-- are as drain leaves them
abbrev pub RunOfOrder : Type 0
RunOfOrder =
    (s : Lent) (count : ℕ) (L : Lock) (recs : List Rec) (out : List ℕ) (budget : ℕ) (trace : List ℕ) → length recs ≡ most_threads
    → (order_of s count L recs out).refusal.number ≡ 0
    → (order_of s count L recs out).n ≤ budget
    → row_words * (order_of s count L recs out).n ≤ length trace
    → let left = run_of s count L recs (entries_of s count L recs out) budget trace in
    let d = drain_of s count L recs in
    (left.refusal.number ≡ 0) × (left.n ≡ d.n) × (left.done ≡ d.n) × (left.lock ≡ d.lock) × (left.recs ≡ d.recs)

-- a refusal writes nothing, and tells no bound
abbrev pub RefusedOrder : Type 0
RefusedOrder =
    (s : Lent) (count : ℕ) (L : Lock) (recs : List Rec) (out : List ℕ) → (order_of s count L recs out).refusal.number ≢ 0
    → ((order_of s count L recs out).n ≡ 0) × ((order_of s count L recs out).bound ≡ 0) × ((order_of s count L recs out).out ≡ out)

-- drain's refusals are first, with what stands beside them; then 41, where drain makes more entries than have room
abbrev pub OrderNumbers : Type 0
OrderNumbers =
    (s : Lent) (count : ℕ) (L : Lock) (recs : List Rec) (out : List ℕ)
    → let d = drain_of s count L recs in
    let left = order_of s count L recs out in
    (d.refusal.number ≢ 0 → left.refusal ≡ d.refusal)
    × (d.refusal.number ≡ 0 → length out < d.n → left.refusal ≡ record { number = no_room; thread = 0; place = 0 })
    × (d.refusal.number ≡ 0 → d.n ≤ length out → left.refusal ≡ d.refusal)
