-- How often the exchange on the count can fail: not more often than others changed the count. All is counted on the rows of the trace.
use Rattle.std.specs.Prelude.{ℕ, ◌+◌, ◌-◌, ◌*◌, ◌≤◌, Bool, ◌||◌, ◌&&◌, not, List, eqb, length}
use Rattle.machine.specs.Names.{exchanges_rc, gives_back, releases_rc, fails_rc}
use Rattle.machine.specs.Words.{bit, is}
use Rattle.machine.specs.Step.{Scripts, here, unmoved, sum}
use Rattle.machine.specs.Run.{run}
use Rattle.retries.specs.Rows.{counted}
use Rattle.machine.specs.Demands.{FromSetup}
use Rattle.machine.specs.declared.Lock.{Lock}
use Rattle.machine.specs.declared.Rec.{Rec}
use Rattle.machine.specs.declared.Row.{Row}
use Rattle.machine.specs.declared.Place.TheVariants.{ReadTry}

-- ---- rows
-- row 13: an exchange on the count that failed
abbrev pub lost : Row → Bool
lost r = eqb r.access fails_rc

-- rows 2, 4 and 6: those that change the count
abbrev pub changes : Row → Bool
changes r = eqb r.access exchanges_rc || (eqb r.access gives_back || eqb r.access releases_rc)

abbrev pub by : ℕ → Row → Bool
by t r = eqb r.thread t

-- ---- how many there are
-- thread t's rows 13
abbrev pub lost_by : ℕ → List Row → ℕ
lost_by t rows = counted (λ r. lost r && by t r) rows

-- the rows 2, 4 and 6 of thread t, and of the other threads
abbrev pub changed_by : ℕ → List Row → ℕ
changed_by t rows = counted (λ r. changes r && by t r) rows

abbrev pub changed_by_others : ℕ → List Row → ℕ
changed_by_others t rows = counted (λ r. changes r && not (by t r)) rows

-- (threads - 1) times all rows 2, 4 and 6
abbrev pub most_lost : ℕ → List Row → ℕ
most_lost threads rows = (threads - 1) * counted changes rows

-- ---- every schedule from setup
-- one thread's rows 13 are no more than the rows 2, 4 and 6 of other threads
abbrev pub LostByOne : Type 0
LostByOne = FromSetup (λ S v w. (t : ℕ) → lost_by t w.rows ≤ changed_by_others t w.rows)

-- all rows 13 together are at most (threads - 1) times all rows 2, 4 and 6
abbrev pub LostByAll : Type 0
LostByAll = FromSetup (λ S v w. counted lost w.rows ≤ most_lost (length w.recs) w.rows)

-- ---- every schedule from any state, sound or not
-- 1 for a record that stands before its exchange with a count that is not what it saw: if it came now, its exchange would fail
abbrev pub stale : Lock → Rec → ℕ
stale L r = bit (is r.place ReadTry && not (unmoved L r))

-- how many such records there are
abbrev pub stale_among : Lock → List Rec → ℕ
stale_among L l = sum (λ j r. stale L r) 0 l

-- what is left over at the start can fail too, and what would fail at the end is paid for by then
abbrev pub LostOnTheWay : Type 0
LostOnTheWay =
    (S : Scripts) (L : Lock) (l : List Rec) (schedule : List ℕ) (t : ℕ)
    → let w = run S L l schedule in
    lost_by t w.rows + stale w.lock (here w.recs t) ≤ changed_by_others t w.rows + stale L (here l t)

abbrev pub AllOnTheWay : Type 0
AllOnTheWay =
    (S : Scripts) (L : Lock) (l : List Rec) (schedule : List ℕ)
    → let w = run S L l schedule in
    counted lost w.rows + stale_among w.lock w.recs ≤ most_lost (length l) w.rows + stale_among L l
