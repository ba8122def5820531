-- Drain as code: where a thread stops, a drain under way, and what drain leaves, with records by value.
use Rattle.std.specs.Prelude.{ℕ, ◌+◌, ◌^◌, ◌<◌, ◌≡◌, Bool, ◌||◌, List, leb, length, take}
use Rattle.machine.specs.Words.{is}
use Rattle.machine.specs.Lists.{Lent, some_refusal}
use Rattle.machine.specs.Step.{Scripts, busy}
use Rattle.machine.specs.Drain.{Went, DrainLeft}
use Rattle.machine.specs.declared.Lock.{Lock}
use Rattle.machine.specs.declared.Rec.{Rec}
use Rattle.machine.specs.declared.Place.TheVariants.{Idle, WriteWait}
use Rattle.lock.specs.ByValue.{put_back}
use Rattle.lock.specs.Run.{Ready}
use Rattle.lock.specs.declared.drain.Drained.{Drained}
use Rattle.lock.specs.declared.drain.DrainReturn.{DrainReturn}
use Rattle.lock.specs.declared.drain.Going.{Going}
use Rattle.lock.specs.declared.drain.Stop.{Stop}
use Rattle.lock.specs.declared.drain.Stop.TheVariants.{IdleOrWait, Idle as IdleOnly, End}

-- a record with a script of the length n stops
abbrev pub stops_at : Stop → ℕ → Rec → Bool
stops_at IdleOrWait n r = is r.place Idle || is r.place WriteWait
stops_at IdleOnly n r = is r.place Idle
stops_at End n r = leb n r.at

-- thread k's record stops
abbrev pub stop_of : Stop → Scripts → ℕ → Rec → Bool
stop_of stop S k r = stops_at stop (S.len k) r

-- a drain under way that is not refused: what is kept beside the state is true of it
pub record UnderWay (s : Lent) (g : Going) : Type 0 where
  pub state : Ready s g.lock g.recs
  pub busy : g.busy ≡ busy (take (length s.lens) g.recs)
  pub size : length g.recs ≡ 16
  pub wide : g.lock.top.0 < 2 ^ 64

-- a drain begins
abbrev pub start_of : Lent → Lock → List Rec → Going
start_of s L recs = record { lock = L; recs = recs; busy = busy (take (length s.lens) recs); used = 0 }

-- what the entries that left w make of it
abbrev pub going_of : Lent → Going → Went → Going
going_of s g w =
    record { lock = w.lock; recs = put_back (length s.lens) g.recs w.recs; busy = busy w.recs; used = g.used + length w.made }

-- what is answered beside the records
abbrev pub drain_told : DrainLeft → Drained
drain_told left = record { refusal = some_refusal left.refusal; n = left.n; lock = left.lock }

-- the array is recs
abbrev pub drained_of : ℕ → List Rec → DrainLeft → DrainReturn
drained_of count recs left = record { drained = drain_told left; recs = put_back count recs left.recs }
