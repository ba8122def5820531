-- What drain returns over a lent list of records.
use Rattle.std.specs.Prelude.{ℕ}
use Rattle.machine.specs.Lists.{some_refusal}
use Rattle.machine.specs.Drain.{DrainLeft}
use Rattle.machine.specs.declared.Lock.{Lock}
use Rattle.machine.specs.declared.Refusal.{Refusal}
use Rattle.lock.specs.declared.drain.Drained.{Drained}

-- what a drain leaves beside the lent list
pub record DrainedLeft : Type 0 where
  pub refusal : Refusal
  pub n : ℕ
  pub lock : Lock

abbrev pub drained_of : DrainLeft → DrainedLeft
drained_of left = record { refusal = left.refusal; n = left.n; lock = left.lock }

-- what is returned of it
abbrev pub drained_told : DrainedLeft → Drained
drained_told d = record { refusal = some_refusal d.refusal; n = d.n; lock = d.lock }
