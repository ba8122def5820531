-- What setup answers to a caller that holds the records by value: how it started, and the array with the first n records as they are made.
use Rattle.std.specs.Prelude.{ℕ, List}
use Rattle.machine.specs.declared.Rec.{Rec}
use Rattle.std.specs.Prelude.{Result}
use Rattle.machine.specs.declared.Refusal.{Refusal}
use Rattle.machine.specs.declared.Lock.{Lock}
use Rattle.lock.specs.ByValue.{put_back}
use Rattle.lock.specs.declared.setup.Begun.{Begun}

abbrev pub begun_with : ℕ → List Rec → Result Lock Refusal → List Rec → Begun
begun_with n recs start l = record { start = start; recs = put_back n recs l }
