-- With as many records as are counted, what is answered is what is answered over the list of them.
use Rattle.std.specs.Prelude.{ℕ, ◌≤◌, ◌≡◌, List, length, take}
use Rattle.machine.specs.Lists.{Lent}
use Rattle.machine.specs.declared.Lock.{Lock}
use Rattle.machine.specs.declared.Rec.{Rec}
use Rattle.why.specs.Told.{told_lent}
use Rattle.why_code.specs.ByValue.{told_of}

abbrev pub AsLent : Type 0
AsLent = (s : Lent) (count : ℕ) (L : Lock) (recs : List Rec) (i : ℕ) → count ≤ length recs → told_of s count L recs i ≡ told_lent s L (take count recs) i
