-- With the records taken out of a list of any length, and its length as the count, what is answered by value is what is answered of the
-- list. A list longer than 16 is refused: 6 where 6 applies, else 10.
use Rattle.std.specs.Prelude.{ℕ, ◌≡◌, List, length}
use Rattle.machine.specs.Lists.{Lent}
use Rattle.machine.specs.declared.Lock.{Lock}
use Rattle.machine.specs.declared.Rec.{Rec}
use Rattle.lock_lent.specs.Taken.{taken}
use Rattle.why.specs.Told.{told_lent}
use Rattle.why_code.specs.ByValue.{told_of}

abbrev pub ToldAnyLength : Type 0
ToldAnyLength = (s : Lent) (L : Lock) (l : List Rec) (i : ℕ) → told_of s (length l) L (taken l) i ≡ told_lent s L l i
