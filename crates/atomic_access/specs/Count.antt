-- The count of a number.
use Rattle.std.specs.Prelude.{ℕ}
use Rattle.atomic.specs.declared.Count.{Count}

abbrev pub count : ℕ → Count
count n = record { 0 = n }
