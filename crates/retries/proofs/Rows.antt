-- Rows counted by a test, piece after piece.
use Prim.Native.Nat.{◌+◌}
use mathlib.Core.Path.{◌≡◌}
use mathlib.Core.Bool.{Bool}
use mathlib.Core.List.{List, [], ◌∷◌, ◌++◌}
use native.Mathlib.Omega.{arith}
use Rattle.machine.specs.declared.Row.{Row}
use Rattle.retries.specs.Rows.{counted}

pub counted_append : (test : Row → Bool) (rows more : List Row) → counted test (rows ++ more) ≡ counted test rows + counted test more
unfolding counted
counted_append test [] more = omega arith
counted_append test (r ∷ rows) more = omega (arith, counted_append test rows more)
