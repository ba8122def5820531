-- A line of more than 80 bytes is broken, whatever it is; and which line the places stand for. Assumes nothing.
use mathlib.Core.Path.{◌≡◌, sym}
use native.Mathlib.Omega.{arith}
use borrow.Author.Tests.{lt-ltb}
use lib.ListN.{length}
use Rattle.scenario_lines.specs.Bytes.{too_long}
use Rattle.scenario_lines.specs.Judge.{judge, header}
use Rattle.scenario_lines.specs.Laws.{LongIsBroken}
use Rattle.scenario_lines.specs.declared.Line.TheVariants.{Broken}
use Rattle.scenario_lines.proofs.Scans.{equal_unlike}

pub long_is_broken : LongIsBroken
unfolding judge
long_is_broken l h = rw (equal_unlike l header (λ e. omega arith), lt-ltb 80 (length l) h)

pub for_too_long : Broken ≡ judge too_long
for_too_long = sym (long_is_broken too_long (omega arith))
