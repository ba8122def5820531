-- The machine's operation is the one at each bit. Assumes nothing.
use Rattle.std.proofs.Common.{ap, rules}
use Rattle.atomic.proofs.Bits.{and_is}
use Rattle.atomic_access.specs.Count.{count}
use Rattle.atomic_access.proofs.value.CountValue.and.Goals as goal

pub returns : goal.returns
returns c = ap count (and_is 64 _ _ (search rules) (search rules))
