-- The machine's operation is the one at each bit. Assumes nothing.
use Rattle.std.proofs.Common.{ap, rules}
use Rattle.atomic.proofs.Bits.{and_is}
use Rattle.atomic_u8.specs.Count.{count}
use Rattle.atomic_u8.proofs.CountValue.and.Goals as goal

pub returns : goal.returns
returns c = ap count (and_is 8 _ _ (search rules) (search rules))
