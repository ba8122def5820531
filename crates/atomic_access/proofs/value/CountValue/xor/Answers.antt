-- The machine's operation is the one at each bit. Assumes nothing.
use Rattle.std.proofs.Common.{ap, rules}
use Rattle.atomic.proofs.Bits.{xor_is}
use Rattle.atomic_access.specs.Count.{count}
use Rattle.atomic_access.proofs.value.CountValue.xor.Goals as goal

pub returns : goal.returns
returns c = ap count (xor_is 64 _ _ (search rules) (search rules))
