-- `still` meets its contract. The loop's invariant: storing here what is left is storing all at the start. Assumes nothing.
use Rattle.std.proofs.Common.{◌≡◌, ◌+◌, ◌-◌, ◌*◌, length, replicate}
use lib.Seq.{sets}
use Rattle.vcd.specs.Trace.{words}
use Rattle.vcd_code.proofs.fill.still.Given as goal

abbrev pub invariant-loop-k : goal.invariant-loop-k
invariant-loop-k l =
    (length l.out ≡ length l.initial.out) × (sets l.initial.out l.at (words (replicate l.n l.s)) ≡ sets l.out (l.at + 2 * l.k) (words (replicate (l.n - l.k) l.s)))
