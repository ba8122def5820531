-- `write_binary` meets its contract. The loop's invariant: n - k digits are left, and storing those of w is storing those of v at the start; at the
-- end all are stored. Assumes nothing.
use Rattle.std.proofs.Common.{◌≡◌, ◌-◌, ◌^◌, ◌<◌, ◌≤◌, length}
use lib.Seq.{sets}
use Rattle.vcd.specs.Binary.{binary}
use Rattle.vcd_text.proofs.write_binary.Given as goal

abbrev pub invariant-loop-k : goal.invariant-loop-k
invariant-loop-k l =
    (l.w < 2 ^ 64)
    × (length l.out ≡ length l.initial.out)
    × (l.k < l.n → (length (binary l.w) ≡ l.n - l.k) × (sets l.initial.out l.at (binary l.v) ≡ sets l.out l.at (binary l.w)))
    × (l.n ≤ l.k → sets l.initial.out l.at (binary l.v) ≡ l.out)
