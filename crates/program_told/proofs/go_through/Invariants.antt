-- `go_through` meets its contract. The loop's invariant: what is held after the bytes that are left is what is held after all. Assumes nothing.
use Rattle.std.proofs.Common.{◌≡◌, drop}
use Rattle.program_told.specs.Told.{through}
use Rattle.program_told.proofs.go_through.Given as goal

abbrev pub invariant-loop-i : goal.invariant-loop-i
invariant-loop-i l = through l.initial.h (drop l.from l.chunk) ≡ through l.h (drop l.i l.chunk)
