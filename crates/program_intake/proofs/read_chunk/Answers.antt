-- `read_chunk` meets its contract: what std says of the number read keeps it within the chunk. Assumes nothing.
use Rattle.std.specs.Prelude.{ℕ, ◌≡◌, true, false, List, ℤ, pos, negsuc, length, IfOk, IfErr}
use Rattle.std.specs.Io.{ReadsAtMost}
use Rattle.std.specs.declared.result.Result.{Result}
use Rattle.std.specs.declared.result.Result.TheVariants.{Ok, Err}
use Rattle.std.proofs.Common.{rules}
use Rattle.std.proofs.Math.Nat.{min-eq_left}
use Rattle.io.specs.Counts.{clamp_len}
use Rattle.program_chunks.specs.Chunks.{read_of}
use Rattle.program_chunks.specs.declared.Input.{Input}
use Rattle.program_intake.specs.Intake.{failed}
use Rattle.program_intake.proofs.read_chunk.Goals as goal

-- so many bytes, or below 0
read : {E : Type 0} (r : Result ℕ E) (j : Input) (chunk : List ℕ) → ReadsAtMost r chunk → IfOk r (λ n. j ≡ read_of n false) → IfErr r (λ e. j ≡ read_of 0 true)
    → (answer : ℤ) × (j ≡ read_of (clamp_len answer (length chunk)) (failed answer))
read (Ok n) j chunk within ok err = (pos n, rw (min-eq_left within.0) ok)
read (Err e) j chunk within ok err = (negsuc 0, err)

pub returns : goal.returns
returns c = record { stays_so = λ e. search (rules, e); read_so = λ e. read c.read.result c.gave.result c.read.new.buf c.read.ensures.bound c.gave.ensures.ok c.gave.ensures.err }
