-- What setup makes where it refuses nothing is sound; where it refuses, nothing changes.
use Prim.Native.Nat.{ℕ, ◌≤◌}
use mathlib.Core.Path.{◌≡◌, refl}
use mathlib.Core.Bool.{true}
use native.Mathlib.Omega.{arith}
use lib.ListN.{length}
use package.borrow.Author.Tests.{eqb-false, ne_eqb, not-false}
use Rattle.cell.specs.Pred.{permits}
use Rattle.cell.specs.declared.pred.Pred.{Pred}
use Rattle.machine.specs.Lists.{Lent, scripts_of}
use Rattle.machine.specs.Setup.{setup_checks, setup_refusal, setup, setup_recs}
use Rattle.machine.specs.Demands.{SetupIsSound, RefusedSetup}
use Rattle.machine.proofs.Refusals.{passed}
use Rattle.machine.proofs.Runs.{setup_sound}

-- the top is not 0, and the first value is permitted
pub admits : (q : Pred) (m v : ℕ) (s : Lent) (records : ℕ) → setup_refusal q m v s records ≡ 0 → (1 ≤ m) × (permits q v ≡ true)
unfolding setup_refusal
admits q m v s records none =
    let p = passed 0 (setup_checks q m v s records) (omega arith) none in
    let top = eqb-false m 0 p.1.0 in
    (omega arith, not-false (permits q v) p.1.1.1.0)

pub setup_is_sound : SetupIsSound
unfolding setup setup_recs
setup_is_sound q m v s l none =
    let a = admits q m v s (length l) none in
    (rw none refl, rw none refl, setup_sound (scripts_of s) q m v (length l) a.0 a.1)

pub refused_setup : RefusedSetup
unfolding setup setup_recs
refused_setup q m v s l some = let e = ne_eqb (setup_refusal q m v s (length l)) 0 some in (rw e refl, rw e refl)
