-- `write_bytes` meets its contract. Assumes nothing.
use Prim.Native.Nat.{◌+◌, ◌-◌}
use mathlib.Core.Path.{◌≡◌, refl}
use mathlib.Core.List.{append_assoc}
use native.Mathlib.Omega.{arith}
use lib.ListN.{length}
use Rattle.std.proofs.Common.{drop-drop}
use Rattle.std.proofs.lemmas.List.Edits.{sets-eq}
use Rattle.scenario_text.proofs.Stores.{puts}
use Rattle.scenario_text.proofs.write_bytes.Goals as goal

pub returns : goal.returns
returns c =
    let a = c.args in
    let s = a.s.now in
    let e : a.at + length s - a.at ≡ length s = omega arith in
    puts a.out.now _ s a.at (a.at + length s) (length s) refl
    (rw (c.copy_from_slice.ensures.after, e, sets-eq s a.out.now a.at c.requires, append_assoc, drop-drop) refl)
    (omega arith)
