-- The numbers of refusals, as they are printed.
use Rattle.std.specs.Prelude.{ℕ}
use Rattle.vcd.specs.declared.Refusal.{Refusal}
use Rattle.vcd.specs.declared.Refusal.TheVariants.{NoRoom, NoWave, NoTrace}

abbrev pub number_of : Refusal → ℕ
number_of NoRoom = 41
number_of NoWave = 42
number_of NoTrace = 43
