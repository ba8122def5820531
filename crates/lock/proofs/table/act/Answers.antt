-- `act` meets its contract: in each arm the place is known. Assumes nothing.
use mathlib.Core.Path.{◌≡◌, ap, sym, ◌∙◌}
use Prim.Native.Nat.{ℕ}
use Rattle.machine.specs.Step.{act}
use Rattle.machine.specs.declared.Lock.{Lock}
use Rattle.machine.specs.declared.Rec.{Rec}
use Rattle.machine.specs.declared.Place.{Place}
use Rattle.lock.proofs.table.act.Goals as goal

there : (i : ℕ) (L : Lock) (r : Rec) (o v : ℕ) {p : Place} → r.place ≡ p → act i L r p o v ≡ act i L r r.place o v
there i L r o v e = ap (λ (q : Place). act i L r q o v) (sym e)

pub returns-in-Idle : goal.returns-in-Idle
returns-in-Idle c = let a = c.args in c.at_idle.ensures a.v ∙ there a.i a.lock a.rec a.op a.v c.in-Idle.is

pub returns-in-Reading : goal.returns-in-Reading
returns-in-Reading c = let a = c.args in c.at_reading.ensures a.i a.v ∙ there a.i a.lock a.rec a.op a.v c.in-Reading.is

pub returns-in-WriteTake : goal.returns-in-WriteTake
returns-in-WriteTake c = let a = c.args in c.at_take.ensures a.i a.v ∙ there a.i a.lock a.rec a.op a.v c.in-WriteTake.is

pub returns-in-Writing : goal.returns-in-Writing
returns-in-Writing c = let a = c.args in c.at_writing.ensures a.i ∙ there a.i a.lock a.rec a.op a.v c.in-Writing.is
