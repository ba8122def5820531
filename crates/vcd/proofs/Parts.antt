-- What a row and the close write, where the signals or the times are the same and where they are not. Assumes nothing.
use Prim.Native.Nat.{ℕ}
use mathlib.Core.Bool.{Bool, true, cond}
use mathlib.Core.Path.{◌≡◌, ap}
use mathlib.Core.Logic.{◌≢◌}
use mathlib.Core.List.{List, [], ◌++◌}
use borrow.Author.Tests.{eq-eqb, ne_eqb}
use Rattle.vcd.specs.Blocks.{time_line, same, changed, change}
use Rattle.vcd.specs.Wave.{close}
use Rattle.vcd.specs.declared.Signals.{Signals}
use Rattle.vcd.specs.declared.Wave.{Wave}

module _ (t : ℕ) (s x : Signals) where
  abbrev change_by : Bool → List ℕ
  change_by b = cond b [] (time_line t ++ changed s x)

  pub change_none : same s x ≡ true → change t s x ≡ []
  unfolding change
  change_none e = ap change_by e

pub close_none : (p : Wave) → p.time ≡ p.written → close p ≡ []
unfolding close
close_none p e = rw (eq-eqb p.time p.written e)

pub close_some : (p : Wave) → p.time ≢ p.written → close p ≡ time_line p.time
unfolding close
close_some p e = rw (ne_eqb p.time p.written e)
