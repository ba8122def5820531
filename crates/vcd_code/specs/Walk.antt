-- What is said of text that is gone through in pieces, stored or not.
use Rattle.std.specs.Prelude.{ℕ, Bool, cond, List, ◌++◌, leb, length, Result, Ok, Err}
use Rattle.std.proofs.lemmas.List.Edits.{sets}
use Rattle.scenario_text.specs.Put.{stored}
use Rattle.vcd.specs.Wave.{after, changes, close}
use Rattle.vcd.specs.declared.Signals.{Signals}
use Rattle.vcd.specs.declared.Wave.{Wave}
use Rattle.vcd.specs.declared.Refusal.{Refusal}
use Rattle.vcd.specs.declared.Refusal.TheVariants.{NoRoom}

-- the rows from p on, and the close
abbrev pub rest_of : Wave → List Signals → List ℕ
rest_of p xs = changes p xs ++ close (after p xs)

-- the answer to a text that ends at n
abbrev pub told : ℕ → ℕ → Result ℕ Refusal
told room n = cond (leb n room) (Ok n) (Err NoRoom)

-- the list after a text, and after a piece that may have no room
abbrev pub keeps : Bool → List ℕ → ℕ → List ℕ → List ℕ
keeps storing l at x = cond storing (sets l at x) l

abbrev pub passes : Bool → List ℕ → ℕ → List ℕ → List ℕ
passes storing l at x = cond storing (stored (length x) l at x) l
