-- A row as its six words.
use Rattle.std.specs.Prelude.{ℕ, List, [], ◌∷◌}
use Rattle.machine.specs.declared.Row.{Row}

abbrev pub words_of_row : Row → List ℕ
words_of_row r = r.thread ∷ r.access ∷ r.answer ∷ r.got ∷ r.exc ∷ r.rc ∷ []
