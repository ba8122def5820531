-- `is_wrong` meets its contract. Assumes nothing.
use Rattle.replay.specs.Numbers.{on_purpose}
use Rattle.replay.proofs.numbers.is_wrong.Goals as goal

pub returns-in-Some : goal.returns-in-Some
unfolding on_purpose
returns-in-Some c =
    simp (← c.find.ensures, ← c.part.ensures, ← c.parse_number-what.ensures, c.in-Some.is)

pub returns-in-None : goal.returns-in-None
unfolding on_purpose
returns-in-None c =
    simp (← c.find.ensures, ← c.part.ensures, ← c.parse_number-what.ensures, c.in-None.is)
