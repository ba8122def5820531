-- Records taken out of a lent list of any length, and put back: the array that the functions of `lock` are given, and the list with an
-- array put back.
use Rattle.std.specs.Prelude.{ℕ, List}
use Rattle.machine.specs.Names.{most_threads}
use Rattle.machine.specs.Setup.{fresh}
use Rattle.machine.specs.declared.Rec.{Rec}
use Rattle.lock_lent.specs.Exchange.{front, shared}

-- the first sixteen records of a list; where it has fewer, records as setup makes them fill the array
abbrev pub taken : List Rec → List Rec
taken l = front (shared l) l (fresh most_threads)

-- the list with an array put back; its records past the sixteenth were never taken
abbrev pub back : List Rec → List Rec → List Rec
back l array = front (shared l) array l
