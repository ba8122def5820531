-- Scenario files, whole, with the answers that they print. Each is computed.
use Rattle.std.specs.Prelude.{◌≡◌, List, [], ◌∷◌, ◌++◌}
use Prim.Native.String.{String}
use Rattle.scenario.specs.Cases.{file}
use Rattle.why_prints.specs.Prints.{why_printed}

-- a reader, a writer, and a thread with no operation
abbrev three : List String
three = "kind,a,b,c" ∷ "lock,2,5,3" ∷ "pred,1,5,13" ∷ "op,0,1,0" ∷ "op,0,3,0" ∷ "op,1,4,0" ∷ "op,1,5,13" ∷ []

-- the file of three with these lines behind prints these
abbrev Prints : List String → List String → Type 0
Prints more answers = why_printed (file (three ++ more)) ≡ file answers

-- the reader sees the flag, which the writer holds; the writer waits for the reader; the third has no next step
abbrev pub WaitsPrinted : Type 0
WaitsPrinted = Prints ("run,0,2,0" ∷ "run,1,1,0" ∷ []) ("thread,answer,reason,who" ∷ "0,0,3,1" ∷ "1,0,5,0" ∷ "2,12,0,0" ∷ [])

-- without a run line it is asked as it is set up
abbrev pub SetUpPrinted : Type 0
SetUpPrinted = Prints [] ("thread,answer,reason,who" ∷ "0,0,0,0" ∷ "1,0,0,0" ∷ "2,12,0,0" ∷ [])

-- a refused scenario prints its refusal alone, also behind run lines
abbrev pub RefusedPrinted : Type 0
RefusedPrinted =
    Prints ("run,0,2,0" ∷ "op,0,1,0" ∷ "run,1,1,0" ∷ []) ("refused,32,9" ∷ []) × (why_printed (file ("kind,a,b,c" ∷ "lock,0,5,1" ∷ "pred,0,0,0" ∷ [])) ≡ file ("refused,2,3" ∷ []))

abbrev pub Cases : Type 0
Cases = WaitsPrinted × SetUpPrinted × RefusedPrinted
