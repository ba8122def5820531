-- Where there is room, what `put_end` stores is what is answered. Assumes nothing.
use Prim.Native.Nat.{ℕ, ◌+◌, ◌≤◌}
use mathlib.Core.Path.{◌≡◌, ap, ◌∙◌}
use mathlib.Core.Bool.{true}
use mathlib.Core.List.{List}
use native.Mathlib.Nat.{zero-add}
use native.Mathlib.Omega.{arith}
use lib.Dec.{leb}
use lib.ListN.{length, take}
use lib.Seq.{sets}
use borrow.Author.Tests.{le-leb}
use Rattle.machine.specs.Lists.{lists}
use Rattle.scenario_text.specs.Put.{place_after, stored}
use Rattle.scenario_pieces.specs.declared.Standing.{Standing}
use Rattle.scenario_promises.specs.Piped.{standing_of}
use Rattle.program_intake.specs.declared.Came.{Came}
use Rattle.why_prints.specs.Prints.{end_text}
use Rattle.program_why.specs.Answered.{answered}

pub stored_so : {r : ℕ} {out' : List ℕ} (came : Came) (lens ops vals out a b c : List ℕ) (p : Standing)
    → p ≡ standing_of came.intake.state came.intake.standing → a ≡ take came.intake.state.read.threads lens
    → b ≡ take came.intake.state.read.count ops → c ≡ take came.intake.state.read.count vals → 1386 ≤ length out
    → (r ≡ place_after 1386 out 0 (end_text came.stop (lists a b c) p)) × (out' ≡ stored 1386 out 0 (end_text came.stop (lists a b c) p))
    → (r ≡ length (answered came lens ops vals)) × (out' ≡ sets out 0 (answered came lens ops vals))
unfolding answered
stored_so {r} {out'} came lens ops vals out a b c p p_is a_is b_is c_is enough (place, left) =
    let same : end_text came.stop (lists a b c) p ≡ answered came lens ops vals = λ i. end_text came.stop (lists (a_is i) (b_is i) (c_is i)) (p_is i) in
    let fits : leb (0 + 1386) (length out) ≡ true = le-leb (0 + 1386) (length out) (omega arith) in
    ((rw (fits, zero-add (length (end_text came.stop (lists a b c) p))) at place) ∙ ap length same, (rw fits at left) ∙ ap (sets out 0) same)
