-- Rows and lines are printed with their own numbers. Assumes nothing.
use Prim.Native.Nat.{ℕ, ◌+◌}
use mathlib.Core.Path.{ap, ◌∙◌}
use mathlib.Core.List.{◌++◌}
use native.Mathlib.Nat.{mod-eq_of_lt}
use native.Mathlib.Omega.{arith}
use borrow.Author.Tests.{ne_eqb}
use Rattle.scenario_text.specs.Lines.{row_text, refusal}
use Rattle.scenario.specs.Printed.{rows_text}
use Rattle.scenario.specs.Numbered.{RowsNumbered, LinesNumbered, LineRefused, AllTaken}
use Rattle.scenario.proofs.Named.{from_start, taken_all}

pub rows_numbered : RowsNumbered
unfolding rows_text
rows_numbered n row rows h = ap (λ (m : ℕ). row_text m row ++ rows_text (n + 1) rows) (mod-eq_of_lt h)

pub lines_numbered : LinesNumbered
lines_numbered r some h = rw (ne_eqb r.refused 0 some) (ap (refusal r.refused) (mod-eq_of_lt h))

pub line_refused : LineRefused
line_refused file some =
    let g = from_start file in
    let (line, there, is) = g.refused some in
    rw (taken_all file) (omega (arith, line), there, is)

pub all_taken : AllTaken
all_taken file none =
    let (all, line) = (from_start file).whole none in
    (taken_all file ∙ all, omega (arith, line, all))
