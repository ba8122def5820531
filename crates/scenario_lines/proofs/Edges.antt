-- The edges of what a line may say, computed. Assumes nothing.
use mathlib.Core.Path.{refl}
use Rattle.scenario_lines.specs.Number.{digits, plainly, decimal, number}
use Rattle.scenario_lines.specs.Judge.{equal, clean, fields, kinds, judge}
use Rattle.scenario_lines.specs.Edges.{LargestNumber, Zeros, Digits, RunLine, Kind, FourFields, Longest, Edges}

largest_number : LargestNumber
unfolding digits plainly decimal number equal clean fields kinds judge
largest_number = (refl, refl, refl, refl, refl, refl)

zeros : Zeros
unfolding digits plainly decimal number equal clean fields kinds judge
zeros = (refl, refl, refl, refl)

only_digits : Digits
unfolding digits plainly decimal number equal clean fields kinds judge
only_digits = (refl, refl, refl)

run_line : RunLine
unfolding digits plainly decimal number equal clean fields kinds judge
run_line = (refl, refl, refl, refl, refl, refl)

kind : Kind
unfolding digits plainly decimal number equal clean fields kinds judge
kind = (refl, refl, refl, refl, refl)

four_fields : FourFields
unfolding digits plainly decimal number equal clean fields kinds judge
four_fields = (refl, refl, refl, refl, refl, refl)

longest : Longest
unfolding digits plainly decimal number equal clean fields kinds judge
longest = (refl, refl, refl, refl, refl, refl)

pub edges : Edges
edges = (largest_number, zeros, only_digits, run_line, kind, four_fields, longest)
