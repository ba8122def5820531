-- The numbers of the rules that a scenario file has besides the machine's, by name.
use Rattle.std.specs.Prelude.{ℕ, ◌^◌}

abbrev pub broken_line : ℕ
broken_line = 31

abbrev pub wrong_line : ℕ
wrong_line = 32

-- the numbers of lines and rows are printed modulo this
abbrev pub counted_to : ℕ
counted_to = 2 ^ 64
