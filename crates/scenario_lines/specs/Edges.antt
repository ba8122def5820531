-- The edges of what a line may say: the last that is accepted beside the first that is not, each computed.
use Rattle.std.specs.Prelude.{ℕ, ◌^◌, ◌-◌, ◌≡◌, List, ◌++◌, length, replicate}
use Prim.Native.String.{String}
use Rattle.scenario_lines.specs.Ascii.{bytes}
use Rattle.scenario_lines.specs.Bytes.{longest}
use Rattle.scenario_lines.specs.Judge.{judge}
use Rattle.scenario_lines.specs.declared.Line.{Line}
use Rattle.scenario_lines.specs.declared.Line.TheVariants.{Broken, Header, BadNumber, Lock, Pred, Op, Run, NoKind}

-- a text as a line
abbrev pub Says : String → Line → Type 0
Says text line = judge (bytes text) ≡ line

abbrev pub largest : ℕ
largest = 2 ^ 64 - 1

-- 2 ^ 64 - 1 is a number at each place, and 2 ^ 64 at none
abbrev pub LargestNumber : Type 0
LargestNumber =
    Says "lock,18446744073709551615,5,16" (Lock largest 5 16)
    × Says "lock,18446744073709551616,5,16" BadNumber
    × Says "pred,1,18446744073709551615,13" (Pred 1 largest 13)
    × Says "pred,1,18446744073709551616,13" BadNumber
    × Says "op,0,5,18446744073709551615" (Op 0 5 largest)
    × Says "op,0,5,18446744073709551616" BadNumber

-- 0 is a number, and no other number begins with it
abbrev pub Zeros : Type 0
Zeros = Says "op,0,10,0" (Op 0 10 0) × Says "op,00,10,0" BadNumber × Says "op,0,010,0" BadNumber × Says "op,0,10," BadNumber

-- the digits are 0 to 9: the bytes beside them are none
abbrev pub Digits : Type 0
Digits = Says "op,9,0,9" (Op 9 0 9) × Says "op,/,0,9" BadNumber × Says "op,:,0,9" BadNumber

-- thread 255 may run, 256 may not; 1 to 65535 times, and the last field is 0
abbrev pub RunLine : Type 0
RunLine =
    Says "run,255,65535,0" (Run 255 65535)
    × Says "run,256,65535,0" BadNumber
    × Says "run,255,65536,0" BadNumber
    × Says "run,255,65535,1" BadNumber
    × Says "run,0,1,0" (Run 0 1)
    × Says "run,0,0,0" BadNumber

-- a kind is one of four, in these letters, and nothing stands beside it
abbrev pub Kind : Type 0
Kind = Says "lock,1,2,3" (Lock 1 2 3) × Says "Lock,1,2,3" NoKind × Says "lock ,1,2,3" NoKind × Says ",1,2,3" NoKind × Says "lock,1,2, 3" BadNumber

-- four fields, no fewer and no more; the header is the one line without numbers that is named
abbrev pub FourFields : Type 0
FourFields =
    Says "lock,1,2" Broken
    × Says "lock,1,2,3" (Lock 1 2 3)
    × Says "lock,1,2,3," Broken
    × Says "kind,a,b,c" Header
    × Says "kind,a,b,d" BadNumber
    × Says "kind,a,b" Broken

-- 80 bytes have a form, 81 have none. A kind and three numbers make 67 bytes at most, so that a line of 80 has a kind or a number that is none
abbrev pub wide : ℕ → List ℕ
wide n = replicate n 107 ++ bytes ",1,2,3"

abbrev pub zeros : ℕ → List ℕ
zeros n = bytes "op,0,1,1" ++ replicate n 48

abbrev pub Longest : Type 0
Longest =
    (length (wide 74) ≡ longest)
    × (judge (wide 74) ≡ NoKind)
    × (judge (wide 75) ≡ Broken)
    × (length (zeros 72) ≡ longest)
    × (judge (zeros 72) ≡ BadNumber)
    × (judge (zeros 73) ≡ Broken)

-- ---- the one statement
abbrev pub Edges : Type 0
Edges = LargestNumber × Zeros × Digits × RunLine × Kind × FourFields × Longest
