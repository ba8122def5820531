-- Scenario files, whole, with what they print: case A, each refusal at its line, and the edges of the rules. Each is computed.
use Rattle.std.specs.Prelude.{ℕ, ◌≡◌, List, [], ◌∷◌, ◌++◌, length, replicate}
use Prim.Native.String.{String}
use Rattle.scenario_lines.specs.Ascii.{bytes}
use Rattle.scenario_lines.specs.Edges.{wide}
use Rattle.scenario.specs.Printed.{printed}

-- lines, each with its break
abbrev pub file : List String → List ℕ
file [] = []
file (l ∷ ls) = bytes l ++ (bytes "\r\n" ++ file ls)

-- a file prints the header and these lines
abbrev pub Prints : List ℕ → List String → Type 0
Prints f ls = printed f ≡ file ("n,thread,access,answer,got,exc,rc" ∷ ls)

abbrev pub opening : List String
opening = "kind,a,b,c" ∷ "lock,3,5,1" ∷ "pred,1,5,13" ∷ []

-- ---- 1: case A
abbrev pub CaseA : Type 0
CaseA =
    Prints
    (file (opening ++ ("op,0,1,0" ∷ "op,0,2,0" ∷ "op,0,3,0" ∷ "run,0,6,0" ∷ [])))
    ("0,0,1,0,0,0,0" ∷ "1,0,2,0,0,0,1" ∷ "2,0,3,0,0,0,1" ∷ "3,0,5,0,5,0,1" ∷ "4,0,6,0,1,0,0" ∷ "5,0,0,12,0,0,0" ∷ [])

-- ---- 2: the last break is optional
abbrev pub NoLastBreak : Type 0
NoLastBreak = Prints (file (opening ++ ("op,0,7,0" ∷ [])) ++ bytes "run,0,1,0") ("0,0,7,0,0,1,0" ∷ [])

-- ---- 3: no run line prints the header alone; a thread without an op line has an empty script
abbrev pub NoRunLine : Type 0
NoRunLine = Prints (file opening) [] × Prints (file (opening ++ ("op,0,1,0" ∷ []))) []

abbrev pub NoOpLine : Type 0
NoOpLine = Prints (file (opening ++ ("run,0,1,0" ∷ "run,255,1,0" ∷ []))) ("0,0,0,12,0,0,0" ∷ "1,255,0,11,0,0,0" ∷ [])

-- ---- 4: rows before a refusal stand, and nothing after it is read
abbrev pub RowsStand : Type 0
RowsStand =
    Prints (file (opening ++ ("op,0,1,0" ∷ "run,0,1,0" ∷ "op,0,1,0" ∷ "run,0,1,0" ∷ []))) ("0,0,1,0,0,0,0" ∷ "refused,32,6" ∷ [])
    -- after a run line too: a number out of range, an unknown kind, a line of the wrong form, another pred line
    × Prints (file (opening ++ ("run,0,1,0" ∷ "run,0,0,0" ∷ "run,0,1,0" ∷ []))) ("0,0,0,12,0,0,0" ∷ "refused,31,5" ∷ [])
    × Prints (file (opening ++ ("run,0,1,0" ∷ "stop,0,0,0" ∷ "run,0,1,0" ∷ []))) ("0,0,0,12,0,0,0" ∷ "refused,32,5" ∷ [])
    × Prints (file (opening ++ ("run,0,1,0" ∷ "run,0,1" ∷ "run,0,1,0" ∷ []))) ("0,0,0,12,0,0,0" ∷ "refused,31,5" ∷ [])
    × Prints (file (opening ++ ("run,0,1,0" ∷ "pred,0,0,0" ∷ "run,0,1,0" ∷ []))) ("0,0,0,12,0,0,0" ∷ "refused,32,5" ∷ [])

-- ---- 5: 31, by its causes
-- each is the second line of a file
abbrev pub Second : String → String → Type 0
Second line why = Prints (file ("kind,a,b,c" ∷ line ∷ [])) (why ∷ [])

-- each is the line after this lock line
abbrev pub Third : String → String → Type 0
Third line why = Prints (file ("kind,a,b,c" ∷ "lock,3,5,1" ∷ line ∷ [])) (why ∷ [])

-- each is the line after the opening
abbrev pub Fourth : String → String → Type 0
Fourth line why = Prints (file (opening ++ (line ∷ []))) (why ∷ [])

abbrev pub WrongForm : Type 0
WrongForm =
    Second "lock,3,5" "refused,31,2"
    × Second "lock,3,5,1,0" "refused,31,2"
    × Second "" "refused,31,2"
    × Second "lock,3,5,\"1\"" "refused,31,2"
    × Second "lock,3,5\r,1" "refused,31,2"
    × Second "lock,3\n,5,1" "refused,31,2"
    × Prints (bytes "kind,a,b,c\r") ("refused,31,1" ∷ [])
    × Prints (bytes "kind,a,b,c\nlock,3,5,1\n") ("refused,31,1" ∷ [])

-- CR CR LF is a CR in its line and a break, on line 1 and after it
abbrev pub TwoReturns : Type 0
TwoReturns = Prints (bytes "kind,a,b,c\r\r\n") ("refused,31,1" ∷ []) × Second "lock,3,5,1\r" "refused,31,2"

-- on line 1 too 31 comes before 32: without four fields a line is no header by its form
abbrev pub FirstLine : Type 0
FirstLine =
    Prints (file ("kind,a,b" ∷ [])) ("refused,31,1" ∷ [])
    × Prints (file ("kind,a,b,c,d" ∷ [])) ("refused,31,1" ∷ [])
    × Prints (file ("" ∷ [])) ("refused,31,1" ∷ [])
    × Prints (file ("kind,a,b," ∷ [])) ("refused,32,1" ∷ [])

-- 80 bytes before the break are allowed, 81 are not: a line of that width is that of `scenario_lines`
abbrev pub Longest : Type 0
Longest =
    (length (wide 74) ≡ 80)
    × Prints (wide 74 ++ bytes "\r\n") ("refused,32,1" ∷ [])
    × Prints (wide 75 ++ bytes "\r\n") ("refused,31,1" ∷ [])
    × Prints (wide 75) ("refused,31,1" ∷ [])

abbrev pub WrongNumber : Type 0
WrongNumber =
    Second "lock,03,5,1" "refused,31,2"
    × Second "lock,3,,1" "refused,31,2"
    × Second "lock,3,5,+1" "refused,31,2"
    × Second "lock,18446744073709551616,5,1" "refused,31,2"
    × Second "kind,a,b,c" "refused,31,2"
    × Second "foo,x,2,3" "refused,31,2"
    × Fourth "run,256,1,0" "refused,31,4"
    × Fourth "run,0,0,0" "refused,31,4"
    × Fourth "run,0,65536,0" "refused,31,4"
    × Fourth "run,0,1,1" "refused,31,4"

-- ---- 6: 32, by its causes
abbrev pub WrongHeader : Type 0
WrongHeader = Prints (file ("kind,a,b,d" ∷ [])) ("refused,32,1" ∷ []) × Prints (file ("lock,3,5,1" ∷ [])) ("refused,32,1" ∷ [])

abbrev pub WrongOrder : Type 0
WrongOrder =
    Second "foo,1,2,3" "refused,32,2"
    × Second "pred,1,5,13" "refused,32,2"
    × Second "run,0,1,0" "refused,32,2"
    × Fourth "lock,3,5,1" "refused,32,4"
    × Fourth "pred,1,5,13" "refused,32,4"
    × Fourth "op,1,1,0" "refused,32,4"
    × Prints (file ("kind,a,b,c" ∷ "lock,3,5,2" ∷ "pred,0,0,0" ∷ "op,1,1,0" ∷ "op,0,1,0" ∷ [])) ("refused,32,5" ∷ [])
    × Prints (file (opening ++ ("run,0,1,0" ∷ "op,0,1,0" ∷ []))) ("0,0,0,12,0,0,0" ∷ "refused,32,5" ∷ [])

-- a bad line at the third and at the fourth place: an unknown kind, a line of the wrong form, a broken number
abbrev pub BadLater : Type 0
BadLater =
    Third "foo,1,2,3" "refused,32,3"
    × Third "pred,1,5" "refused,31,3"
    × Third "pred,1,5,x" "refused,31,3"
    × Fourth "foo,1,2,3" "refused,32,4"
    × Fourth "op,0,1" "refused,31,4"

-- a missing line, at the line after the last
abbrev pub Missing : Type 0
Missing =
    Prints [] ("refused,32,1" ∷ [])
    × Prints (file ("kind,a,b,c" ∷ [])) ("refused,32,2" ∷ [])
    × Prints (file ("kind,a,b,c" ∷ "lock,3,5,1" ∷ [])) ("refused,32,3" ∷ [])

-- ---- 7: setup's numbers
-- with these lock and pred lines
abbrev pub Opened : String → String → String → Type 0
Opened lock pred why = Prints (file ("kind,a,b,c" ∷ lock ∷ pred ∷ [])) (why ∷ [])

abbrev pub AtThePred : Type 0
AtThePred =
    Opened "lock,3,5,0" "pred,1,5,13" "refused,1,3"
    × Opened "lock,0,5,17" "pred,3,5,13" "refused,1,3"
    × Opened "lock,0,5,1" "pred,3,5,13" "refused,2,3"
    × Opened "lock,3,5,1" "pred,3,5,13" "refused,3,3"
    × Opened "lock,3,5,1" "pred,2,2,0" "refused,3,3"
    × Opened "lock,3,6,1" "pred,1,5,13" "refused,4,3"
    × Opened "lock,3,5,1" "pred,2,0,0" "refused,4,3"

-- the last that is accepted: all of 64 bits as M, 16 threads, each kind, each end of its parameters
abbrev pub AcceptedPred : String → String → Type 0
AcceptedPred lock pred = Prints (file ("kind,a,b,c" ∷ lock ∷ pred ∷ [])) []

abbrev pub NoneAtThePred : Type 0
NoneAtThePred =
    AcceptedPred "lock,18446744073709551615,5,16" "pred,1,5,13"
    × AcceptedPred "lock,1,13,1" "pred,1,5,13"
    × AcceptedPred "lock,1,18446744073709551615,1" "pred,0,2,2"
    × AcceptedPred "lock,1,5,1" "pred,2,1,2"
    × AcceptedPred "lock,1,0,1" "pred,2,0,0"

abbrev pub AtTheOp : Type 0
AtTheOp =
    Fourth "op,0,8,0" "refused,7,4"
    × Fourth "op,0,0,0" "refused,7,4"
    × Fourth "op,0,4,5" "refused,7,4"
    × Fourth "op,1,8,0" "refused,32,4"

-- the 65th op line of a thread
abbrev pub TooLong : Type 0
TooLong =
    Prints (file (opening ++ replicate 64 "op,0,2,0")) []
    × Prints (file (opening ++ replicate 65 "op,0,2,0")) ("refused,5,68" ∷ [])

-- 5 comes before 7: the 65th has a wrong code, or a value beside a code that takes none
abbrev pub TooLongAndWrong : Type 0
TooLongAndWrong =
    Prints (file (opening ++ (replicate 64 "op,0,2,0" ++ ("op,0,8,0" ∷ [])))) ("refused,5,68" ∷ [])
    × Prints (file (opening ++ (replicate 64 "op,0,2,0" ++ ("op,0,4,5" ∷ [])))) ("refused,5,68" ∷ [])

-- the largest value, the last code, and the last of 16 threads
abbrev pub NoneAtTheOp : Type 0
NoneAtTheOp =
    Prints (file (opening ++ ("op,0,5,18446744073709551615" ∷ "op,0,1,0" ∷ "op,0,7,0" ∷ []))) []
    × Prints (file ("kind,a,b,c" ∷ "lock,3,5,16" ∷ "pred,1,5,13" ∷ "op,15,1,0" ∷ [])) []
    × Prints (file ("kind,a,b,c" ∷ "lock,3,5,16" ∷ "pred,1,5,13" ∷ "op,16,1,0" ∷ [])) ("refused,32,4" ∷ [])

-- ---- 8: the rows are those of the lock, the scripts and the threads that the lines say, each seen in a row
abbrev pub RunsAsRead : Type 0
RunsAsRead =
    -- M is 2, two readers (case C)
    Prints (file ("kind,a,b,c" ∷ "lock,2,5,2" ∷ "pred,0,0,0" ∷ "op,0,1,0" ∷ "op,1,1,0" ∷ "run,0,3,0" ∷ "run,1,2,0" ∷ []))
    ("0,0,1,0,0,0,0" ∷ "1,0,2,0,0,0,1" ∷ "2,0,3,0,0,0,1" ∷ "3,1,1,0,1,0,1" ∷ "4,1,2,0,1,0,2" ∷ [])
    -- an exchange that failed, with what it found: the count, another than was seen (case E), and the flag, up
    × Prints (file ("kind,a,b,c" ∷ "lock,2,5,2" ∷ "pred,0,0,0" ∷ "op,0,1,0" ∷ "op,1,1,0" ∷ "run,1,1,0" ∷ "run,0,3,0" ∷ "run,1,1,0" ∷ []))
    ("0,1,1,0,0,0,0" ∷ "1,0,1,0,0,0,0" ∷ "2,0,2,0,0,0,1" ∷ "3,0,3,0,0,0,1" ∷ "4,1,13,0,1,0,1" ∷ [])
    × Prints (file ("kind,a,b,c" ∷ "lock,2,5,2" ∷ "pred,0,0,0" ∷ "op,0,4,0" ∷ "op,1,4,0" ∷ "run,0,1,0" ∷ "run,1,1,0" ∷ []))
    ("0,0,7,0,0,1,0" ∷ "1,1,14,0,1,1,0" ∷ [])
    -- the first value is 13
    × Prints (file ("kind,a,b,c" ∷ "lock,3,13,1" ∷ "pred,1,5,13" ∷ "op,0,1,0" ∷ "op,0,2,0" ∷ "run,0,4,0" ∷ []))
    ("0,0,1,0,0,0,0" ∷ "1,0,2,0,0,0,1" ∷ "2,0,3,0,0,0,1" ∷ "3,0,5,0,13,0,1" ∷ [])
    -- 5 or 13 is permitted: 7 is refused at its release (case K), 13 is put and read
    × Prints (file (opening ++ ("op,0,4,0" ∷ "op,0,5,7" ∷ "run,0,4,0" ∷ [])))
    ("0,0,7,0,0,1,0" ∷ "1,0,8,0,0,1,0" ∷ "2,0,9,0,5,1,0" ∷ "3,0,0,16,0,1,0" ∷ [])
    × Prints (file (opening ++ ("op,0,4,0" ∷ "op,0,5,13" ∷ "op,0,1,0" ∷ "op,0,2,0" ∷ "run,0,9,0" ∷ [])))
    ("0,0,7,0,0,1,0" ∷ "1,0,8,0,0,1,0" ∷ "2,0,9,0,5,1,0" ∷ "3,0,10,0,13,1,0" ∷ "4,0,11,0,0,0,0" ∷ "5,0,1,0,0,0,0" ∷ "6,0,2,0,0,0,1" ∷ "7,0,3,0,0,0,1" ∷ "8,0,5,0,13,0,1" ∷ [])
    -- the first thread that there is none of
    × Prints (file (opening ++ ("run,1,1,0" ∷ []))) ("0,1,0,11,0,0,0" ∷ [])

-- ---- the one statement
abbrev pub Cases : Type 0
Cases =
    CaseA
    × NoLastBreak
    × NoRunLine
    × NoOpLine
    × RowsStand
    × WrongForm
    × TwoReturns
    × FirstLine
    × Longest
    × WrongNumber
    × WrongHeader
    × WrongOrder
    × BadLater
    × Missing
    × AtThePred
    × NoneAtThePred
    × AtTheOp
    × TooLong
    × TooLongAndWrong
    × NoneAtTheOp
    × RunsAsRead
