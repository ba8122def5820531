-- Which states from outside are sound, computed.
use mathlib.Core.Path.{refl}
use Rattle.cell.specs.Pred.{permits, good}
use Rattle.machine.specs.Refusals.{lowest}
use Rattle.machine.specs.Step.{sum}
use Rattle.machine.specs.Sound.{every, sound}
use Rattle.machine.specs.Lists.{total, find, beside}
use Rattle.machine.specs.Run.{run_refusal, run_lent}
use Rattle.machine.specs.Outside.{AtHome, OneMore, FlagTurned, CellTurned, WrongInCell, Seen, Taken, OtherBusy, Clause1, Clause2, Clause3, Clause4, Clause5, Clause6, Clause7, Clause8, Clause9, Clause10, Clause11, Clause12, Clause13, Clause14, Clause15, Unsound, SoundFromOutside}
use Rattle.machine.specs.declared.Place.TheVariants.{Idle, ReadTry, ReadCheck, ReadBack, Reading, WriteWait, WriteTake, Writing, WritePut}

-- ---- at each place
at_home : AtHome
unfolding run_refusal run_lent lowest permits good total find beside every sound sum
at_home Idle = refl
at_home ReadTry = refl
at_home ReadCheck = refl
at_home ReadBack = refl
at_home Reading = refl
at_home WriteWait = refl
at_home WriteTake = refl
at_home Writing = refl
at_home WritePut = refl

one_more : OneMore
unfolding run_refusal run_lent lowest permits good total find beside every sound sum
one_more Idle = refl
one_more ReadTry = refl
one_more ReadCheck = refl
one_more ReadBack = refl
one_more Reading = refl
one_more WriteWait = refl
one_more WriteTake = refl
one_more Writing = refl
one_more WritePut = refl

flag_turned : FlagTurned
unfolding run_refusal run_lent lowest permits good total find beside every sound sum
flag_turned Idle = refl
flag_turned ReadTry = refl
flag_turned ReadCheck = refl
flag_turned ReadBack = refl
flag_turned Reading = refl
flag_turned WriteWait = refl
flag_turned WriteTake = refl
flag_turned Writing = refl
flag_turned WritePut = refl

cell_turned : CellTurned
unfolding run_refusal run_lent lowest permits good total find beside every sound sum
cell_turned Idle = refl
cell_turned ReadTry = refl
cell_turned ReadCheck = refl
cell_turned ReadBack = refl
cell_turned Reading = refl
cell_turned WriteWait = refl
cell_turned WriteTake = refl
cell_turned Writing = refl
cell_turned WritePut = refl

wrong_in_cell : WrongInCell
unfolding run_refusal run_lent lowest permits good total find beside every sound sum
wrong_in_cell Idle other = refl
wrong_in_cell ReadTry other = refl
wrong_in_cell ReadCheck other = refl
wrong_in_cell ReadBack other = refl
wrong_in_cell Reading other = refl
wrong_in_cell WriteWait other = refl
wrong_in_cell WriteTake other = refl
wrong_in_cell Writing other = absurd (other refl)
wrong_in_cell WritePut other = refl

is_seen : Seen
unfolding run_refusal run_lent lowest permits good total find beside every sound sum
is_seen Idle other = refl
is_seen ReadTry other = absurd (other refl)
is_seen ReadCheck other = refl
is_seen ReadBack other = refl
is_seen Reading other = refl
is_seen WriteWait other = refl
is_seen WriteTake other = refl
is_seen Writing other = refl
is_seen WritePut other = refl

is_taken : Taken
unfolding run_refusal run_lent lowest permits good total find beside every sound sum
is_taken Idle other = refl
is_taken ReadTry other = refl
is_taken ReadCheck other = refl
is_taken ReadBack other = refl
is_taken Reading other = refl
is_taken WriteWait other = refl
is_taken WriteTake other = refl
is_taken Writing other = absurd (other refl)
is_taken WritePut other = refl

other_busy : OtherBusy
unfolding run_refusal run_lent lowest permits good total find beside every sound sum
other_busy Idle other = absurd (other refl)
other_busy ReadTry other = refl
other_busy ReadCheck other = refl
other_busy ReadBack other = refl
other_busy Reading other = refl
other_busy WriteWait other = refl
other_busy WriteTake other = refl
other_busy Writing other = refl
other_busy WritePut other = refl

-- ---- clause by clause
clause_1 : Clause1
unfolding run_refusal run_lent lowest permits good total find beside every sound sum
clause_1 = (refl, refl, refl)

clause_2 : Clause2
unfolding run_refusal run_lent lowest permits good total find beside every sound sum
clause_2 = (refl, refl)

clause_3 : Clause3
unfolding run_refusal run_lent lowest permits good total find beside every sound sum
clause_3 = (one_more, refl, refl, refl, refl, refl, refl)

clause_4 : Clause4
unfolding run_refusal run_lent lowest permits good total find beside every sound sum
clause_4 = (refl, refl, refl, refl, refl, refl, refl, refl)

clause_5 : Clause5
unfolding run_refusal run_lent lowest permits good total find beside every sound sum
clause_5 = (flag_turned, refl, refl)

clause_6 : Clause6
unfolding run_refusal run_lent lowest permits good total find beside every sound sum
clause_6 = ((refl, refl), (refl, refl), (refl, refl), refl, refl, refl, refl)

clause_7 : Clause7
unfolding run_refusal run_lent lowest permits good total find beside every sound sum
clause_7 = (cell_turned, refl, refl)

clause_8 : Clause8
unfolding run_refusal run_lent lowest permits good total find beside every sound sum
clause_8 = (wrong_in_cell, refl)

clause_9 : Clause9
clause_9 = (is_seen, is_taken)

clause_10 : Clause10
unfolding run_refusal run_lent lowest permits good total find beside every sound sum
clause_10 = refl

clause_11 : Clause11
unfolding run_refusal run_lent lowest permits good total find beside every sound sum
clause_11 = ((refl, refl, refl), (refl, refl, refl, refl, refl, refl))

clause_12 : Clause12
unfolding run_refusal run_lent lowest permits good total find beside every sound sum
clause_12 = (refl, refl, refl, refl, refl, refl, refl, refl, refl)

clause_13 : Clause13
unfolding run_refusal run_lent lowest permits good total find beside every sound sum
clause_13 = (refl, refl, refl, other_busy, refl)

clause_14 : Clause14
unfolding run_refusal run_lent lowest permits good total find beside every sound sum
clause_14 = (refl, refl, refl, refl)

clause_15 : Clause15
unfolding run_refusal run_lent lowest permits good total find beside every sound sum
clause_15 = (refl, refl, refl, refl)

pub is_unsound : Unsound
is_unsound = (
  at_home,
  (clause_1, clause_2, clause_3, clause_4, clause_5),
  (clause_6, clause_7, clause_8, clause_9, clause_10),
  (clause_11, clause_12, clause_13, clause_14, clause_15),
)

pub sound_from_outside : SoundFromOutside
unfolding run_refusal run_lent lowest permits good total find beside every sound sum
sound_from_outside = (refl, refl, refl, refl, refl, refl, refl, refl, refl, refl, refl, refl, refl, refl)
