-- Every number in calls as they are made, computed.
use mathlib.Core.Path.{refl}
use Rattle.cell.specs.Pred.{permits, good}
use Rattle.machine.specs.Refusals.{lowest}
use Rattle.machine.specs.Step.{act, fits, sum, entry_refusal, answer, step}
use Rattle.machine.specs.Sound.{every, sound}
use Rattle.machine.specs.Lists.{total, find, beside}
use Rattle.machine.specs.Setup.{setup_refusal, setup, setup_recs}
use Rattle.machine.specs.Run.{run, words_of, run_refusal, run_lent}
use Rattle.machine.specs.Tidy.{tidy_rest, tidy}
use Rattle.machine.specs.Drain.{drain_refusal, drain_lent}
use Rattle.machine.specs.Numbers.{Setup1, Setup2, Setup3, Setup4, Lists5, Lists6, Lists7, Strays, Run10, Drain10, Untidy, UntidyScripts, UntidyValues, Entry11, Entry12, Entry13, Entry14, Entry15, Entry16, NotAskedAgain, SetupOrder, RunOrder, DrainOrder, EntryOrder, Numbers}

-- ---- setup
setup_1 : Setup1
unfolding setup setup_recs setup_refusal lowest permits good total find beside
setup_1 = (refl, refl, refl, refl)

setup_2 : Setup2
unfolding setup setup_refusal lowest permits good total find beside
setup_2 = (refl, refl, refl)

setup_3 : Setup3
unfolding setup setup_refusal lowest permits good total find beside
setup_3 = (refl, refl, refl)

setup_4 : Setup4
unfolding setup setup_refusal lowest permits good total find beside
setup_4 = (refl, refl, refl)

setup_order : SetupOrder
unfolding setup setup_refusal lowest permits good total find beside
setup_order = (refl, refl, refl, refl, refl, refl, refl, refl)

-- ---- the lists, by setup, run and drain
lists_5 : Lists5
unfolding setup setup_refusal lowest permits good total find beside run_refusal run_lent every sound sum drain_refusal drain_lent
lists_5 = ((refl, refl, refl), (refl, refl))

lists_6 : Lists6
unfolding setup setup_refusal lowest permits good total find beside run_refusal run_lent every sound sum drain_refusal drain_lent
lists_6 = ((refl, refl, refl), (refl, refl, refl), (refl, refl, refl), (refl, refl, refl), (refl, refl, refl), (refl, refl, refl), (refl, refl))

lists_7 : Lists7
unfolding setup setup_refusal lowest permits good total find beside run_refusal run_lent every sound sum drain_refusal drain_lent
lists_7 = ((refl, refl, refl), (refl, refl, refl), (refl, refl, refl), (refl, refl))

strays : Strays
unfolding setup setup_refusal lowest permits good total find beside run_refusal run_lent drain_refusal drain_lent
strays = ((refl, refl, refl), (refl, refl, refl), (refl, refl, refl), (refl, refl, refl), (refl, refl, refl), (refl, refl, refl))

-- ---- run and drain
run_10 : Run10
unfolding run_refusal run_lent lowest permits good total find beside every sound sum
run_10 = (refl, refl, refl, refl)

drain_10 : Drain10
unfolding drain_refusal drain_lent lowest permits good total find beside every sound sum tidy tidy_rest
drain_10 = (refl, refl, refl, refl)

run_order : RunOrder
unfolding run_refusal run_lent lowest permits good total find beside every sound sum
run_order = (refl, refl, refl, refl, refl, refl, refl)

drain_order : DrainOrder
unfolding drain_refusal drain_lent lowest permits good total find beside every sound sum tidy tidy_rest
drain_order = (refl, refl, refl, refl, refl, refl)

is_untidy : Untidy
unfolding drain_refusal drain_lent lowest permits good total find beside every sound sum tidy tidy_rest
is_untidy = (refl, refl, refl, refl)

untidy_scripts : UntidyScripts
unfolding drain_refusal drain_lent lowest permits good total find beside every sound sum tidy tidy_rest
untidy_scripts = (refl, refl, refl, refl, refl, refl, refl, refl, refl, refl, refl, refl)

untidy_values : UntidyValues
unfolding drain_refusal drain_lent lowest permits good total find beside every sound sum tidy tidy_rest
untidy_values = (refl, refl, refl, refl)

-- ---- entries
entry_11 : Entry11
unfolding run_refusal run_lent lowest permits good total find every sound sum run words_of step answer entry_refusal fits
entry_11 = (refl, refl)

entry_12 : Entry12
unfolding run_refusal run_lent lowest permits good total find every sound sum run words_of step answer entry_refusal fits
entry_12 = (refl, refl, refl)

entry_13 : Entry13
unfolding run_refusal run_lent lowest permits good total find every sound sum run words_of step answer entry_refusal fits
entry_13 = (refl, refl)

entry_14 : Entry14
unfolding run_refusal run_lent lowest permits good total find every sound sum run words_of step answer entry_refusal fits
entry_14 = ((refl, refl, refl, refl), (refl, refl, refl, refl), (refl, refl, refl, refl, refl), refl)

entry_15 : Entry15
unfolding run_refusal run_lent lowest permits good total find every sound sum run words_of step answer entry_refusal fits
entry_15 = (refl, refl)

entry_16 : Entry16
unfolding run_refusal run_lent lowest permits good total find every sound sum run words_of step answer entry_refusal fits
entry_16 = refl

not_asked_again : NotAskedAgain
unfolding run_refusal run_lent lowest permits good total find every sound sum run words_of step answer entry_refusal fits act beside
not_asked_again = (refl, refl, refl, refl)

entry_order : EntryOrder
unfolding run_refusal run_lent lowest permits good total find every sound sum run words_of step answer entry_refusal fits
entry_order = (refl, refl, refl, refl, refl, refl, refl)

pub numbers : Numbers
numbers = (
  (setup_1, setup_2, setup_3, setup_4),
  (lists_5, lists_6, lists_7, strays),
  (run_10, drain_10),
  (is_untidy, untidy_scripts, untidy_values),
  (entry_11, entry_12, entry_13, entry_14, entry_15, entry_16, not_asked_again),
  (setup_order, run_order, drain_order, entry_order),
)
