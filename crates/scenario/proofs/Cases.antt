-- The files of the cases, computed.
use mathlib.Core.Path.{refl}
use Rattle.cell.specs.Pred.{permits, good, of_kind}
use Rattle.machine.specs.Refusals.{lowest}
use Rattle.machine.specs.Step.{act, fits, sum, entry_refusal, answer, step}
use Rattle.machine.specs.Lists.{total, find}
use Rattle.machine.specs.Setup.{setup_refusal}
use Rattle.machine.specs.Run.{run}
use Rattle.scenario_text.specs.Number.{digits_to, text}
use Rattle.scenario_text.specs.Lines.{fields, last_field, header, row_text, refusal}
use Rattle.scenario_lines.specs.Lines.{lines, across}
use Rattle.scenario_lines.specs.Number.{digits, plainly, decimal, number}
use Rattle.scenario_lines.specs.Judge.{equal, clean, fields as split, kinds, judge}
use Rattle.scenario.specs.Scenario.{taken}
use Rattle.scenario.specs.Refused.{refusal_of}
use Rattle.scenario.specs.Printed.{next, ended, rows_text, output, reading_of, printed}
use Rattle.scenario.specs.Cases.{CaseA, NoLastBreak, NoRunLine, NoOpLine, RowsStand, WrongForm, TwoReturns, FirstLine, Longest, WrongNumber, WrongHeader, WrongOrder, BadLater, Missing, AtThePred, NoneAtThePred, AtTheOp, TooLong, TooLongAndWrong, NoneAtTheOp, RunsAsRead, Cases}

case_a : CaseA
unfolding permits good of_kind lowest act fits sum entry_refusal answer step total find setup_refusal run digits_to text fields last_field header row_text refusal lines across digits plainly decimal number equal clean split kinds judge taken refusal_of next ended rows_text output reading_of printed
case_a = refl

no_last_break : NoLastBreak
unfolding permits good of_kind lowest act fits sum entry_refusal answer step total find setup_refusal run digits_to text fields last_field header row_text refusal lines across digits plainly decimal number equal clean split kinds judge taken refusal_of next ended rows_text output reading_of printed
no_last_break = refl

no_run_line : NoRunLine
unfolding permits good of_kind lowest act fits sum entry_refusal answer step total find setup_refusal run digits_to text fields last_field header row_text refusal lines across digits plainly decimal number equal clean split kinds judge taken refusal_of next ended rows_text output reading_of printed
no_run_line = (refl, refl)

no_op_line : NoOpLine
unfolding permits good of_kind lowest act fits sum entry_refusal answer step total find setup_refusal run digits_to text fields last_field header row_text refusal lines across digits plainly decimal number equal clean split kinds judge taken refusal_of next ended rows_text output reading_of printed
no_op_line = refl

rows_stand : RowsStand
unfolding permits good of_kind lowest act fits sum entry_refusal answer step total find setup_refusal run digits_to text fields last_field header row_text refusal lines across digits plainly decimal number equal clean split kinds judge taken refusal_of next ended rows_text output reading_of printed
rows_stand = (refl, refl, refl, refl, refl)

wrong_form : WrongForm
unfolding permits good of_kind lowest act fits sum entry_refusal answer step total find setup_refusal run digits_to text fields last_field header row_text refusal lines across digits plainly decimal number equal clean split kinds judge taken refusal_of next ended rows_text output reading_of printed
wrong_form = (refl, refl, refl, refl, refl, refl, refl, refl)

two_returns : TwoReturns
unfolding permits good of_kind lowest act fits sum entry_refusal answer step total find setup_refusal run digits_to text fields last_field header row_text refusal lines across digits plainly decimal number equal clean split kinds judge taken refusal_of next ended rows_text output reading_of printed
two_returns = (refl, refl)

first_line : FirstLine
unfolding permits good of_kind lowest act fits sum entry_refusal answer step total find setup_refusal run digits_to text fields last_field header row_text refusal lines across digits plainly decimal number equal clean split kinds judge taken refusal_of next ended rows_text output reading_of printed
first_line = (refl, refl, refl, refl)

longest : Longest
unfolding permits good of_kind lowest act fits sum entry_refusal answer step total find setup_refusal run digits_to text fields last_field header row_text refusal lines across digits plainly decimal number equal clean split kinds judge taken refusal_of next ended rows_text output reading_of printed
longest = (refl, refl, refl, refl)

wrong_number : WrongNumber
unfolding permits good of_kind lowest act fits sum entry_refusal answer step total find setup_refusal run digits_to text fields last_field header row_text refusal lines across digits plainly decimal number equal clean split kinds judge taken refusal_of next ended rows_text output reading_of printed
wrong_number = (refl, refl, refl, refl, refl, refl, refl, refl, refl, refl)

wrong_header : WrongHeader
unfolding permits good of_kind lowest act fits sum entry_refusal answer step total find setup_refusal run digits_to text fields last_field header row_text refusal lines across digits plainly decimal number equal clean split kinds judge taken refusal_of next ended rows_text output reading_of printed
wrong_header = (refl, refl)

wrong_order : WrongOrder
unfolding permits good of_kind lowest act fits sum entry_refusal answer step total find setup_refusal run digits_to text fields last_field header row_text refusal lines across digits plainly decimal number equal clean split kinds judge taken refusal_of next ended rows_text output reading_of printed
wrong_order = (refl, refl, refl, refl, refl, refl, refl, refl)

bad_later : BadLater
unfolding permits good of_kind lowest act fits sum entry_refusal answer step total find setup_refusal run digits_to text fields last_field header row_text refusal lines across digits plainly decimal number equal clean split kinds judge taken refusal_of next ended rows_text output reading_of printed
bad_later = (refl, refl, refl, refl, refl)

missing : Missing
unfolding permits good of_kind lowest act fits sum entry_refusal answer step total find setup_refusal run digits_to text fields last_field header row_text refusal lines across digits plainly decimal number equal clean split kinds judge taken refusal_of next ended rows_text output reading_of printed
missing = (refl, refl, refl)

at_the_pred : AtThePred
unfolding permits good of_kind lowest act fits sum entry_refusal answer step total find setup_refusal run digits_to text fields last_field header row_text refusal lines across digits plainly decimal number equal clean split kinds judge taken refusal_of next ended rows_text output reading_of printed
at_the_pred = (refl, refl, refl, refl, refl, refl, refl)

none_at_the_pred : NoneAtThePred
unfolding permits good of_kind lowest act fits sum entry_refusal answer step total find setup_refusal run digits_to text fields last_field header row_text refusal lines across digits plainly decimal number equal clean split kinds judge taken refusal_of next ended rows_text output reading_of printed
none_at_the_pred = (refl, refl, refl, refl, refl)

at_the_op : AtTheOp
unfolding permits good of_kind lowest act fits sum entry_refusal answer step total find setup_refusal run digits_to text fields last_field header row_text refusal lines across digits plainly decimal number equal clean split kinds judge taken refusal_of next ended rows_text output reading_of printed
at_the_op = (refl, refl, refl, refl)

for_too_long : TooLong
unfolding permits good of_kind lowest act fits sum entry_refusal answer step total find setup_refusal run digits_to text fields last_field header row_text refusal lines across digits plainly decimal number equal clean split kinds judge taken refusal_of next ended rows_text output reading_of printed
for_too_long = (refl, refl)

too_long_and_wrong : TooLongAndWrong
unfolding permits good of_kind lowest act fits sum entry_refusal answer step total find setup_refusal run digits_to text fields last_field header row_text refusal lines across digits plainly decimal number equal clean split kinds judge taken refusal_of next ended rows_text output reading_of printed
too_long_and_wrong = (refl, refl)

none_at_the_op : NoneAtTheOp
unfolding permits good of_kind lowest act fits sum entry_refusal answer step total find setup_refusal run digits_to text fields last_field header row_text refusal lines across digits plainly decimal number equal clean split kinds judge taken refusal_of next ended rows_text output reading_of printed
none_at_the_op = (refl, refl, refl)

runs_as_read : RunsAsRead
unfolding permits good of_kind lowest act fits sum entry_refusal answer step total find setup_refusal run digits_to text fields last_field header row_text refusal lines across digits plainly decimal number equal clean split kinds judge taken refusal_of next ended rows_text output reading_of printed
runs_as_read = (refl, refl, refl, refl, refl, refl, refl)

pub cases : Cases
cases = (case_a, no_last_break, no_run_line, no_op_line, rows_stand, wrong_form, two_returns, first_line, longest, wrong_number, wrong_header, wrong_order, bad_later, missing, at_the_pred, none_at_the_pred, at_the_op, for_too_long, too_long_and_wrong, none_at_the_op, runs_as_read)
