-- The files of the cases, computed.
use mathlib.Core.Path.{refl}
use Rattle.cell.specs.Pred.{permits, good, of_kind}
use Rattle.machine.specs.Refusals.{lowest}
use Rattle.machine.specs.Step.{act, fits, sum, entry_refusal, answer, step}
use Rattle.machine.specs.Sound.{every, sound}
use Rattle.machine.specs.Lists.{total, find, beside}
use Rattle.machine.specs.Setup.{setup_refusal}
use Rattle.machine.specs.Run.{run}
use Rattle.scenario_text.specs.Number.{digits_to, text}
use Rattle.scenario_text.specs.Lines.{fields, last_field, refusal, four_text}
use Rattle.scenario_lines.specs.Lines.{lines, across}
use Rattle.scenario_lines.specs.Number.{digits, plainly, decimal, number}
use Rattle.scenario_lines.specs.Judge.{equal, clean, fields as split, kinds, judge}
use Rattle.scenario.specs.Scenario.{taken}
use Rattle.scenario.specs.Refused.{refusal_of}
use Rattle.scenario.specs.Printed.{next, ended, reading_of}
use Rattle.why.specs.Why.{reason_of}
use Rattle.why.specs.Told.{why_refusal, told_by}
use Rattle.why_prints.specs.Prints.{why_header, lines_text, why_printed}
use Rattle.why_prints.specs.Cases.{WaitsPrinted, SetUpPrinted, RefusedPrinted, Cases}

waits_printed : WaitsPrinted
unfolding permits good of_kind lowest act fits sum entry_refusal answer step total find beside every sound setup_refusal run digits_to text fields last_field refusal four_text lines across digits plainly decimal number equal clean split kinds judge taken refusal_of next ended reading_of reason_of why_refusal told_by why_header lines_text why_printed
waits_printed = refl

set_up_printed : SetUpPrinted
unfolding permits good of_kind lowest act fits sum entry_refusal answer step total find beside every sound setup_refusal run digits_to text fields last_field refusal four_text lines across digits plainly decimal number equal clean split kinds judge taken refusal_of next ended reading_of reason_of why_refusal told_by why_header lines_text why_printed
set_up_printed = refl

refused_printed : RefusedPrinted
unfolding permits good of_kind lowest act fits sum entry_refusal answer step total find beside every sound setup_refusal run digits_to text fields last_field refusal four_text lines across digits plainly decimal number equal clean split kinds judge taken refusal_of next ended reading_of reason_of why_refusal told_by why_header lines_text why_printed
refused_printed = (refl, refl)

pub cases : Cases
cases = (waits_printed, set_up_printed, refused_printed)
