-- A file read by bytes comes to the reading that it comes to by lines. Assumes nothing.
use mathlib.Core.Path.{sym, ap, ◌∙◌}
use mathlib.Core.List.{◌++◌}
use Rattle.scenario_lines.specs.Bytes.{Reader, finish}
use Rattle.scenario_lines.specs.Laws.{LongAlike}
use Rattle.scenario_lines.proofs.Judged.{long_is_broken}
use Rattle.scenario_lines.proofs.Laws.{by_bytes, any_cut}
use Rattle.scenario.specs.Printed.{Reading, start, next, ended, reading_of}
use Rattle.scenario.specs.ByBytes.{unread, ReadByBytes, CutAnywhere}

-- two lines that are too long are both broken
pub long_alike : LongAlike next
unfolding next
long_alike r l m h g = rw (long_is_broken l h, long_is_broken m g)

pub read_by_bytes : ReadByBytes
unfolding reading_of
read_by_bytes file = ap ended (sym (by_bytes Reading next long_alike start file))

pub cut_anywhere : CutAnywhere
cut_anywhere a b =
    read_by_bytes (a ++ b) ∙ ap (λ (r : Reader Reading). ended (finish next r)) (any_cut Reading next unread a b)
