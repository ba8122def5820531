-- `wrong_code` meets its contract. The loop's invariant: the search for the first thread has come to t, whose script starts at `from`.
-- Assumes nothing.
use mathlib.Core.Path.{◌≡◌}
use lib.Dec.{ltb}
use lib.ListN.{length, get_or}
use Rattle.machine.specs.Lists.{lent, start, scripts_of, wrong_place}
use Rattle.lock_scripts.proofs.Finds.{Come}
use Rattle.lock_scripts.proofs.wrong_code.Given as goal

abbrev pub invariant-loop-t : goal.invariant-loop-t
invariant-loop-t l =
    Come (λ i. ltb (wrong_place (scripts_of (lent l.fn.lists)) i) (get_or l.fn.lists.lens.now i 0)) (length l.fn.lists.lens.now) l.t × (l.from ≡ start l.fn.lists.lens.now l.t)
