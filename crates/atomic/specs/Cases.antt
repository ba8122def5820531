-- The marked case of the atomics.
use Rattle.std.specs.Prelude.{◌≡◌}
use Rattle.atomic.specs.declared.Refusal.TheVariants.{Outside}
use Rattle.atomic.specs.Access.{refused, fetches, fetch_add, fetch_add_wrapping, number_of}
use Rattle.atomic.specs.Permission.{keeps}

-- 8 bits: 255 plus 1 wraps to 0, and fetch_add there is 22 and leaves 255
abbrev pub CaseJ : Type 0
CaseJ = (fetch_add_wrapping 8 1 255 ≡ fetches 255 0) × (fetch_add 8 1 255 ≡ keeps 255 (refused Outside)) × (number_of Outside ≡ 22)
