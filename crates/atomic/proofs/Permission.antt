-- The identity is compared, and kept, whatever the access. Assumes nothing.
use mathlib.Core.Bool.{Bool, true, false}
use mathlib.Core.Path.{◌≡◌, refl}
use lib.Dec.{eqb}
use borrow.Author.Tests.{eq-eqb, ne_eqb}
use Rattle.atomic.specs.Permission.{owned, Keeps, Compares}

pub keeps : Keeps
keeps A R foreign c p access = either_way (eqb c.0 p.id.0)
  where
    either_way : (t : Bool) → (owned t foreign p access).perm.id ≡ p.id
    either_way true = refl
    either_way false = refl

pub compares : Compares
compares A R foreign c p access = (λ e. simp (eq-eqb _ _ e), λ ne. simp (ne_eqb _ _ ne))
