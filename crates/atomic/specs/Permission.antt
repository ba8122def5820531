-- A permission, and the one way to use it: the identity is compared first, and only then is the access made. For atomics and cells
-- alike: A is what is held, and R what is answered.
use Rattle.std.specs.Prelude.{Bool, cond, ◌≡◌, eqb}
use Rattle.atomic.specs.declared.CellId.{CellId}

-- what an access leaves and answers
pub record Left (A R : Type 0) : Type 0 where
  pub leaves : A
  pub answers : R

pub record Permission (A : Type 0) : Type 0 where
  pub id : CellId
  pub value : A

-- the permission as it is left, and the answer
pub record Done (A R : Type 0) : Type 0 where
  pub perm : Permission A
  pub answer : R

module _ {A R : Type 0} where
  -- what is not done, or only looks, leaves all as it was
  abbrev pub keeps : A → R → Left A R
  keeps was answer = record { leaves = was; answers = answer }

  -- the access is made: the permission keeps its identity
  abbrev pub make : Permission A → (A → Left A R) → Done A R
  make p access = record { perm = record { id = p.id; value = (access p.value).leaves }; answer = (access p.value).answers }

  -- the access, where the identities agree; else the permission as it is, and the answer for a foreign one
  abbrev pub owned : Bool → R → Permission A → (A → Left A R) → Done A R
  owned agree foreign p access = cond agree (make p access) (record { perm = p; answer = foreign })

  -- an access of what has the identity c with the permission p
  abbrev pub compared : R → CellId → Permission A → (A → Left A R) → Done A R
  compared foreign c p access = owned (eqb c.0 p.id.0) foreign p access

abbrev pub Keeps : Type 1
Keeps = (A R : Type 0) (foreign : R) (c : CellId) (p : Permission A) (access : A → Left A R) → (compared foreign c p access).perm.id ≡ p.id

abbrev pub Compares : Type 1
Compares =
    (A R : Type 0) (foreign : R) (c : CellId) (p : Permission A) (access : A → Left A R)
    → (c.0 ≡ p.id.0 → compared foreign c p access ≡ make p access) × ((c.0 ≡ p.id.0 → ⊥) → compared foreign c p access ≡ record { perm = p; answer = foreign })
