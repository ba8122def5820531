-- What it means to store bytes in a list from a place on.
use Rattle.std.specs.Prelude.{ℕ, ◌+◌, ◌≤◌, ◌≡◌, cond, List, leb, length}
use Rattle.std.proofs.lemmas.List.Edits.{sets}

-- the bytes s are stored where `most` bytes have room, and nothing is stored otherwise
abbrev pub stored : ℕ → List ℕ → ℕ → List ℕ → List ℕ
stored most l at s = cond (leb (at + most) (length l)) (sets l at s) l

-- the place after them; the same place if nothing is stored
abbrev pub place_after : ℕ → List ℕ → ℕ → List ℕ → ℕ
place_after most l at s = cond (leb (at + most) (length l)) (at + length s) at

-- the bytes s, at most `most` of them, were stored, and r is the place after them
pub record Put (before : List ℕ) (at : ℕ) (s : List ℕ) (most r : ℕ) (after : List ℕ) : Type 0 where
  pub next : r ≡ at + length s
  pub left : after ≡ sets before at s
  pub room : r ≤ at + most
  pub size : length after ≡ length before
