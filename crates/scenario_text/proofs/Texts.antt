-- A line's text is the text of its parts, one behind the other, and a row's has 148 bytes at most. Assumes nothing.
use Prim.Native.Nat.{ℕ, ◌+◌, ◌*◌, ◌<◌, ◌≤◌}
use mathlib.Core.Path.{◌≡◌, refl, sym, ap, ◌∙◌}
use mathlib.Core.List.{List, [], ◌∷◌, ◌++◌, append_assoc}
use native.Mathlib.Omega.{arith}
use lib.ListN.{length, length-append, get_or, take}
use Rattle.std.proofs.lemmas.List.{take_more}
use Rattle.machine.specs.declared.Row.{Row}
use Rattle.scenario_text.specs.Number.{text}
use Rattle.scenario_lines.specs.Judge.{comma}
use Rattle.scenario_text.specs.Lines.{fields, last_field, row_text, four_text}
use Rattle.scenario_text.specs.Put.{Put}
use Rattle.scenario_text.proofs.Digits.{text_short}
use Rattle.scenario_text.proofs.Stores.{both}

pub fields_append : (a b : List ℕ) → fields (a ++ b) ≡ fields a ++ fields b
unfolding fields
fields_append [] b = refl
fields_append (v ∷ a) b = ap (λ (l : List ℕ). text v ++ (comma ∷ l)) (fields_append a b) ∙ sym (append_assoc (text v) (comma ∷ fields a) (fields b))

pub one_field : (v : ℕ) → fields (v ∷ []) ≡ text v ++ (comma ∷ [])
unfolding fields
one_field v = refl

-- ---- numbers stored in turn, each with a comma after it
pub no_fields : (o : List ℕ) (at : ℕ) → Put o at (fields []) 0 at o
unfolding fields
no_fields o at = record { next = omega arith; left = refl; room = omega arith; size = refl }

pub field_more : {i : ℕ} {o p q : List ℕ} {at n r j : ℕ} (front : List ℕ) → i < length front → j ≡ 21 * i + 21 → Put o at (fields (take i front)) (21 * i) n p
    → Put p n (fields (get_or front i 0 ∷ [])) 21 r q → Put o at (fields (take (i + 1) front)) j r q
field_more {i} front h e a b = rw (take_more front i 0 h, fields_append (take i front) (get_or front i 0 ∷ []), e) (both a b)

pub four_short : (a b c d : ℕ) → length (four_text a b c d) ≤ 85
unfolding four_text fields last_field
four_short a b c d = simp length-append (omega (arith, text_short a, text_short b, text_short c, text_short d))

-- seven numbers, six commas and the break
pub row_short : (n : ℕ) (row : Row) → length (row_text n row) ≤ 148
unfolding row_text fields last_field
row_short n row =
    simp length-append
    (omega (
      arith,
      text_short n,
      text_short row.thread,
      text_short row.access,
      text_short row.answer,
      text_short row.got,
      text_short row.exc,
      text_short row.rc,
    ))
