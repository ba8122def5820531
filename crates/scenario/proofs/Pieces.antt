-- Pieces have the rows of the whole schedule. Assumes nothing.
use Prim.Native.Nat.{ℕ, suc, ◌+◌, ◌%◌}
use mathlib.Core.Path.{◌≡◌, refl, sym}
use mathlib.Core.List.{List, [], ◌∷◌, ◌++◌, append_assoc}
use native.Mathlib.Omega.{arith}
use lib.ListN.{length}
use Rattle.machine.specs.Lists.{scripts_of}
use Rattle.machine.specs.declared.Row.{Row}
use Rattle.machine.proofs.RunLaws.{cutting}
use Rattle.scenario_text.specs.Lines.{row_text}
use Rattle.scenario.specs.Names.{counted_to}
use Rattle.scenario.specs.Printed.{rows_text}
use Rattle.scenario.specs.Pieces.{TwoPieces, CountedRows, OnePiece}

pub rows_append : (n : ℕ) (a b : List Row) → rows_text n (a ++ b) ≡ rows_text n a ++ rows_text (n + length a) b
unfolding rows_text
rows_append n [] b = let e : n + 0 ≡ n = omega arith in rw e
rows_append n (r ∷ a) b =
    let e : n + suc (length a) ≡ n + 1 + length a = omega arith in
    rw (e, rows_append (n + 1) a b) (sym (append_assoc (row_text (n % counted_to) r) (rows_text (n + 1) a) (rows_text (n + 1 + length a) b)))

pub two_pieces : TwoPieces
two_pieces l p a b =
    let (lock, recs, rows) = cutting (scripts_of l) p.lock p.recs a b in
    (rows, λ j. record { lock = lock j; recs = recs j })

-- two numbers with the same rest number rows alike
alike : (m n : ℕ) (rows : List Row) → m % counted_to ≡ n % counted_to → rows_text m rows ≡ rows_text n rows
unfolding rows_text
alike m n [] e = refl
alike m n (r ∷ rows) e = rw (e, alike (m + 1) (n + 1) rows (omega arith))

pub counted_rows : CountedRows
counted_rows n rows = alike n (n % counted_to) rows (omega arith)

pub one_piece : OnePiece
one_piece s = refl
