-- What the writer answers and leaves, from what its test and its two walks told. Assumes nothing.
use Prim.Native.Nat.{ℕ, ◌%◌, ◌<◌, ◌≤◌}
use mathlib.Core.Path.{◌≡◌, refl, sym, ap, subst}
use mathlib.Core.Bool.{Bool, true, false}
use mathlib.Core.List.{List}
use native.Mathlib.Omega.{arith}
use lib.Dec.{T, leb}
use lib.ListN.{length}
use lib.Seq.{sets}
use borrow.Author.Tests.{leb-true, eq-eqb, ne_eqb, lt-ltb, le-ltb}
use Rattle.machine.specs.Names.{row_words}
use Rattle.vcd.specs.Trace.{signals_in}
use Rattle.std.specs.Prelude.{Result, Ok, Err}
use Rattle.vcd.specs.Write.{any_high, wrong, file_of, written, written_in}
use Rattle.vcd.specs.declared.Signals.{Signals}
use Rattle.vcd.specs.declared.Refusal.{Refusal}
use Rattle.vcd.specs.declared.Refusal.TheVariants.{NoTrace}
use Rattle.vcd_code.specs.Walk.{told}
use Rattle.vcd_code.proofs.Walk.{Gone, has_room, has_none}

-- ---- what is refused by 43
module _ (trace : List ℕ) (s : Signals) where
  pub no_whole_rows : (length trace % row_words ≡ 0 → ⊥) → true ≡ wrong trace s
  unfolding wrong
  no_whole_rows h = rw (ne_eqb (length trace % row_words) 0 h) refl

  pub starts_high : length trace % row_words ≡ 0 → 1 < s.exc → true ≡ wrong trace s
  unfolding wrong any_high
  starts_high h g = rw (eq-eqb (length trace % row_words) 0 h, lt-ltb 1 s.exc g) refl

  pub by_rows : (r : Bool) → length trace % row_words ≡ 0 → s.exc ≤ 1 → r ≡ any_high (signals_in trace) → r ≡ wrong trace s
  unfolding wrong any_high
  by_rows r h g e = rw (eq-eqb (length trace % row_words) 0 h, le-ltb 1 s.exc g) e

  pub refused_trace : (out : List ℕ) → wrong trace s ≡ true → (Err NoTrace ≡ written trace s (length out)) × (out ≡ written_in trace s out)
  unfolding written written_in
  refused_trace out w = rw w (refl, refl)

  -- ---- the first walk stores nothing
  module _ (out out' : List ℕ) (w : wrong trace s ≡ false) where
    pub no_room_lem : (why : Refusal) → Gone (length (file_of trace s)) (file_of trace s) out 0 false (Err why) out'
        → (Err why ≡ written trace s (length out)) × (out' ≡ written_in trace s out)
    unfolding written written_in
    no_room_lem why g =
        let (e, room) = has_none (length out) (length (file_of trace s)) why g.0 in
        (rw (w, e, room), rw (w, e) g.1)

    module _ (n : ℕ) (g : Gone (length (file_of trace s)) (file_of trace s) out 0 false (Ok n) out') where
      roomy : leb (length (file_of trace s)) (length out) ≡ true
      roomy = (has_room (length out) (length (file_of trace s)) n g.0).0

      pub some_room : length (file_of trace s) ≤ length out'
      some_room = omega (arith, leb-true (length (file_of trace s)) (length out) roomy, ap length g.1)

      -- ---- and the second stores it all
      pub whole : (r : Result ℕ Refusal) (out'' : List ℕ) → Gone (length (file_of trace s)) (file_of trace s) out' 0 true r out''
          → (r ≡ written trace s (length out)) × (out'' ≡ written_in trace s out)
      unfolding written written_in
      whole r out'' k =
          let same : out' ≡ out = g.1 in
          let answer : r ≡ told (length out) (length (file_of trace s)) = rw same at k.0 in
          let left : out'' ≡ sets out 0 (file_of trace s) = rw same at k.1 in
          (rw w answer, rw (w, roomy) left)

-- what is not stored needs no room
pub unstored : {n m : ℕ} → false ≡ true → n ≤ m
unstored e = absurd (subst T (sym e) tt)
