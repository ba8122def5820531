-- The rows so far are the beginning of those of the bytes, whatever comes after them. Assumes nothing.
use Prim.Native.Nat.{ℕ}
use mathlib.Core.Bool.{Bool, true, false}
use mathlib.Core.Path.{◌≡◌, refl, sym, ap, subst, ◌∙◌}
use mathlib.Core.List.{List, [], ◌++◌, append-nil}
use native.Mathlib.Omega.{arith}
use Rattle.machine.specs.Lists.{Lent}
use Rattle.scenario_lines.specs.Bytes.{Reader, feed, finish}
use Rattle.scenario_lines.specs.declared.bytes.Held.{Held}
use Rattle.scenario.specs.Refused.{stage_no}
use Rattle.machine.specs.Run.{words_of}
use Rattle.machine.proofs.Words.{words_append}
use Rattle.scenario.specs.Printed.{Reading, next, ended, rows_of, reading_of}
use Rattle.scenario.specs.ByBytes.{unread}
use Rattle.scenario.specs.Pieces.{Standing as Listed, piece_rows, after_piece}
use Rattle.scenario.proofs.ByBytes.{read_by_bytes, cut_anywhere}
use Rattle.scenario.proofs.Pieces.{one_piece, two_pieces}
use Rattle.scenario_stages.specs.Kept.{outline}
use Rattle.scenario_stages.specs.declared.Read.{Read}
use Rattle.scenario_stages.proofs.Means.{lock_means}
use Rattle.scenario_pieces.specs.Stands.{first_listed as set_up, piece_words}
use Rattle.scenario_pieces.specs.declared.Standing.{Standing}
use Rattle.scenario_read.specs.Feed.{World}
use Rattle.scenario_promises.specs.Session.{file_words, MayCome}
use Rattle.scenario_promises.proofs.Holds.{lent_of, Entries, Holds, Bytes, Kept}
use Rattle.scenario_promises.proofs.Writes.{lent_same, first_same}
use Rattle.scenario_promises.proofs.Onward.{Grows, grows_always}

-- ---- the reading at the end
pub record Final (bytes others : List ℕ) (q : Reading) : Type 0 where
  pub at_end : Reading
  pub is : reading_of (bytes ++ others) ≡ at_end
  pub grows : (l : Lent) (p : Listed) (past : List ℕ) → Grows l p past q.scenario → Grows l p past at_end.scenario

final_by : (bytes others line : List ℕ) (h : Held) (q : Reading) (c : Bool) → Bytes c bytes line h q → (c ≡ true → others ≡ []) → Final bytes others q
final_by bytes others line h q true e none = record {
  at_end = q;
  is = rw (none refl, append-nil bytes) (read_by_bytes bytes) ∙ sym e;
  grows = λ l p past g. g;
}
final_by bytes others line h q false e none = record {
  at_end = ended (finish next (feed next (feed next unread bytes) others));
  is = cut_anywhere bytes others;
  grows =
      λ l p past g. grows_always l p past (feed next unread bytes) others
      (subst (λ (r : Reader Reading). Grows l p past r.state.scenario) (sym e) g);
}

-- ---- the rows so far are the first rows
abbrev Begins : List ℕ → List ℕ → Type 0
Begins words whole = (rest : List ℕ) × (whole ≡ words ++ rest)

module _
    (r : Read) (stood : Bool) (gathered : ℕ) (p : Standing) (lens ops vals schedule : List ℕ) (q : Reading) (past rows : List ℕ)
    (h : Holds r stood gathered p lens ops vals schedule q past rows) (bytes others : List ℕ) (f : Final bytes others q) where
  rows_begin : (b : Bool) → Entries b (outline r) (lent_of r lens ops vals) p gathered past rows → Begins rows (words_of (rows_of f.at_end.scenario))
  rows_begin false e = (words_of (rows_of f.at_end.scenario), rw e.1 refl)
  rows_begin true e =
      let l = lent_of r lens ops vals in
      let first = set_up l r.pred r.top r.first in
      let number = ap stage_no e.0 in
      let s = f.at_end.scenario in
      let g =
      f.grows l first past (record {
        stage = (lock_means r lens ops vals q h.is).0 ∙ e.0;
        lent = lent_same r lens ops vals q h.is (omega arith);
        first = first_same r lens ops vals q h.is (omega arith);
        others = _;
        schedule = h.split;
      }) in (
        piece_words l (after_piece l first past) g.others,
        ap words_of (one_piece s)
            ∙ (λ i. piece_words (g.lent i) (g.first i) (g.schedule i))
            ∙ ap words_of (two_pieces l first past g.others).0
            ∙ words_append (piece_rows l first past) (piece_rows l (after_piece l first past) g.others)
            ∙ ap (λ (x : List ℕ). x ++ piece_words l (after_piece l first past) g.others) (sym e.2),
      )

  words_begin : Begins rows (file_words (bytes ++ others))
  words_begin =
      let (more, is) = rows_begin stood h.entries in
      (more, ap (λ (q : Reading). words_of (rows_of q.scenario)) f.is ∙ is)

pub rows_on : (bytes words : List ℕ) (w : World) → Kept bytes words w → (others : List ℕ) → MayCome w others
    → Begins words (file_words (bytes ++ others))
rows_on bytes words w k others none =
    words_begin _ _ _ _ _ _ _ _ _ _ _ k.holds bytes others
    (final_by bytes others w.line w.state.held k.reading w.state.closed k.read_so none)
