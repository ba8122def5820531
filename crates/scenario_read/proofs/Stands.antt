-- What was seen of a run line's parts in a chunk is that the run line stands there. Assumes nothing.
use Rattle.std.proofs.Common.{◌≡◌, ℕ, ◌+◌, ◌-◌, ◌<◌, ◌≤◌, List, ◌∷◌, ◌++◌, length, take, drop, sym, ap, ◌∙◌, append_assoc, arith, length-append, take_at}
use lib.Seq.{slice, length-slice}
use Rattle.scenario_lines.specs.Bytes.{longest}
use Rattle.scenario_lines.specs.Lines.{cr, lf}
use Rattle.scenario_read.specs.RunAt.{Four, NumberAt, RunAt}
use Rattle.scenario_read.proofs.RunLine.{run_line, no_return_so, says_run}
use Rattle.scenario_read.proofs.Digits.{drop_slice}

module _
    (s : List ℕ) (from a b t n : ℕ) (begins : Four s from 114 117 110 44) (who : NumberAt s (from + 4) a t)
    (between : (a + 1 ≤ length s) × (drop a s ≡ 44 ∷ drop (a + 1) s)) (times : NumberAt s (a + 1) b n) (ends : Four s b 44 48 13 10) where
  abbrev d : List ℕ
  d = slice (from + 4) a s

  abbrev e : List ℕ
  e = slice (a + 1) b s

  so_long : length (run_line d e) ≡ b + 2 - from
  so_long =
      let ld = length-slice (from + 4) a s who.inside in
      let le = length-slice (a + 1) b s times.inside in
      simp length-append (rw (ld, le) (omega (arith, who.onward, times.onward)))

  whole_so : drop from s ≡ run_line d e ++ (cr ∷ lf ∷ drop (b + 4) s)
  whole_so =
      let first = drop_slice s (from + 4) a (omega (arith, who.onward)) who.inside in
      let third = drop_slice s (a + 1) b (omega (arith, times.onward)) times.inside in
      begins.1 ∙ rw (first, between.1, third, ends.1) (simp append_assoc)

  text_so : slice from (b + 2) s ≡ run_line d e
  text_so =
      let past : from ≤ b + 2 = omega (arith, who.onward, times.onward) in
      let inside : b + 2 ≤ length s = omega (arith, ends.0) in
      sym (take_at (slice from (b + 2) s) (drop (b + 2) s) (b + 2 - from) (length-slice from (b + 2) s inside))
      ∙ ap (take (b + 2 - from)) (sym (drop_slice s from (b + 2) past inside) ∙ whole_so)
      ∙ take_at (run_line d e) (cr ∷ lf ∷ drop (b + 4) s) (b + 2 - from) so_long

  pub run_stands : t < 256 → n < 65536 → b - from ≤ 78 → 0 < n → RunAt s from t n (b + 4)
  run_stands few most short some =
      let back : b + 4 - 2 ≡ b + 2 = omega arith in
      let over : b + 2 - from ≤ longest = omega arith in
      record {
        onward = omega (arith, who.onward, times.onward);
        inside = ends.0;
        short = rw back over;
        whole = rw (back, text_so) whole_so;
        unbroken = rw (back, text_so) (no_return_so d e t n who.plain times.plain who.says times.says few some most (rw so_long over));
        says = rw (back, text_so) (says_run d e t n who.plain times.plain who.says times.says few some most (rw so_long over));
      }
