-- `of_kind` meets its contract; here of bytes as many as a word has, which are not that word: the others are longer or shorter. Assumes nothing.
use mathlib.Core.Bool.{false}
use mathlib.Core.Path.{◌≡◌}
use native.Mathlib.Omega.{arith}
use Rattle.scenario_lines.specs.Ascii.{bytes}
use Rattle.scenario_lines.specs.Judge.{equal, kinds}
use Rattle.scenario_lines.proofs.Scans.{equal_reads, equal_unlike}
use Rattle.scenario_lines.proofs.judge.of_kind.Goals as goal

pub returns-in_default-2 : goal.returns-in_default-2
unfolding kinds
returns-in_default-2 c =
    let k = c.args.k.now in
    let lock : equal k (bytes "lock") ≡ false = equal_unlike k (bytes "lock") (λ e. omega arith) in
    let pred : equal k (bytes "pred") ≡ false = equal_unlike k (bytes "pred") (λ e. omega arith) in
    let run : equal k (bytes "run") ≡ false = equal_unlike k (bytes "run") (λ e. omega arith) in
    rw (lock, pred, run) (grind (arith, equal_reads))

pub returns-in_default-3 : goal.returns-in_default-3
unfolding kinds
returns-in_default-3 c =
    let k = c.args.k.now in
    let lock : equal k (bytes "lock") ≡ false = equal_unlike k (bytes "lock") (λ e. omega arith) in
    let pred : equal k (bytes "pred") ≡ false = equal_unlike k (bytes "pred") (λ e. omega arith) in
    let run : equal k (bytes "run") ≡ false = equal_unlike k (bytes "run") (λ e. omega arith) in
    rw (lock, pred, run) (grind (arith, equal_reads))

pub returns-in_default-6 : goal.returns-in_default-6
unfolding kinds
returns-in_default-6 c =
    let k = c.args.k.now in
    let lock : equal k (bytes "lock") ≡ false = equal_unlike k (bytes "lock") (λ e. omega arith) in
    let pred : equal k (bytes "pred") ≡ false = equal_unlike k (bytes "pred") (λ e. omega arith) in
    let op : equal k (bytes "op") ≡ false = equal_unlike k (bytes "op") (λ e. omega arith) in
    rw (lock, pred, op) (grind (arith, equal_reads))

pub returns-in_default-9 : goal.returns-in_default-9
unfolding kinds
returns-in_default-9 c =
    let k = c.args.k.now in
    let op : equal k (bytes "op") ≡ false = equal_unlike k (bytes "op") (λ e. omega arith) in
    let run : equal k (bytes "run") ≡ false = equal_unlike k (bytes "run") (λ e. omega arith) in
    rw (op, run) (grind (arith, equal_reads))

pub returns-in_default-13 : goal.returns-in_default-13
unfolding kinds
returns-in_default-13 c =
    let k = c.args.k.now in
    let op : equal k (bytes "op") ≡ false = equal_unlike k (bytes "op") (λ e. omega arith) in
    let run : equal k (bytes "run") ≡ false = equal_unlike k (bytes "run") (λ e. omega arith) in
    rw (op, run) (grind (arith, equal_reads))
