-- `fill` meets its contract. Assumes nothing.
use Rattle.std.proofs.Common.{◌≡◌, ℕ, ◌+◌, ◌-◌, List, length, take, drop, sym, replicate, refl, ap, ◌∙◌, arith, length-take-le}
use Rattle.std.proofs.lemmas.List.{length-drop}
use borrow.Rule.Slice.PartMut.{put_mid}
use Rattle.scenario_read.proofs.Places.{sets_out, fills_by}
use Rattle.scenario_read.proofs.fill.Goals as goal

pub returns-then-from-len : goal.returns-then-from-len
returns-then-from-len c =
    let a = c.args in
    let m = c.min.result in
    let n = a.from + m - a.from in
    let wide : length (take n (drop a.from a.list.now)) ≡ n = length-take-le n (drop a.from a.list.now) (omega (arith, length-drop a.from a.list.now, c.min.ensures)) in
    let part = c.fill.ensures.after (λ y e. e) ∙ ap (λ (k : ℕ). replicate k a.v) wide in
    ap (λ (l : List ℕ). put_mid a.from n a.list.now l) part ∙ fills_by a.list.now a.from a.n a.v m (a.from + m) c.if-from-len.true c.min.ensures refl

pub returns-else-from-len : goal.returns-else-from-len
returns-else-from-len c = let a = c.args in sym (sets_out (replicate a.n a.v) a.list.now a.from (omega (arith, c.if-from-len.false)))
