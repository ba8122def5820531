-- `stands` meets its contract. Assumes nothing.
use Rattle.std.proofs.Common.{◌≡◌, ℕ, ◌-◌, List, ◌++◌, length, take, drop, ap, ◌∙◌, arith}
use Rattle.std.proofs.lemmas.List.{length-drop, drop-drop, take_all}
use Rattle.std.proofs.lemmas.Bool.Decides.{Decides-eqb}
use Rattle.std.proofs.lemmas.Slice.Eq.{starts_is}
use Rattle.scenario_read.proofs.peek.stands.Goals as goal

pub returns-then-at-s : goal.returns-then-at-s
returns-then-at-s c e =
    let a = c.args in
    let rest = drop a.at a.s.now in
    let n = length a.s.now - a.at in
    let text = a.text.now in
    let r = c.starts_with.ensures in
    let all : take n rest ≡ rest = take_all n rest (omega (arith, length-drop a.at a.s.now)) in
    let begins = starts_is Decides-eqb (take n rest) text c.starts_with.result r.value in (
      omega (arith, r.bound e, ap length all, length-drop a.at a.s.now),
      (rw all at (begins.0 e)) ∙ ap (λ (l : List ℕ). text ++ l) (drop-drop (length text) a.at a.s.now),
    )
