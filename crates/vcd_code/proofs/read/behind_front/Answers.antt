-- `behind_front` meets its contract. Assumes nothing.
use mathlib.Core.Path.{◌≡◌, sym, subst}
use mathlib.Core.Bool.{true, false}
use mathlib.Core.List.{List}
use Prim.Native.Nat.{ℕ}
use lib.ListN.{length, drop}
use lib.Seq.{length-take-le}
use Rattle.std.specs.Prelude.{MatchOption}
use Rattle.vcd.specs.Read.{starts}
use Rattle.vcd_code.proofs.Gather.{stripped}
use Rattle.vcd_code.proofs.Scratch.{front_room, front_there}
use Rattle.vcd_code.proofs.read.behind_front.Goals as goal

pub slice_bounds-text-end : goal.slice_bounds-text-end
slice_bounds-text-end c =
    let put = c.put_front-n in
    front_room c.args.s _ _ put.ensures.value put.ensures.out_after

pub slice_bounds-strip_prefix-end : goal.slice_bounds-strip_prefix-end
slice_bounds-strip_prefix-end c =
    let put = c.put_front-n in
    sym (length-take-le _ _ (front_room c.args.s _ _ put.ensures.value put.ensures.out_after))

pub returns : goal.returns
returns c =
    let a = c.args in
    let put = c.put_front-n in
    subst (λ (text : List ℕ). MatchOption c.strip_prefix.result (starts text a.file.now ≡ false) (λ rest. (starts text a.file.now ≡ true) × (rest.now ≡ drop (length text) a.file.now)))
    (front_there a.s _ _ put.ensures.value put.ensures.out_after)
    (stripped _ _ _ c.strip_prefix.ensures.cases)
