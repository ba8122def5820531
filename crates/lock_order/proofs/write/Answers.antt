-- `write` meets its contract: the three parts, one after the other. Assumes nothing.
use Prim.Native.Nat.{ℕ}
use mathlib.Core.Path.{refl, ap, ◌∙◌}
use mathlib.Core.List.{List}
use native.Mathlib.Omega.{arith}
use lib.ListN.{length}
use lib.Seq.{sets, length-sets}
use Rattle.machine.specs.Lists.{lent}
use Rattle.lock_order.specs.Write.{Able, went_of}
use Rattle.lock_order.specs.declared.Going.{Going}
use Rattle.lock.specs.declared.drain.Stop.TheVariants.{IdleOrWait, Idle as IdleOnly, End}
use Rattle.lock_order.proofs.Parts.{part_of, sum, used_first, used_second, stored}
use Rattle.lock_order.proofs.write.Goals as goal

pub returns : goal.returns
returns c =
    let first = c in
    let a = first.args in
    let s = lent a.lists in
    let g : Going = record { lock = a.lock; recs = a.recs; used = 0 } in
    let able : Able s a.count g = (first.requires.recs_value, omega (arith, first.well_formed)) in
    let one = c.sweep-first in
    let p = (part_of s a.count a.n IdleOrWait g).made in
    let two = c.sweep-second in
    let q = (part_of s a.count a.n IdleOnly one.result).made in
    let three = c.sweep in
    let r = (part_of s a.count a.n End two.result).made in
    let list = two.ensures.out_after ∙ ap (λ (x : List ℕ). sets x one.result.used q) one.ensures.out_after in
    three.ensures.out_after ∙ ap (λ (x : List ℕ). sets x two.result.used r) list ∙ stored s a.count a.n g able one.result two.result one.ensures.result_value two.ensures.result_value a.out.now

pub sweep-first-requires-clause-able : goal.sweep-first-requires-clause-able
sweep-first-requires-clause-able c =
    let first = c in
    let a = first.args in
    let s = lent a.lists in
    let g : Going = record { lock = a.lock; recs = a.recs; used = 0 } in
    let able : Able s a.count g = (first.requires.recs_value, omega (arith, first.well_formed)) in
    let x : Going = went_of a.count g (part_of s a.count a.n IdleOrWait g) in
    let y : Going = went_of a.count x (part_of s a.count a.n IdleOnly x) in
    able

pub sweep-first-requires-clause-recs_in_bounds : goal.sweep-first-requires-clause-recs_in_bounds
sweep-first-requires-clause-recs_in_bounds c =
    let first = c in
    let a = first.args in
    let s = lent a.lists in
    let g : Going = record { lock = a.lock; recs = a.recs; used = 0 } in
    let able : Able s a.count g = (first.requires.recs_value, omega (arith, first.well_formed)) in
    let x : Going = went_of a.count g (part_of s a.count a.n IdleOrWait g) in
    let y : Going = went_of a.count x (part_of s a.count a.n IdleOnly x) in
    omega (arith, sum s a.count a.n g able x y refl refl, first.requires.recs_in_bounds)

pub sweep-second-requires-clause-able : goal.sweep-second-requires-clause-able
sweep-second-requires-clause-able c =
    let first = c in
    let a = first.args in
    let s = lent a.lists in
    let g : Going = record { lock = a.lock; recs = a.recs; used = 0 } in
    let able : Able s a.count g = (first.requires.recs_value, omega (arith, first.well_formed)) in
    let one = c.sweep-first in
    let p = (part_of s a.count a.n IdleOrWait g).made in
    let y : Going = went_of a.count one.result (part_of s a.count a.n IdleOnly one.result) in
    let is = one.ensures.result_value in
    let size = ap (λ (x : List ℕ). length x) one.ensures.out_after in
    one.ensures.able_2

pub sweep-second-requires-clause-recs_in_bounds : goal.sweep-second-requires-clause-recs_in_bounds
sweep-second-requires-clause-recs_in_bounds c =
    let first = c in
    let a = first.args in
    let s = lent a.lists in
    let g : Going = record { lock = a.lock; recs = a.recs; used = 0 } in
    let able : Able s a.count g = (first.requires.recs_value, omega (arith, first.well_formed)) in
    let one = c.sweep-first in
    let p = (part_of s a.count a.n IdleOrWait g).made in
    let y : Going = went_of a.count one.result (part_of s a.count a.n IdleOnly one.result) in
    let is = one.ensures.result_value in
    let size = ap (λ (x : List ℕ). length x) one.ensures.out_after in
    omega (arith, sum s a.count a.n g able one.result y is refl, used_first s a.count a.n g able one.result y is refl, first.requires.recs_in_bounds, size, length-sets a.out.now 0 p)

pub sweep-requires-clause-able : goal.sweep-requires-clause-able
sweep-requires-clause-able c =
    let first = c in
    let a = first.args in
    let s = lent a.lists in
    let g : Going = record { lock = a.lock; recs = a.recs; used = 0 } in
    let able : Able s a.count g = (first.requires.recs_value, omega (arith, first.well_formed)) in
    let one = c.sweep-first in
    let p = (part_of s a.count a.n IdleOrWait g).made in
    let two = c.sweep-second in
    let q = (part_of s a.count a.n IdleOnly one.result).made in
    let is = one.ensures.result_value in
    let is2 = two.ensures.result_value in
    let list = two.ensures.out_after ∙ ap (λ (x : List ℕ). sets x one.result.used q) one.ensures.out_after in
    let size = ap (λ (x : List ℕ). length x) list in two.ensures.able_2

pub sweep-requires-clause-recs_in_bounds : goal.sweep-requires-clause-recs_in_bounds
sweep-requires-clause-recs_in_bounds c =
    let first = c in
    let a = first.args in
    let s = lent a.lists in
    let g : Going = record { lock = a.lock; recs = a.recs; used = 0 } in
    let able : Able s a.count g = (first.requires.recs_value, omega (arith, first.well_formed)) in
    let one = c.sweep-first in
    let p = (part_of s a.count a.n IdleOrWait g).made in
    let two = c.sweep-second in
    let q = (part_of s a.count a.n IdleOnly one.result).made in
    let is = one.ensures.result_value in
    let is2 = two.ensures.result_value in
    let list = two.ensures.out_after ∙ ap (λ (x : List ℕ). sets x one.result.used q) one.ensures.out_after in
    let size = ap (λ (x : List ℕ). length x) list in omega (arith, sum s a.count a.n g able one.result two.result is is2, used_first s a.count a.n g able one.result two.result is is2, used_second s a.count a.n g able one.result two.result is is2, first.requires.recs_in_bounds, size, length-sets (sets a.out.now 0 p) one.result.used q, length-sets a.out.now 0 p)
