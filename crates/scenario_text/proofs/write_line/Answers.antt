-- `write_line` meets its contract. Assumes nothing.
use mathlib.Core.Path.{◌≡◌}
use native.Mathlib.Omega.{arith}
use lib.ListN.{length}
use lib.Seq.{take_all}
use Rattle.scenario_text.specs.Lines.{last_field}
use Rattle.scenario_text.proofs.Stores.{both}
use Rattle.scenario_text.proofs.Texts.{no_fields, field_more}
use Rattle.scenario_text.proofs.write_line.Goals as goal

pub loop-v-init : goal.loop-v-init
loop-v-init c = no_fields c.args.out.now c.args.at

pub loop-v-preserved : goal.loop-v-preserved
loop-v-preserved c = field_more c.args.front.now (omega arith) (omega arith) c.loop-v.invariant c.write_field-n.ensures

pub returns : goal.returns
unfolding last_field
returns c =
    let front = c.args.front.now in
    let e : c.loop-v.v-index ≡ length front = omega arith in
    let whole = rw (e, take_all (length front) front (omega arith)) at c.loop-v.invariant in
    both whole (both c.write_number-n.ensures c.write_bytes.ensures)
