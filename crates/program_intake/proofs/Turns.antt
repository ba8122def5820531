-- What a turn leaves, of the world that the reader left. Assumes nothing.
use Prim.Native.Nat.{ℕ, ◌^◌, ◌-◌, ◌≤◌, min}
use mathlib.Core.Path.{◌≡◌, refl, ap, ◌∙◌}
use mathlib.Core.List.{List}
use native.Mathlib.Omega.{arith}
use lib.ListN.{length, take}
use Rattle.program_chunks.specs.declared.Input.{Input}
use Rattle.scenario_read.specs.Feed.{World, feed}
use Rattle.scenario_read.specs.Code.{world_of, fed_of, Parts}
use Rattle.scenario_read.specs.declared.Fed.{Fed}
use Rattle.scenario_promises.proofs.Session.{goes_on}
use Rattle.program_intake.specs.Intake.{turned, came_of}
use Rattle.program_intake.specs.declared.Intake.{Intake}
use Rattle.program_intake.specs.declared.Came.{Came}

module _ (i : Intake) (input : Input) (line lens ops vals schedule chunk rows : List ℕ) where
  abbrev after : World
  after = turned i input line lens ops vals schedule chunk rows

  -- rows end within the list, and the list keeps its length
  ends_within : (after.at ≤ length after.out) × (length after.out ≡ length rows)
  ends_within =
      let w = world_of i.state i.standing line lens ops vals schedule input.from rows 0 in
      let g = goes_on (take (min input.len (length chunk)) chunk) input.last (2 ^ 64 - 1) w after refl in
      (g.5 (omega arith), g.2)

  -- what was fed is the front of the chunk
  module _ (front : List ℕ) (is : front ≡ take (min input.len (length chunk)) chunk) (fed : Fed) (line' lens' ops' vals' schedule' rows' : List ℕ)
      (went : Parts fed line' lens' ops' vals' schedule' rows'
      (feed front input.last (2 ^ 64 - 1) (world_of i.state i.standing line lens ops vals schedule input.from rows 0)))
      (r : Came) (handed : r ≡ came_of input fed (length rows')) where
    same : Parts fed line' lens' ops' vals' schedule' rows' after
    same = rw (← is) went

    pub turn_leaves :
        (r ≡ came_of input (fed_of after) (length rows))
        × ((line' ≡ after.line)
        × ((lens' ≡ after.lens)
        × ((ops' ≡ after.ops) × ((vals' ≡ after.vals) × ((schedule' ≡ after.schedule) × ((rows' ≡ after.out) × (r.at ≤ length rows')))))))
    turn_leaves =
        let (is_fed, (a, (b, (c, (d, (e, f)))))) = same in
        let size : length rows' ≡ length rows = ap length f ∙ ends_within.1 in
        let came : r ≡ came_of input (fed_of after) (length rows) = handed ∙ λ j. came_of input (is_fed j) (size j) in
        (came, (a, (b, (c, (d, (e, (f, rw (came, f) ends_within.0)))))))
