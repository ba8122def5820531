-- `feed` meets its contract. The loop's invariant: the moves that are left lead from here to where all of them lead from the start. The measure is
-- how many turns are left. Assumes nothing.
use Rattle.std.proofs.Common.{◌≡◌, ◌-◌, ◌^◌, length}
use Rattle.scenario_read.specs.Feed.{feed}
use Rattle.scenario_read.specs.Code.{world_of}
use Rattle.scenario_read.proofs.feed.Given as goal

abbrev pub invariant-loop-turns : goal.invariant-loop-turns
invariant-loop-turns l =
    (length l.lens ≡ length l.initial.lens)
    × (length l.ops ≡ length l.initial.ops)
    × (length l.vals ≡ length l.initial.vals)
    × (length l.schedule ≡ length l.initial.schedule)
    × (length l.rows ≡ length l.initial.rows)
    × (feed l.chunk l.last l.turns (world_of l.s l.p l.line l.lens l.ops l.vals l.schedule l.i l.rows l.k) ≡ feed l.chunk l.last (2 ^ 64 - 1) (world_of l.initial.s l.initial.p l.initial.line l.initial.lens l.initial.ops l.initial.vals l.initial.schedule l.from l.initial.rows l.at))

abbrev pub decreases-loop-turns : goal.decreases-loop-turns
decreases-loop-turns l = l.turns
