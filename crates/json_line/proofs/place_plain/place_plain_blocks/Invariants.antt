use Rattle.std.proofs.Common.{◌+◌, ◌-◌, ◌≤◌, length, take}
use Rattle.json.specs.Filled.{Placed}
use Rattle.json_line.specs.Passed.{PassedBetween}
use Rattle.json_line.proofs.place_plain.place_plain_blocks.Given as goal

-- The blocks so far are copied and pass.
abbrev pub invariant-loop-done : goal.invariant-loop-done
invariant-loop-done g l = (l.done + g.row.N ≤ length l.text) × PassedBetween l.text 0 l.done × Placed l.fn.memory l.memory l.at (take l.done l.text) (l.at + l.done)

abbrev pub decreases-loop-done : goal.decreases-loop-done
decreases-loop-done g l = length l.text - l.done
