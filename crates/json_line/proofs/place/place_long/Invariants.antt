use Rattle.std.proofs.Common.{◌+◌, ◌-◌, ◌≤◌, length, take}
use Rattle.json.specs.Filled.{Placed}
use Rattle.json_line.proofs.place.place_long.Given as goal

abbrev pub invariant-loop-done : goal.invariant-loop-done
invariant-loop-done l = (l.done + 32 ≤ length l.bytes) × Placed l.fn.memory l.memory l.at (take l.done l.bytes) (l.at + l.done)

abbrev pub decreases-loop-done : goal.decreases-loop-done
decreases-loop-done l = length l.bytes - l.done
