use Rattle.std.proofs.Common.{◌-◌, ◌≤◌, length}
use Rattle.json_line.specs.Passed.{PassedBetween}
use Rattle.json_line.proofs.plain.is_plain_by_blocks.Given as goal

abbrev pub invariant-blocks-2 : goal.invariant-blocks-2
invariant-blocks-2 g l = (l.at ≤ length l.text) × PassedBetween l.text 0 l.at

abbrev pub decreases-blocks-2 : goal.decreases-blocks-2
decreases-blocks-2 g l = length l.text - l.at
