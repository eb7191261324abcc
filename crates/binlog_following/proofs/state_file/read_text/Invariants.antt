use Rattle.std.proofs.Common.{length, ◌-◌, ◌≤◌}
use Rattle.binlog_following.proofs.state_file.read_text.Given as goal

abbrev pub invariant-pieces : goal.invariant-pieces
invariant-pieces g l = l.len ≤ length l.text

abbrev pub decreases-pieces : goal.decreases-pieces
decreases-pieces g l = length l.initial.text - l.len
