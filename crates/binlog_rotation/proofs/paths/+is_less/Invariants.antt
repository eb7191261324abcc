use Rattle.std.proofs.Common.{◌+◌, length}
use Rattle.binlog_rotation.proofs.paths.+is_less.Given as goal

abbrev pub decreases-is_less : goal.decreases-is_less
decreases-is_less l = length l.own.now + length l.other.now
