use Rattle.std.proofs.Common.{length}
use Rattle.binary_json_writing.proofs.changing.+changed.Given as goal

abbrev pub decreases-changed : goal.decreases-changed
decreases-changed l = length l.legs.now
