use Rattle.std.proofs.Common.{length, map}
use Rattle.binary_json_writing.specs.Paths.{leg_of, AreLegs}
use Rattle.binary_json_writing.proofs.paths.legs.Given as goal

-- The legs so far, and what is behind them.
abbrev pub invariant-legs : goal.invariant-legs
invariant-legs l = AreLegs (map leg_of l.legs.items) l.bytes l.rest

abbrev pub decreases-legs : goal.decreases-legs
decreases-legs l = length l.rest
