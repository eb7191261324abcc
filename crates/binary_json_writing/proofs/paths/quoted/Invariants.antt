use Rattle.std.proofs.Common.{◌≤◌, length}
use Rattle.binary_json_writing.specs.Paths.{Spells}
use Rattle.binary_json_writing.proofs.paths.quoted.Given as goal

-- The name so far, and what is behind it.
abbrev pub invariant-bytes : goal.invariant-bytes
invariant-bytes l = record {
  spelled : Spells l.name.items l.bytes l.rest;
  short : length l.rest ≤ length l.bytes;
}

abbrev pub decreases-bytes : goal.decreases-bytes
decreases-bytes l = length l.rest
