use Rattle.std.proofs.Common.{◌≡◌, drop}
use Rattle.binary_json_writing.specs.Keys.{bytes_before}
use Rattle.binary_json_writing.proofs.builders.bytes_before.Given as goal

-- The bytes so far are the same, so that the others decide.
abbrev pub invariant-bytes : goal.invariant-bytes
invariant-bytes l = bytes_before l.a l.b ≡ bytes_before (drop l.index l.a) (drop l.index l.b)
