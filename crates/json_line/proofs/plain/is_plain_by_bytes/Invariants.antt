use Rattle.json_line.specs.Passed.{PassedBetween}
use Rattle.json_line.proofs.plain.is_plain_by_bytes.Given as goal

abbrev pub invariant-bytes : goal.invariant-bytes
invariant-bytes l = PassedBetween l.text 0 l.byte-index
