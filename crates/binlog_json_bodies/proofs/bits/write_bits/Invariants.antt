use Rattle.std.proofs.Common.{◌≡◌, ◌∷◌, ◌++◌, []}
use Rattle.json.specs.Token.{begin_array}
use Rattle.binlog_json_bodies.specs.Bits.{first_bits}
use Rattle.binlog_json_bodies.proofs.bits.write_bits.Given as goal

abbrev pub invariant-bits : goal.invariant-bits
invariant-bits l = l.line ≡ l.fn.line ++ begin_array ∷ [] ++ first_bits l.index l.fn.bits.bytes.now
