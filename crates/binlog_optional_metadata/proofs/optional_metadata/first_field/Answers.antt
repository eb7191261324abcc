use Rattle.std.proofs.Common.{ℕ, List, ◌<◌, length, ap, arith}
use Rattle.binlog_wire.specs.Fields.{IsBytes}
use Rattle.binlog_optional_metadata.proofs.Fields.{shorter_field}
use Rattle.binlog_optional_metadata.proofs.optional_metadata.first_field.Goals as goal

pub returns-in-Ok-clause-shorter : goal.returns-in-Ok-clause-shorter
returns-in-Ok-clause-shorter c = λ some.
    let fits : IsBytes c.args.bytes.now = λ i. omega (arith, c.type_inv.bytes i) in
    let less : length c.read_field.new.buf < length c.args.bytes.now = shorter_field c.args.bytes.now c.read_field.new.buf (c.in-Ok.number, c.in-Ok.content.now) fits c.in-Ok.ensures in
    omega (arith, less, ap (λ (s : List ℕ). length s) c.rest.view_is)
