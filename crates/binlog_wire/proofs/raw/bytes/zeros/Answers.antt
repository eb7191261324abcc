use Rattle.std.proofs.lemmas.List.{take-replicate}
use Rattle.binlog_wire.proofs.raw.bytes.zeros.Goals as goal

pub returns-clause-zeros : goal.returns-clause-zeros
returns-clause-zeros c = take-replicate c.args.count 50 0 c.requires
