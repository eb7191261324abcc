use Rattle.std.proofs.Common.{refl}
use Rattle.binlog_variable_fields.specs.Laws.Tags.{no_tag}
use Rattle.binlog_variable_fields.proofs.tag.Tag.from_bytes.Goals as goal

pub returns-in-Err : goal.returns-in-Err
returns-in-Err c = (refl, no_tag c.args.bytes.now c.in-Err.ensures.cases.0)
