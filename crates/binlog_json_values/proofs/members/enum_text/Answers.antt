use Rattle.std.proofs.Common.{arith}
use Rattle.binlog_json_values.proofs.EnumTexts.{member_text}
use Rattle.binlog_json_values.proofs.members.enum_text.Goals as goal

pub returns : goal.returns
returns c = member_text c.args.members.now c.args.index c.get.result c.copied.result (omega arith) c.get.ensures.lookup c.copied.ensures
