use Rattle.std.proofs.Common.{◌∙◌}
use Rattle.binlog_gtid_text.proofs.ReadBack.{read_back}
use Rattle.binlog_gtid_text.proofs.parsing.parse.Goals as goal

pub returns-clause-written : goal.returns-clause-written
returns-clause-written c = λ groups are is same. read_back groups are is c.as_bytes.result.now (c.as_bytes.ensures.value ∙ same) c.read.result c.read.ensures.ok c.read.ensures.err
