use Rattle.binlog_summaries.proofs.Powers.{half_power}
use Rattle.binlog_summaries.proofs.transaction_text.smallest_of.Goals as goal

pub returns-else-class-eq0 : goal.returns-else-class-eq0
returns-else-class-eq0 c = half_power c.args.class c.if-class-eq0.false c.requires
