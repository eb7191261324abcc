use Rattle.binlog_variable_fields.specs.Laws.Sized.{least_size_solves, least_size_is_least}
use Rattle.binlog_gtids.proofs.laws.payload_sizes.Goals as goal

pub returns-clause-solves : goal.returns-clause-solves
returns-clause-solves c = least_size_solves

pub returns-clause-least : goal.returns-clause-least
returns-clause-least c = least_size_is_least
