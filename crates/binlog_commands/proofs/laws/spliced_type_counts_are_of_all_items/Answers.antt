use Rattle.binlog_commands.proofs.SplicedTypes.{types_spliced}
use Rattle.binlog_commands.proofs.laws.spliced_type_counts_are_of_all_items.Goals as goal

pub returns : goal.returns
returns c = types_spliced
