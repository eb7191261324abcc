use Rattle.std.proofs.Common.{map}
use Rattle.binlog_json_values.specs.Kept.{facts_in}
use Rattle.binlog_json_values.proofs.KeptFacts.{names_of}
use Rattle.binlog_json_values.proofs.kept_columns.KeptColumns.new.Goals as goal

pub invariant_of-result : goal.invariant_of-result
invariant_of-result c = record { named = names_of c.args.columns.now (map facts_in c.in_ok-facts.facts.items) c.print.new.self.lines.items c.in_ok-facts.ensures c.in_ok-print.ensures }
