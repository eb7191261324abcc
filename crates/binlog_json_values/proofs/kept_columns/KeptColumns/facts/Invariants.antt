use Rattle.std.proofs.Common.{◌≡◌, map, take}
use Rattle.binlog_optional_metadata.specs.Facts.{facts_of}
use Rattle.binlog_json_values.specs.Kept.{facts_in}
use Rattle.binlog_json_values.proofs.kept_columns.KeptColumns.facts.Given as goal

abbrev pub invariant-columns : goal.invariant-columns
invariant-columns l = map facts_of l.borrowed.items ≡ map facts_in (take l.facts-index l.self.facts.items)
