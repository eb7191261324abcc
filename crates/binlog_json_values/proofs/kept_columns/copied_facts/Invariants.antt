use Rattle.std.proofs.Common.{◌≡◌, map, take}
use Rattle.binlog_optional_metadata.specs.Facts.{facts_of}
use Rattle.binlog_json_values.specs.Kept.{facts_in}
use Rattle.binlog_json_values.proofs.kept_columns.copied_facts.Given as goal

abbrev pub invariant-columns : goal.invariant-columns
invariant-columns l = map facts_in l.copies.items ≡ map facts_of (take l.facts-index l.columns)
