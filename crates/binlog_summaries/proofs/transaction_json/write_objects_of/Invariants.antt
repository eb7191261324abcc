use Rattle.std.proofs.Common.{◌≡◌, ◌++◌, take}
use Rattle.std.specs.Prelude.{flat_map}
use Rattle.binlog_summaries.specs.TransactionJson.{table_object}
use Rattle.binlog_summaries.proofs.transaction_json.write_objects_of.Given as goal

abbrev pub invariant-tables : goal.invariant-tables
invariant-tables l = l.line ≡ l.fn.line ++ flat_map table_object (take l.index l.tables.entries)
