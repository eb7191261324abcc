-- What is kept of the columns of a table.
use Rattle.std.specs.Prelude.{List, map}
use Rattle.binlog_optional_metadata.specs.Facts.{Facts}
use Rattle.binlog_json_values.specs.Kept.{facts_in}
use Rattle.binlog_json_values.specs.declared.kept_columns.KeptColumns.{KeptColumns}

-- The facts of the columns, in order.
abbrev pub kept_facts : KeptColumns → List Facts
kept_facts kept = map facts_in kept.facts.items
