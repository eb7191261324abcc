-- The rows of a table that is kept.
use Rattle.std.specs.Prelude.{Bool, List, [], ◌∷◌, ◌++◌, codes}
use Rattle.json.specs.Token.{Token, key}
use Rattle.binlog_images.specs.declared.rows.Rows.{Rows}
use Rattle.binlog_json_values.specs.KeptColumns.{kept_facts}
use Rattle.binlog_json_values.specs.Written.{ShowsKeptRows}
use Rattle.binlog_json_lines.specs.Refusals.{metadata_member}
use Rattle.binlog_json_lines.specs.declared.kept_tables.KeptTable.{KeptTable}

-- Appended are what is refused of the table's metadata, and its rows.
abbrev pub ShowsKept : KeptTable → Rows → (all_read : Bool) → (old new : List Token) → Type 0
ShowsKept table rows all_read old new = ShowsKeptRows (kept_facts table.known) rows all_read (old ++ metadata_member table.refused ++ key (codes "rows") ∷ []) new
