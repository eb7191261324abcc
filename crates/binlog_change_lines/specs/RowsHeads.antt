-- What the lines of the rows of an event begin with, as a value of the program has it.
use Rattle.std.specs.Prelude.{List, Option}
use Rattle.json.specs.Token.{Token}
use Rattle.binlog_optional_metadata.specs.declared.metadata_error.OptionalMetadataError.{OptionalMetadataError}
use Rattle.binlog_change_lines.specs.Heads.{place_of, head_members}
use Rattle.binlog_change_lines.specs.declared.row_lines.RowsHead.{RowsHead}

abbrev pub head_in : RowsHead → (refusal : Option OptionalMetadataError) → List Token
head_in head refusal = head_members (place_of head.place.now) head.time head.table_map.now head.body.now refusal
