-- What the lines of the rows of an event begin with.
use Rattle.std.specs.Prelude.{ℕ, List, [], ◌∷◌, ◌++◌, codes, Option, None, Some}
use Rattle.json.specs.Token.{Token, string, null}
use Rattle.json_line.specs.Tokens.{number_value, text_value, or_null, member}
use Rattle.binlog_rows.specs.declared.rows_event_data.RowsEventData.{RowsEventData}
use Rattle.binlog_rows.specs.declared.rows_event_data.RowsEventData.TheVariants.{WriteRowsEventV1, UpdateRowsEventV1, DeleteRowsEventV1, WriteRowsEvent, UpdateRowsEvent, DeleteRowsEvent, PartialUpdateRowsEvent}
use Rattle.binlog_rows.specs.declared.table_map_event.TableMapEvent.{TableMapEvent}
use Rattle.binlog_optional_metadata.specs.declared.metadata_error.OptionalMetadataError.{OptionalMetadataError}
use Rattle.binlog_json_lines.specs.Refusals.{metadata_member}
use Rattle.binlog_json_lines.specs.RowMembers.{schema_in, table_in}
use Rattle.binlog_change_lines.specs.declared.heads.EventPlace.{EventPlace}

-- Where an event stands: its file; where it begins in it, or the event with the payload that it is inside; its number inside; and the text
-- of the GTID of its transaction, which is empty if it has none.
pub record Place : Type 0 where
  pub file : List ℕ
  pub position : Option ℕ
  pub part : Option ℕ
  pub gtid : List ℕ

abbrev pub place_of : EventPlace → Place
place_of place = record { file = place.file.now; position = place.position; part = place.part; gtid = place.gtid.now }

-- The member of an event inside a compressed transaction; none outside.
abbrev pub part_member : Option ℕ → List Token
part_member None = []
part_member (Some number) = member (codes "part") (number_value number)

-- A GTID, or null if there is none.
abbrev pub gtid_value : List ℕ → List Token
gtid_value [] = null ∷ []
gtid_value (b ∷ text) = string (b ∷ text) ∷ []

abbrev pub place_members : Place → List Token
place_members place =
    member (codes "file") (string place.file ∷ [])
    ++ member (codes "pos") (or_null number_value place.position)
    ++ part_member place.part
    ++ member (codes "gtid") (gtid_value place.gtid)

-- The names of a table.
abbrev pub name_members : TableMapEvent → List Token
name_members map = member (codes "database") (text_value (schema_in map)) ++ member (codes "table") (text_value (table_in map))

-- The time of the event, in seconds since 1970, and the names of its table.
abbrev pub table_members : (time : ℕ) → TableMapEvent → List Token
table_members time map = member (codes "time") (number_value time) ++ name_members map

-- What is done to rows.
pub data Operation : Type 0 where
  insert : Operation
  update : Operation
  delete : Operation

-- That of a row event.
abbrev pub operation_of : RowsEventData → Operation
operation_of (WriteRowsEventV1 event) = insert
operation_of (WriteRowsEvent event) = insert
operation_of (UpdateRowsEventV1 event) = update
operation_of (UpdateRowsEvent event) = update
operation_of (PartialUpdateRowsEvent event) = update
operation_of (DeleteRowsEventV1 event) = delete
operation_of (DeleteRowsEvent event) = delete

abbrev pub operation_name : Operation → List ℕ
operation_name insert = codes "insert"
operation_name update = codes "update"
operation_name delete = codes "delete"

abbrev pub operation_member : RowsEventData → List Token
operation_member body = member (codes "op") (string (operation_name (operation_of body)) ∷ [])

-- What the line of each row of an event begins with. `refusal` is why the first field of the optional metadata is refused that is: what it
-- would state of the columns is missing in the rows.
abbrev pub head_members : Place → (time : ℕ) → TableMapEvent → RowsEventData → (refusal : Option OptionalMetadataError) → List Token
head_members place time map body refusal = place_members place ++ table_members time map ++ operation_member body ++ metadata_member refusal
