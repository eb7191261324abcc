-- The objects of compressed statements and rows: those of the uncompressed events, and that they were compressed.
use Rattle.std.specs.Prelude.{◌≡◌, ◌⊎◌, ℕ, ◌<◌, ◌≤◌, List, [], ◌∷◌, ◌++◌, codes, length, true}
use Rattle.json.specs.Token.{Token, boolean}
use Rattle.json_line.specs.Tokens.{bytes_value, member, object}
use Rattle.binlog_statements.specs.Statements.{with_query}
use Rattle.binlog_statements.specs.declared.query.QueryEvent.{QueryEvent}
use Rattle.binlog_rows.specs.RowsData.{event_in}
use Rattle.binlog_json_bodies.specs.Statements.{statement_head, statement_texts}
use Rattle.binlog_json_bodies.specs.Rows.{rows_table, rows_columns}
use Rattle.binlog_json_bodies.specs.Data.{error_object}
use Rattle.binlog_mariadb.specs.declared.compressed_rows.RowsCompressedEvent.{RowsCompressedEvent}
use Rattle.binlog_mariadb.specs.Compressed.{IsCompressed}

-- The greatest size of a text in bytes: that of a packet of the server.
abbrev pub most_bytes : ℕ
most_bytes = 1073741824

-- The event was compressed.
abbrev pub compressed_member : List Token
compressed_member = member (codes "compressed") (boolean true ∷ [])

-- The object of a compressed statement with this text.
abbrev pub query_object : QueryEvent → (text : List ℕ) → List Token
query_object e text = object (statement_head (with_query e.statement text) ++ statement_texts true (with_query e.statement text) ++ compressed_member)

-- The object of a compressed row event with these rows.
abbrev pub rows_object : RowsCompressedEvent → (rows : List ℕ) → List Token
rows_object e rows = object (rows_table (event_in e.event) ++ rows_columns (event_in e.event) ++ member (codes "rows_data") (bytes_value rows) ++ compressed_member)

-- The tokens are the object of the text for which these bytes are stored. If they are stored for none, or for a text above the
-- limit, the tokens are those of invalid data.
abbrev pub IsOfText : (stored : List ℕ) (object_of : List ℕ → List Token) (tokens : List Token) → Type 0
IsOfText stored object_of tokens =
    ((text : List ℕ) × IsCompressed stored text × (length text ≤ most_bytes) × (tokens ≡ object_of text))
    ⊎ (((text : List ℕ) → IsCompressed stored text → most_bytes < length text) × (tokens ≡ error_object 6))
