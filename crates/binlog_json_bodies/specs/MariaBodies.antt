-- The objects of the smaller events.
use Rattle.std.specs.Prelude.{List, ◌++◌, codes, take}
use Rattle.json.specs.Token.{Token}
use Rattle.json_line.specs.Tokens.{number_value, text_value, bytes_value, member, object}
use Rattle.binlog_mariadb.specs.declared.annotate_rows.AnnotateRowsEvent.{AnnotateRowsEvent}
use Rattle.binlog_mariadb.specs.declared.binlog_checkpoint.BinlogCheckpointEvent.{BinlogCheckpointEvent}
use Rattle.binlog_mariadb.specs.declared.start_encryption.StartEncryptionEvent.{StartEncryptionEvent}

-- The object of an ANNOTATE_ROWS event: the statement.
abbrev pub annotate_rows_object : AnnotateRowsEvent → List Token
annotate_rows_object e = object (member (codes "query") (text_value e.query))

-- The object of a BINLOG_CHECKPOINT event: the name of a log.
abbrev pub binlog_checkpoint_object : BinlogCheckpointEvent → List Token
binlog_checkpoint_object e = object (member (codes "name") (text_value (take 4294967295 e.name)))

-- The object of a START_ENCRYPTION event.
abbrev pub start_encryption_object : StartEncryptionEvent → List Token
start_encryption_object e = object
    (member (codes "scheme") (number_value e.scheme) ++ member (codes "key_version") (number_value e.key_version) ++ member (codes "nonce") (bytes_value e.nonce))
