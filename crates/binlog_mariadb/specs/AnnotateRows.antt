-- ANNOTATE_ROWS, type 160, the statement that the row events after it come from: its text, to the end.
-- Source: MariaDB's documentation, "ANNOTATE_ROWS_EVENT".
use Rattle.std.specs.Prelude.{refl}
use Rattle.binlog_wire.specs.Formats.{Format, last, rest, seen_as}
use Rattle.binlog_mariadb.specs.declared.annotate_rows.AnnotateRowsEvent.{AnnotateRowsEvent}

-- The format of the body.
abbrev pub annotate_rows : Format last AnnotateRowsEvent
annotate_rows = seen_as (λ text. record { query = text }) (λ e. e.query) (λ _. refl) (λ _. refl) rest
