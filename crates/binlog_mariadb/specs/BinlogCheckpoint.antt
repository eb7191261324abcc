-- BINLOG_CHECKPOINT, type 161, the oldest log that crash recovery needs: its name, after its length in 4 bytes.
-- Source: MariaDB's documentation, "BINLOG_CHECKPOINT_EVENT".
use Rattle.std.specs.Prelude.{refl}
use Rattle.binlog_wire.specs.Formats.{Format, last, text, seen_as}
use Rattle.binlog_mariadb.specs.declared.binlog_checkpoint.BinlogCheckpointEvent.{BinlogCheckpointEvent}

-- The format of the body.
abbrev pub binlog_checkpoint : Format last BinlogCheckpointEvent
binlog_checkpoint = seen_as (λ name. record { name = name }) (λ e. e.name) (λ _. refl) (λ _. refl) (text 4 4294967295 refl)
