-- Which transactions are undone.
use Rattle.std.specs.Prelude.{ℕ, ◌==◌, Bool, true, ◌&&◌, Option, Some, None, nat_le, nat_lt}
use Rattle.binlog_event_format.specs.declared.header.BinlogEventHeader.{BinlogEventHeader}
use Rattle.binlog_undo_index.specs.declared.rules.Positions.{Positions}
use Rattle.binlog_undo_index.specs.declared.rules.Rules.{Rules}
use Rattle.binlog_undo_index.specs.declared.skips.Skips.{Skips}
use Rattle.binlog_undo_log.specs.declared.choice.Choice.{Choice}

abbrev pub is_server : Option ℕ → ℕ → Bool
is_server None id = true
is_server (Some wanted) id = wanted == id

abbrev pub is_before : Option ℕ → ℕ → Bool
is_before None time = true
is_before (Some stop) time = nat_lt time stop

-- The positions between which transactions begin.
abbrev pub positions_of : Choice → Positions
positions_of choice = record { start = choice.transactions.start_position; stop = choice.transactions.stop_position }

abbrev pub rules_of : Choice → Skips → Rules
rules_of choice skips = record { skips = skips; positions = positions_of choice }

-- The first event of a transaction takes it by its server, and by its GTID.
abbrev pub takes_first : Choice → BinlogEventHeader → Bool → Bool
takes_first choice header wanted = wanted && is_server choice.transactions.server_id header.server_id

-- The last one does by its time.
abbrev pub takes_last : Choice → BinlogEventHeader → Bool
takes_last choice header = nat_le choice.transactions.start_time header.timestamp && is_before choice.transactions.stop_time header.timestamp
