-- Which refused transactions are left as they are.
use Rattle.std.specs.Prelude.{Bool, false}
use Rattle.binlog_transactions.specs.declared.refusal.Refusal.{Refusal}
use Rattle.binlog_transactions.specs.declared.refusal.Refusal.TheVariants as refusals
use Rattle.binlog_undo_index.specs.declared.reason.Reason.{Reason}
use Rattle.binlog_undo_index.specs.declared.reason.Reason.TheVariants as reasons
use Rattle.binlog_undo_index.specs.declared.skips.Skips.{Skips}

abbrev pub is_event_skipped : Skips → Refusal → Bool
is_event_skipped skips refusals.Unfinished = skips.unfinished
is_event_skipped skips refusals.Statement = skips.statement
is_event_skipped skips refusals.LoadData = skips.load_data
is_event_skipped skips refusals.Xa = skips.xa
is_event_skipped skips refusals.Rollback = skips.rollback
is_event_skipped skips refusals.Incident = skips.incident
is_event_skipped skips refusals.Payload = skips.payload
is_event_skipped skips refusals.OldRows = skips.old_rows
is_event_skipped skips refusals.UnknownEvent = skips.unknown_event
is_event_skipped skips refusals.Encrypted = false

-- Damage, the end of a file within an event, encryption, a description and a position within a transaction are never skipped.
abbrev pub is_skipped : Skips → Reason → Bool
is_skipped skips (reasons.Transaction refusal) = is_event_skipped skips refusal
is_skipped skips reasons.NoTableMap = skips.no_table_map
is_skipped skips reasons.Rows = skips.rows
is_skipped skips reasons.OldTemporal = skips.old_temporal
is_skipped skips reasons.Image = skips.image
is_skipped skips reasons.PartialJson = skips.partial_json
is_skipped skips reasons.Compressed = skips.compressed
is_skipped skips reasons.Damaged = false
is_skipped skips reasons.Tail = false
is_skipped skips reasons.Description = false
is_skipped skips (reasons.Straddles end) = false
