-- What the numbers of the options ask for.
use Rattle.std.specs.Prelude.{◌≡◌, ℕ, ◌==◌, ◌^◌, Bool, true, false, ◌&&◌, not, bit_and, bit_or, nat_lt}
use Rattle.binlog_transactions.specs.declared.refusal.Refusal.{Refusal}
use Rattle.binlog_transactions.specs.declared.refusal.Refusal.TheVariants as refusals
use Rattle.binlog_undo.specs.declared.inverse_event.ForeignKeyChecks.{ForeignKeyChecks}
use Rattle.binlog_undo.specs.declared.inverse_event.ForeignKeyChecks.TheVariants.{AsLogged, Off}
use Rattle.binlog_undo_index.specs.declared.reason.Reason.{Reason}
use Rattle.binlog_undo_index.specs.declared.reason.Reason.TheVariants as reasons
use Rattle.binlog_undo_index.specs.declared.skips.Skips.{Skips}
use Rattle.binlog_undo_items.specs.declared.options.BinlogUndoOptions.{BinlogUndoOptions}

-- The number of each reason, as C has it.
abbrev refusal_number : Refusal → ℕ
refusal_number refusals.Unfinished = 1
refusal_number refusals.Statement = 2
refusal_number refusals.LoadData = 3
refusal_number refusals.Xa = 4
refusal_number refusals.Rollback = 5
refusal_number refusals.Incident = 6
refusal_number refusals.Payload = 7
refusal_number refusals.OldRows = 8
refusal_number refusals.UnknownEvent = 9
refusal_number refusals.Encrypted = 10

abbrev pub reason_number : Reason → ℕ
reason_number (reasons.Transaction refusal) = refusal_number refusal
reason_number reasons.NoTableMap = 11
reason_number reasons.Rows = 12
reason_number reasons.OldTemporal = 13
reason_number reasons.Image = 14
reason_number reasons.PartialJson = 15
reason_number reasons.Compressed = 16
reason_number reasons.Damaged = 17
reason_number reasons.Tail = 18
reason_number reasons.Description = 19
reason_number (reasons.Straddles end) = 20

-- The number has a bit.
abbrev pub has_bit : ℕ → ℕ → Bool
has_bit number bit = not (bit_and number bit == 0)

-- The reasons whose bits are set, 2^n for the number n, are skipped.
abbrev pub skips_of : BinlogUndoOptions → Skips
skips_of options = record {
  unfinished = has_bit options.skip 0x2;
  statement = has_bit options.skip 0x4;
  load_data = has_bit options.skip 0x8;
  xa = has_bit options.skip 0x10;
  rollback = has_bit options.skip 0x20;
  incident = has_bit options.skip 0x40;
  payload = has_bit options.skip 0x80;
  old_rows = has_bit options.skip 0x100;
  unknown_event = has_bit options.skip 0x200;
  no_table_map = has_bit options.skip 0x800;
  rows = has_bit options.skip 0x1000;
  old_temporal = has_bit options.skip 0x2000;
  image = has_bit options.skip 0x4000;
  partial_json = has_bit options.skip 0x8000;
  compressed = has_bit options.skip 0x10000;
}

-- The flags.
abbrev pub checks_if : Bool → ForeignKeyChecks
checks_if true = Off
checks_if false = AsLogged

abbrev pub checks_of : BinlogUndoOptions → ForeignKeyChecks
checks_of options = checks_if (has_bit options.flags 1)

abbrev pub is_one : BinlogUndoOptions → Bool
is_one options = has_bit options.flags 2

abbrev pub has_plain_temporal : BinlogUndoOptions → Bool
has_plain_temporal options = has_bit options.flags 4

-- All reasons can be skipped, and there are no other flags.
abbrev pub are_known : BinlogUndoOptions → Bool
are_known options = (bit_or options.skip 0x1fbfe == 0x1fbfe) && nat_lt options.flags 8
