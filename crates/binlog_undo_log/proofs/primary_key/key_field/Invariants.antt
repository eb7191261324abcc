use Rattle.std.proofs.Common.{◌≡◌, option_map}
use Rattle.binlog_optional_metadata.specs.FieldValues.{content_of}
use Rattle.binlog_undo_log.proofs.Keys.{fields_of, key_in}
use Rattle.binlog_undo_log.proofs.primary_key.key_field.Given as goal

-- The last field so far that states the primary key.
abbrev pub invariant-fields : goal.invariant-fields
invariant-fields l = option_map content_of l.found ≡ key_in (fields_of l.yielded)
