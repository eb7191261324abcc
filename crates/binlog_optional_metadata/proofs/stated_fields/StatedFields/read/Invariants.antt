use Rattle.binlog_optional_metadata.specs.StatedFields.{stated_of}
use Rattle.binlog_optional_metadata.proofs.FieldItems.{Taken}
use Rattle.binlog_optional_metadata.proofs.stated_fields.StatedFields.read.Given as goal

-- The last fields so far.
abbrev pub invariant-fields : goal.invariant-fields
invariant-fields l = Taken l.yielded (stated_of l.stated) l.stated.refusal
