use Rattle.std.proofs.Common.{◌≡◌, length}
use Rattle.std.specs.Prelude.{is_some}
use Rattle.column_files.specs.Fields.{text_from, field_text}
use Rattle.column_files.proofs.field.is_field.Given as goal

-- The bytes are those of a field if what is left ends one.
abbrev pub invariant-loop-byte : goal.invariant-loop-byte
invariant-loop-byte l = is_some (text_from l.is_begun l.rest) ≡ is_some (field_text l.raw)

abbrev pub decreases-loop-byte : goal.decreases-loop-byte
decreases-loop-byte l = length l.rest
