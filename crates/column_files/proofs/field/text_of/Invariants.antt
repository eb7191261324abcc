use Rattle.std.proofs.Common.{◌≡◌, ◌++◌, length}
use Rattle.std.specs.Prelude.{option_map}
use Rattle.column_files.specs.Fields.{text_from, field_text}
use Rattle.column_files.proofs.field.text_of.Given as goal

-- The text so far, and that of what is left.
abbrev pub invariant-loop-byte : goal.invariant-loop-byte
invariant-loop-byte l = option_map (λ s. l.text.items ++ s) (text_from l.is_begun l.rest) ≡ field_text l.raw

abbrev pub decreases-loop-byte : goal.decreases-loop-byte
decreases-loop-byte l = length l.rest
