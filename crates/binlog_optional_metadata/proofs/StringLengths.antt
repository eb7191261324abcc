-- The lengths of STRING columns.
use Rattle.std.proofs.Common.{◌≡◌, ℕ, Bool, true, false, cond, eqb, refl}
use Rattle.binlog_columns.specs.Layouts.{string_layout, real_layout}
use Rattle.binlog_columns.specs.Metadata.{real_number, string_length}
use Rattle.binlog_columns.specs.declared.layout.Layout.TheVariants.{Number}
use Rattle.binlog_optional_metadata.specs.StringLengths.{most_bytes}

length_by : (is_string : Bool) (length : ℕ) → most_bytes (cond is_string (string_layout length) (Number length)) ≡ cond is_string length 0
length_by true length = refl
length_by false length = refl

-- The length is the greatest of the layout.
pub string_length_is : (metadata : ℕ) → most_bytes (real_layout metadata) ≡ cond (eqb (real_number metadata) 254) (string_length metadata) 0
string_length_is metadata = length_by (eqb (real_number metadata) 254) (string_length metadata)
