-- Partial updates: which JSON columns of an image are lists of diffs, and not whole documents.
-- Source: MySQL's documentation of its source code, `mysql::binlog::event::Rows_event`.
use Rattle.std.specs.Prelude.{◌≡◌, ℕ, ◌+◌, ◌==◌, ◌&&◌, nat_lt, Bool, true, false, List, [], ◌∷◌, Option, None, Some, unwrap_or, option_map, Result, Ok, Err, if◌then◌else◌, refl}
use Rattle.std.proofs.Common.{arith}
use Rattle.binlog_wire.specs.declared.error.Invalid.{Invalid}
use Rattle.binlog_wire.specs.Formats.{Format, anywhere, silent, then, made}
use Rattle.binlog_variable_fields.specs.Chosen.{IsChoice}
use Rattle.binlog_variable_fields.specs.Formats.{chosen, lenenc}
use Rattle.binlog_columns.specs.Metadata.{Typed}
use Rattle.binlog_columns.specs.declared.column_type.ColumnType.{ColumnType}
use Rattle.binlog_columns.specs.declared.column_type.ColumnType.TheVariants.{MYSQL_TYPE_JSON}
use Rattle.binlog_values.specs.Contents.{out_of_range}
use Rattle.binlog_rows.specs.Columns.{Bitmap, bitmap}
use Rattle.binlog_images.specs.Bits.{is_set}

-- ---- JSON columns

abbrev pub is_json_type : ColumnType → Bool
is_json_type MYSQL_TYPE_JSON = true
is_json_type _ = false

-- Whether the column is of type JSON.
abbrev pub is_json : Typed → Bool
is_json column = is_json_type column.0

-- How many of the columns are of type JSON.
abbrev pub json_count : List Typed → ℕ
json_count [] = 0
json_count (column ∷ others) = (if is_json column then 1 else 0) + json_count others

-- ---- the diff bits of an image

-- A bit for each JSON column of the table, present or not, and the index of the next one among them, or their number
-- after the last one. None where all documents are whole.
abbrev pub Diffs : Type 0
Diffs = Option (Bitmap × ℕ)

-- The bits of the first column.
abbrev pub first_diffs : Option Bitmap → Diffs
first_diffs bits = option_map (λ b. (b, 0)) bits

-- Whether the next column, if it is present and not NULL, is a list of diffs.
abbrev pub is_diffs : Typed → Diffs → Bool
is_diffs column None = false
is_diffs column (Some diffs) = is_json column && is_set diffs.0 diffs.1

-- The bits of the column after the next one. Only a JSON column has a bit.
abbrev pub next_diffs : Typed → Diffs → Diffs
next_diffs column None = None
next_diffs column (Some diffs) = Some (diffs.0, if is_json column && nat_lt diffs.1 diffs.0.0 then diffs.1 + 1 else diffs.1)

-- ---- the options in front of them

-- Whether diff bits follow: the options are 1, or 0.
abbrev pub options_in : ℕ → Result Bool Invalid
options_in n = if n == 0 then Ok false else if n == 1 then Ok true else Err out_of_range

abbrev pub options_of : Bool → ℕ
options_of false = 0
options_of true = 1

options_fit : (b : Bool) → (lenenc {place = anywhere}).Fits (options_of b)
options_fit false = omega arith
options_fit true = omega arith

options_show : (b : Bool) → options_in (options_of b) ≡ Ok b
options_show false = refl
options_show true = refl

pub options_choice : IsChoice (lenenc {place = anywhere}) options_in options_of (λ b. b) (λ _. Unit {0})
options_choice = record {
  fits = λ b fits. options_fit b;
  shows = λ b fits. options_show b;
  settled = λ s a r b h e. refl;
  twice = λ b. refl;
  again = λ b fits. refl;
}

-- The options, a length-encoded integer.
abbrev pub options : Format anywhere Bool
options = chosen options_in options_of (λ b. b) (λ _. Unit {0}) lenenc options_choice

-- The bits of this many JSON columns, where they follow.
abbrev pub bits_if : Bool → ℕ → Format anywhere (Option Bitmap)
bits_if false count = silent None
bits_if true count = made {A = Bitmap} (λ bits. Some bits) (λ o. unwrap_or o (0, [])) (bitmap count) (λ s a r h. refl) (λ _. refl)

-- Bits are written if there are any.
abbrev pub with_options : Option Bitmap → Bool × Option Bitmap
with_options None = (false, None)
with_options (Some bits) = (true, Some bits)

abbrev pub options_then : ℕ → Format anywhere (Bool × Option Bitmap)
options_then count = (then) options (λ follow. bits_if follow count)

pub bits_back : (count : ℕ) (s r : List ℕ) (follow : Bool) (o : Option Bitmap) → (bits_if follow count).spells s o r → with_options o ≡ (follow, o)
bits_back count s r false o h = rw h.0 refl
bits_back count s r true o h = rw h.1 refl

pub bits_whole : (count : ℕ) (o : Option Bitmap) → with_options ((options_then count).normal (with_options o)).1 ≡ (options_then count).normal (with_options o)
bits_whole count None = refl
bits_whole count (Some bits) = refl

-- The options, and the bits of this many JSON columns if they follow.
abbrev pub diff_bits : ℕ → Format anywhere (Option Bitmap)
diff_bits count = made {A = Bool × Option Bitmap} (λ x. x.1) with_options (options_then count) (λ s x r h. bits_back count h.0 r x.0 x.1 h.2) (bits_whole count)
