-- If the metadata is allowed, the numbers of the layout are in their ranges.
use Rattle.std.proofs.Common.{◌≡◌, ℕ, ◌^◌, ◌<◌, ◌≤◌, Bool, true, false, cond, refl, arith}
use Rattle.std.specs.Prelude.{◌&&◌, ◌||◌, ◌==◌, nat_le}
use Rattle.std.proofs.lemmas.Bool.{leb-true}
use Rattle.binlog_columns.specs.declared.layout.Layout.TheVariants.{Number, Counted}
use Rattle.std.proofs.Math.Nat.{one-le-pow}
use Rattle.binlog_columns.specs.Metadata.{first_byte, second_byte, bit_count, real_number, string_length, is_size, is_fraction, is_decimal, is_bit, is_enum_or_set, is_metadata}
use Rattle.binlog_columns.specs.Layouts.{string_layout, blob_layout, layout_as, IsLayout}
use Rattle.binlog_columns.specs.declared.column_type.ColumnType.{ColumnType}
use Rattle.binlog_columns.specs.declared.column_type.ColumnType.TheVariants.{MYSQL_TYPE_TINY, MYSQL_TYPE_SHORT, MYSQL_TYPE_LONG, MYSQL_TYPE_FLOAT, MYSQL_TYPE_DOUBLE, MYSQL_TYPE_NULL, MYSQL_TYPE_TIMESTAMP, MYSQL_TYPE_LONGLONG, MYSQL_TYPE_INT24, MYSQL_TYPE_DATE, MYSQL_TYPE_TIME, MYSQL_TYPE_DATETIME, MYSQL_TYPE_YEAR, MYSQL_TYPE_NEWDATE, MYSQL_TYPE_VARCHAR, MYSQL_TYPE_BIT, MYSQL_TYPE_TIMESTAMP2, MYSQL_TYPE_DATETIME2, MYSQL_TYPE_TIME2, MYSQL_TYPE_BLOB_COMPRESSED, MYSQL_TYPE_VARCHAR_COMPRESSED, MYSQL_TYPE_VECTOR, MYSQL_TYPE_JSON, MYSQL_TYPE_NEWDECIMAL, MYSQL_TYPE_ENUM, MYSQL_TYPE_SET, MYSQL_TYPE_TINY_BLOB, MYSQL_TYPE_MEDIUM_BLOB, MYSQL_TYPE_LONG_BLOB, MYSQL_TYPE_BLOB, MYSQL_TYPE_VAR_STRING, MYSQL_TYPE_STRING, MYSQL_TYPE_GEOMETRY}

both : (a b : Bool) → (a && b) ≡ true → (a ≡ true) × (b ≡ true)
both true b h = (refl, h)
both false b h = absurd cc

le_of : (m n : ℕ) → nat_le m n ≡ true → m ≤ n
le_of m n h = leb-true m n h

pub fraction_is : (m : ℕ) → is_fraction m ≡ true → m ≤ 6
fraction_is m h = le_of m 6 h

pub size_is : (m : ℕ) → is_size m ≡ true → (1 ≤ m) × (m ≤ 4)
size_is m h = let p = both (nat_le 1 m) (nat_le m 4) h in (le_of 1 m p.0, le_of m 4 p.1)

decimal_is : (m : ℕ) → is_decimal m ≡ true → (1 ≤ first_byte m) × (first_byte m ≤ 65) × (second_byte m ≤ first_byte m) × (second_byte m ≤ 38)
decimal_is m h =
    let p = both (nat_le 1 (first_byte m) && nat_le (first_byte m) 65 && nat_le (second_byte m) (first_byte m)) (nat_le (second_byte m) 38) h in
    let q = both (nat_le 1 (first_byte m) && nat_le (first_byte m) 65) (nat_le (second_byte m) (first_byte m)) p.0 in
    let r = both (nat_le 1 (first_byte m)) (nat_le (first_byte m) 65) q.0 in
    (le_of 1 _ r.0, le_of _ 65 r.1, le_of _ _ q.1, le_of _ 38 p.1)

pub bit_is : (m : ℕ) → is_bit m ≡ true → (1 ≤ bit_count m) × (bit_count m ≤ 64)
bit_is m h =
    let p = both (nat_le (first_byte m) 7 && nat_le 1 (bit_count m)) (nat_le (bit_count m) 64) h in
    let q = both (nat_le (first_byte m) 7) (nat_le 1 (bit_count m)) p.0 in
    (le_of 1 _ q.1, le_of _ 64 p.1)

within : (a : Bool) (n k : ℕ) → (a && nat_le 1 n && nat_le n k) ≡ true → (1 ≤ n) × (n ≤ k)
within a n k h =
    let p = both (a && nat_le 1 n) (nat_le n k) h in
    let q = both a (nat_le 1 n) p.0 in
    (le_of 1 n q.1, le_of n k p.1)

one_of : (a b : Bool) (n : ℕ) → (a && nat_le 1 n && nat_le n 2 || b && nat_le 1 n && nat_le n 8) ≡ true → (t : Bool) → (a && nat_le 1 n && nat_le n 2) ≡ t → (1 ≤ n) × (n ≤ 8)
one_of a b n h true e = let p = within a n 2 e in (p.0, omega (arith, p.1))
one_of a b n h false e = let g : (false || b && nat_le 1 n && nat_le n 8) ≡ true = rw e at h in within b n 8 g

pub enum_or_set_is : (m : ℕ) → is_enum_or_set m ≡ true → (1 ≤ string_length m) × (string_length m ≤ 8)
enum_or_set_is m h = one_of (real_number m == 247) (real_number m == 248) (string_length m) h _ refl

string_by : (max : ℕ) → max < 65536 → (t : Bool) → nat_le max 255 ≡ t → IsLayout (Counted (cond t 1 2) max)
string_by max less true is = let small : max ≤ 255 = leb-true max 255 is in (omega arith, omega arith, omega arith)
string_by max less false is = (omega arith, omega arith, omega arith)

string_is : (max : ℕ) → max < 65536 → IsLayout (string_layout max)
string_is max less = string_by max less _ refl

blob_is : (prefix : ℕ) → is_size prefix ≡ true → IsLayout (blob_layout prefix)
blob_is prefix h =
    let p = size_is prefix h in
    let some : 1 ≤ 256 ^ prefix = one-le-pow prefix 256 (omega arith) in
    (p.0, p.1, omega arith)

real_by : (m : ℕ) → m < 65536 → (t : Bool) → (t || is_enum_or_set m) ≡ true → IsLayout (cond t (string_layout (string_length m)) (Number (string_length m)))
real_by m less true h = string_is (string_length m) (omega arith)
real_by m less false h = enum_or_set_is m h

-- The law.
pub sound_layout : (t : ColumnType) (m : ℕ) → m < 65536 → is_metadata t m ≡ true → IsLayout (layout_as t m)
sound_layout MYSQL_TYPE_TINY m less h = (omega arith, omega arith)
sound_layout MYSQL_TYPE_SHORT m less h = (omega arith, omega arith)
sound_layout MYSQL_TYPE_LONG m less h = (omega arith, omega arith)
sound_layout MYSQL_TYPE_FLOAT m less h = (omega arith, omega arith)
sound_layout MYSQL_TYPE_DOUBLE m less h = (omega arith, omega arith)
sound_layout MYSQL_TYPE_NULL m less h = tt
sound_layout MYSQL_TYPE_TIMESTAMP m less h = (omega arith, omega arith)
sound_layout MYSQL_TYPE_LONGLONG m less h = (omega arith, omega arith)
sound_layout MYSQL_TYPE_INT24 m less h = (omega arith, omega arith)
sound_layout MYSQL_TYPE_DATE m less h = (omega arith, omega arith)
sound_layout MYSQL_TYPE_TIME m less h = (omega arith, omega arith)
sound_layout MYSQL_TYPE_DATETIME m less h = (omega arith, omega arith)
sound_layout MYSQL_TYPE_YEAR m less h = (omega arith, omega arith)
sound_layout MYSQL_TYPE_NEWDATE m less h = (omega arith, omega arith)
sound_layout MYSQL_TYPE_VARCHAR m less h = string_is m less
sound_layout MYSQL_TYPE_BIT m less h = bit_is m h
sound_layout MYSQL_TYPE_TIMESTAMP2 m less h = fraction_is m h
sound_layout MYSQL_TYPE_DATETIME2 m less h = fraction_is m h
sound_layout MYSQL_TYPE_TIME2 m less h = fraction_is m h
sound_layout MYSQL_TYPE_BLOB_COMPRESSED m less h = blob_is m h
sound_layout MYSQL_TYPE_VARCHAR_COMPRESSED m less h = string_is m less
sound_layout MYSQL_TYPE_VECTOR m less h = size_is m h
sound_layout MYSQL_TYPE_JSON m less h = blob_is m h
sound_layout MYSQL_TYPE_NEWDECIMAL m less h = decimal_is m h
sound_layout MYSQL_TYPE_ENUM m less h = enum_or_set_is m h
sound_layout MYSQL_TYPE_SET m less h = enum_or_set_is m h
sound_layout MYSQL_TYPE_TINY_BLOB m less h = blob_is m h
sound_layout MYSQL_TYPE_MEDIUM_BLOB m less h = blob_is m h
sound_layout MYSQL_TYPE_LONG_BLOB m less h = blob_is m h
sound_layout MYSQL_TYPE_BLOB m less h = blob_is m h
sound_layout MYSQL_TYPE_VAR_STRING m less h = string_is m less
sound_layout MYSQL_TYPE_STRING m less h = real_by m less _ h
sound_layout MYSQL_TYPE_GEOMETRY m less h = blob_is m h
