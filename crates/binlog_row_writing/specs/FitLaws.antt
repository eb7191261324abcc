-- What is stored for a value fits its layout.
use Rattle.std.proofs.Common.{◌≡◌, ℕ, zero, suc, ◌+◌, ◌-◌, ◌*◌, ◌/◌, ◌%◌, ◌^◌, ◌<◌, ◌≤◌, Bool, true, false, cond, List, length, Result, subst, Ok, Err, refl, sym, ap, ◌∙◌, arith}
use Rattle.std.specs.Prelude.{◌&&◌, ◌==◌, nat_lt, nat_le}
use Rattle.std.proofs.lemmas.Bool.{ltb-true, le-ltb, lt-ltb, le-leb, eqb-true, eqb-false}
use Rattle.std.proofs.lemmas.Nat.{pow-add}
use Rattle.std.proofs.Math.Nat.{pow-le-pow_right}
use Rattle.binlog_variable_fields.specs.Laws.Varlen.{pow256}
use Rattle.binlog_columns.specs.Metadata.{Typed}
use Rattle.binlog_columns.specs.Layouts.{layout_of}
use Rattle.binlog_columns.specs.declared.column_type.ColumnType.{ColumnType}
use Rattle.binlog_columns.specs.declared.layout.Layout.{Layout}
use Rattle.binlog_columns.specs.declared.layout.Layout.TheVariants as layouts
use Rattle.binlog_values.specs.Contents.{Content, of_number, of_bytes, content_in, fraction_len, fraction_of, before_fraction, is_below_second, is_datetime2, is_time2, time2_zero, time2_distance, decimal_len, is_decimal_bytes}
use Rattle.binlog_row_writing.specs.Numbers.{Numbered, bit_number}
use Rattle.binlog_row_writing.specs.Times.{is_fraction, with_fraction, is_clock, clock_bits, is_datetime2_date, datetime2_bits, timestamp2_number, datetime2_number, time2_bits, time2_number}
use Rattle.binlog_row_writing.specs.NewContents.{Spelled, fits_bytes, fits_bits, number_if, tested_number, any_number, bytes_if, tested_bytes, is_counted, is_vector, number_in_column, bytes_in_column, vector_bytes, decimal_of, decimal_content, content_by, content_for}
use Rattle.binlog_row_writing.specs.FractionLaws.{both, split_fraction, fraction_is, fraction_small}
use Rattle.binlog_row_writing.specs.declared.new_value.NewDate.{NewDate}
use Rattle.binlog_row_writing.specs.declared.new_value.NewTime.{NewTime}
use Rattle.binlog_row_writing.specs.declared.row_write_error.RowWriteErrorKind.TheVariants.{OutOfRange}
use Rattle.binlog_row_writing.specs.declared.row_write_error.RowWriteErrorKind.{RowWriteErrorKind}
use Rattle.binlog_row_writing.specs.declared.new_decimal.NewDecimal.{NewDecimal}
use Rattle.binlog_row_writing.specs.declared.new_value.NewValue.{NewValue}
use Rattle.binlog_row_writing.specs.declared.new_value.NewValue.TheVariants.{Null, Unsigned, Signed, Float, Double, Decimal, Date, Year, Timestamp, Time, DateTime, Bit, Enum, Set, Bytes, Json, Geometry, Vector, Compressed}

-- A number that passed its test.
number_by : (fits : Bool) (n : ℕ) (c : Content) → number_if fits n ≡ Ok c → (fits ≡ true) × (of_number n ≡ c)
number_by true n c h = (refl, cc)
number_by false n c h = absurd cc

tested_by : (test : ℕ → Bool) (r : Numbered) (c : Content) → tested_number test r ≡ Ok c → (n : ℕ) × (test n ≡ true) × (of_number n ≡ c)
tested_by test (Ok n) c h = let p = number_by (test n) n c h in (n, p.0, p.1)
tested_by test (Err e) c h = absurd cc

-- A number that always fits.
any_by : (r : Numbered) (c : Content) → any_number r ≡ Ok c → (n : ℕ) × (r ≡ Ok n) × (of_number n ≡ c)
any_by (Ok n) c h = (n, refl, cc)
any_by (Err e) c h = absurd cc

-- Bytes whose length passed its test.
bytes_by : (fits : Bool) (s : List ℕ) (c : Content) → bytes_if fits s ≡ Ok c → (fits ≡ true) × (of_bytes s ≡ c)
bytes_by true s c h = (refl, cc)
bytes_by false s c h = absurd cc

spelled_by : (test : ℕ → Bool) (r : Spelled) (c : Content) → tested_bytes test r ≡ Ok c → (s : List ℕ) × (test (length s) ≡ true) × (of_bytes s ≡ c)
spelled_by test (Ok s) c h = let p = bytes_by (test (length s)) s c h in (s, p.0, p.1)
spelled_by test (Err e) c h = absurd cc

-- ---- fractions

pub ok_if : (t : Bool) (n m : ℕ) → ◌≡◌ {A = Numbered} (cond t (Ok n) (Err OutOfRange)) (Ok m) → (t ≡ true) × (n ≡ m)
ok_if true n m h = (refl, cc)
ok_if false n m h = absurd cc

-- A number with a fraction fits its bytes, and the fraction is below one second.
fraction_fits : (digits n us bytes : ℕ) → is_fraction digits us ≡ true → n < 256 ^ bytes
    → (with_fraction digits n us < 256 ^ (bytes + fraction_len digits)) × (is_below_second digits (with_fraction digits n us) ≡ true)
fraction_fits digits n us bytes fits less =
    let f = fraction_is digits us fits in
    let parts = split_fraction digits n us f.0 f.1 in
    let small = fraction_small digits n us (256 ^ bytes) f.0 f.1 less in
    let power : 256 ^ (bytes + fraction_len digits) ≡ 256 ^ bytes * 256 ^ fraction_len digits = pow-add 256 bytes (fraction_len digits) in
    (subst (λ (m : ℕ). with_fraction digits n us < m) (sym power) small, lt-ltb _ _ (omega (arith, parts.1, parts.2)))

-- ---- TIMESTAMP2

timestamp2_is : (digits : ℕ) (value : NewValue) (n : ℕ) → timestamp2_number digits value ≡ Ok n
    → (seconds us : ℕ) × (seconds < 2 ^ 32) × (is_fraction digits us ≡ true) × (with_fraction digits seconds us ≡ n)
timestamp2_is digits (Timestamp seconds us) n h =
    let p = ok_if (nat_lt seconds (2 ^ 32) && is_fraction digits us) (with_fraction digits seconds us) n h in
    let q = both (nat_lt seconds (2 ^ 32)) (is_fraction digits us) p.0 in
    (seconds, us, ltb-true seconds (2 ^ 32) q.0, q.1, p.1)
timestamp2_is digits Null n h = absurd cc
timestamp2_is digits (Unsigned a) n h = absurd cc
timestamp2_is digits (Signed a) n h = absurd cc
timestamp2_is digits (Float a) n h = absurd cc
timestamp2_is digits (Double a) n h = absurd cc
timestamp2_is digits (Decimal a) n h = absurd cc
timestamp2_is digits (Date a) n h = absurd cc
timestamp2_is digits (Year a) n h = absurd cc
timestamp2_is digits (Time a b) n h = absurd cc
timestamp2_is digits (DateTime a b) n h = absurd cc
timestamp2_is digits (Bit a) n h = absurd cc
timestamp2_is digits (Enum a) n h = absurd cc
timestamp2_is digits (Set a) n h = absurd cc
timestamp2_is digits (Bytes a) n h = absurd cc
timestamp2_is digits (Json a) n h = absurd cc
timestamp2_is digits (Geometry a) n h = absurd cc
timestamp2_is digits (Vector a) n h = absurd cc
timestamp2_is digits (Compressed a) n h = absurd cc

timestamp2_fits : (digits : ℕ) (value : NewValue) (n : ℕ) → timestamp2_number digits value ≡ Ok n → (n < 256 ^ (4 + fraction_len digits)) × (is_below_second digits n ≡ true)
timestamp2_fits digits value n h =
    let p = timestamp2_is digits value n h in
    subst (λ (m : ℕ). (m < 256 ^ (4 + fraction_len digits)) × (is_below_second digits m ≡ true)) p.4 (fraction_fits digits p.0 p.1 4 p.3 p.2)

-- ---- DATETIME2

datetime2_is : (digits : ℕ) (value : NewValue) (n : ℕ) → datetime2_number digits value ≡ Ok n
    → (date : NewDate) × (time : NewTime) × (is_datetime2_date date time.hour ≡ true) × (is_clock digits time ≡ true) × (with_fraction digits (datetime2_bits date time) time.microsecond ≡ n)
datetime2_is digits (DateTime date time) n h =
    let p = ok_if (is_datetime2_date date time.hour && is_clock digits time) (with_fraction digits (datetime2_bits date time) time.microsecond) n h in
    let q = both (is_datetime2_date date time.hour) (is_clock digits time) p.0 in
    (date, time, q.0, q.1, p.1)
datetime2_is digits Null n h = absurd cc
datetime2_is digits (Unsigned a) n h = absurd cc
datetime2_is digits (Signed a) n h = absurd cc
datetime2_is digits (Float a) n h = absurd cc
datetime2_is digits (Double a) n h = absurd cc
datetime2_is digits (Decimal a) n h = absurd cc
datetime2_is digits (Date a) n h = absurd cc
datetime2_is digits (Year a) n h = absurd cc
datetime2_is digits (Timestamp a b) n h = absurd cc
datetime2_is digits (Time a b) n h = absurd cc
datetime2_is digits (Bit a) n h = absurd cc
datetime2_is digits (Enum a) n h = absurd cc
datetime2_is digits (Set a) n h = absurd cc
datetime2_is digits (Bytes a) n h = absurd cc
datetime2_is digits (Json a) n h = absurd cc
datetime2_is digits (Geometry a) n h = absurd cc
datetime2_is digits (Vector a) n h = absurd cc
datetime2_is digits (Compressed a) n h = absurd cc

-- The minute, the second and the fraction fit.
pub clock_is : (digits : ℕ) (time : NewTime) → is_clock digits time ≡ true → (time.minute < 64) × (time.second < 64) × (is_fraction digits time.microsecond ≡ true)
clock_is digits time h =
    let p = both (nat_lt time.minute 64 && nat_lt time.second 64) (is_fraction digits time.microsecond) h in
    let q = both (nat_lt time.minute 64) (nat_lt time.second 64) p.0 in
    (ltb-true _ _ q.0, ltb-true _ _ q.1, p.1)

-- The date and the hour fit.
pub date_is : (date : NewDate) (hour : ℕ) → is_datetime2_date date hour ≡ true → (date.month < 13) × (date.day < 32) × (hour < 32) × (13 * date.year + date.month < 2 ^ 17)
date_is date hour h =
    let p = both (nat_lt date.month 13 && nat_lt date.day 32 && nat_lt hour 32) (nat_lt (13 * date.year + date.month) (2 ^ 17)) h in
    let q = both (nat_lt date.month 13 && nat_lt date.day 32) (nat_lt hour 32) p.0 in
    let r = both (nat_lt date.month 13) (nat_lt date.day 32) q.0 in
    (ltb-true _ _ r.0, ltb-true _ _ r.1, ltb-true _ _ q.1, ltb-true _ _ p.1)

bits_small : (date : NewDate) (time : NewTime) → 13 * date.year + date.month < 2 ^ 17 → date.day < 32 → time.hour < 32 → time.minute < 64 → time.second < 64 → datetime2_bits date time < 256 ^ 5
bits_small date time month day hour minute second = omega arith

and_both : (a b : Bool) → a ≡ true → b ≡ true → (a && b) ≡ true
and_both a b p q = rw (p, q) refl

datetime2_parts : (digits : ℕ) (date : NewDate) (time : NewTime) → is_datetime2_date date time.hour ≡ true → is_clock digits time ≡ true
    → let n = with_fraction digits (datetime2_bits date time) time.microsecond in (n < 256 ^ (5 + fraction_len digits)) × (is_datetime2 digits n ≡ true)
datetime2_parts digits date time d c =
    let day = date_is date time.hour d in
    let clock = clock_is digits time c in
    let f = fraction_is digits time.microsecond clock.2 in
    let bits : ℕ = datetime2_bits date time in
    let parts = split_fraction digits bits time.microsecond f.0 f.1 in
    let fits = fraction_fits digits bits time.microsecond 5 clock.2 (bits_small date time day.3 day.1 day.2 clock.0 clock.1) in
    (fits.0, and_both _ _ (le-leb _ _ (omega (arith, parts.0))) fits.1)

datetime2_fits : (digits : ℕ) (value : NewValue) (n : ℕ) → datetime2_number digits value ≡ Ok n → (n < 256 ^ (5 + fraction_len digits)) × (is_datetime2 digits n ≡ true)
datetime2_fits digits value n h =
    let p = datetime2_is digits value n h in
    subst (λ (m : ℕ). (m < 256 ^ (5 + fraction_len digits)) × (is_datetime2 digits m ≡ true)) p.4 (datetime2_parts digits p.0 p.1 p.2 p.3)

-- ---- TIME2

pub time2_by : (digits : ℕ) (is_negative : Bool) (time : NewTime) (n : ℕ) (t : Bool)
    → ◌≡◌ {A = Numbered} (cond t (time2_bits digits is_negative (with_fraction digits (clock_bits time) time.microsecond)) (Err OutOfRange)) (Ok n)
    → (t ≡ true) × (time2_bits digits is_negative (with_fraction digits (clock_bits time) time.microsecond) ≡ Ok n)
time2_by digits is_negative time n true h = (refl, h)
time2_by digits is_negative time n false h = absurd cc

pub clock_small : (time : NewTime) → time.hour < 1024 → time.minute < 64 → time.second < 64 → clock_bits time < 2 ^ 22
clock_small time hour minute second = omega arith

some_of : (n : ℕ) → (n ≡ 0 → ⊥) → 1 ≤ n
some_of zero f = absurd (f refl)
some_of (suc n) f = omega arith

below_by : (digits distance n : ℕ) (t : Bool) → (distance == 0) ≡ t → ◌≡◌ {A = Numbered} (cond t (Err OutOfRange) (Ok (time2_zero digits - distance))) (Ok n)
    → (1 ≤ distance) × (time2_zero digits - distance ≡ n)
below_by digits distance n true is h = absurd cc
below_by digits distance n false is h = (some_of distance (eqb-false distance 0 is), cc)

time2_is : (digits : ℕ) (value : NewValue) (n : ℕ) → time2_number digits value ≡ Ok n
    → (is_negative : Bool) × (time : NewTime) × (time.hour < 1024) × (is_clock digits time ≡ true) × (time2_bits digits is_negative (with_fraction digits (clock_bits time) time.microsecond) ≡ Ok n)
time2_is digits (Time is_negative time) n h =
    let p = time2_by digits is_negative time n (nat_lt time.hour 1024 && is_clock digits time) h in
    let q = both (nat_lt time.hour 1024) (is_clock digits time) p.0 in
    (is_negative, time, ltb-true _ _ q.0, q.1, p.1)
time2_is digits Null n h = absurd cc
time2_is digits (Unsigned a) n h = absurd cc
time2_is digits (Signed a) n h = absurd cc
time2_is digits (Float a) n h = absurd cc
time2_is digits (Double a) n h = absurd cc
time2_is digits (Decimal a) n h = absurd cc
time2_is digits (Date a) n h = absurd cc
time2_is digits (Year a) n h = absurd cc
time2_is digits (Timestamp a b) n h = absurd cc
time2_is digits (DateTime a b) n h = absurd cc
time2_is digits (Bit a) n h = absurd cc
time2_is digits (Enum a) n h = absurd cc
time2_is digits (Set a) n h = absurd cc
time2_is digits (Bytes a) n h = absurd cc
time2_is digits (Json a) n h = absurd cc
time2_is digits (Geometry a) n h = absurd cc
time2_is digits (Vector a) n h = absurd cc
time2_is digits (Compressed a) n h = absurd cc

-- The number of a TIME2 has its distance from zero.
pub distance_back : (digits : ℕ) (is_negative : Bool) (distance n : ℕ) → distance < 2 ^ 22 * 256 ^ fraction_len digits → time2_bits digits is_negative distance ≡ Ok n
    → (time2_distance digits n ≡ distance) × (n < 2 ^ 24 * 256 ^ fraction_len digits) × (nat_lt n (time2_zero digits) ≡ is_negative)
distance_back digits false distance n small h =
    let is : time2_zero digits + distance ≡ n = cc in
    let test : nat_lt n (time2_zero digits) ≡ false = le-ltb _ _ (omega arith) in
    (rw test (omega arith), omega arith, test)
distance_back digits true distance n small h =
    let p = below_by digits distance n (distance == 0) refl h in
    let some : 1 ≤ distance = p.0 in
    let is : time2_zero digits - distance ≡ n = p.1 in
    let test : nat_lt n (time2_zero digits) ≡ true = lt-ltb _ _ (omega arith) in
    (rw test (omega arith), omega arith, test)

time2_parts : (digits n : ℕ) (is_negative : Bool) (time : NewTime) → time.hour < 1024 → is_clock digits time ≡ true
    → time2_bits digits is_negative (with_fraction digits (clock_bits time) time.microsecond) ≡ Ok n → (n < 256 ^ (3 + fraction_len digits)) × (is_time2 digits n ≡ true)
time2_parts digits n is_negative time hour c h =
    let clock = clock_is digits time c in
    let f = fraction_is digits time.microsecond clock.2 in
    let bits : ℕ = clock_bits time in
    let small : bits < 2 ^ 22 = clock_small time hour clock.0 clock.1 in
    let distance : ℕ = with_fraction digits bits time.microsecond in
    let parts = split_fraction digits bits time.microsecond f.0 f.1 in
    let back = distance_back digits is_negative distance n (fraction_small digits bits time.microsecond (2 ^ 22) f.0 f.1 small) h in
    let power : 256 ^ (3 + fraction_len digits) ≡ 256 ^ 3 * 256 ^ fraction_len digits = pow-add 256 3 (fraction_len digits) in
    let below : is_below_second digits distance ≡ true = lt-ltb (fraction_of digits distance) (100 ^ fraction_len digits) (omega (arith, parts.1, parts.2)) in
    let reserved : nat_lt (before_fraction digits distance) (2 ^ 22) ≡ true = lt-ltb (before_fraction digits distance) (2 ^ 22) (omega (arith, parts.0)) in
    let test : ℕ → Type 0 = λ m. (is_below_second digits m && nat_lt (before_fraction digits m) (2 ^ 22)) ≡ true in
    let fits : test distance = and_both (is_below_second digits distance) (nat_lt (before_fraction digits distance) (2 ^ 22)) below reserved in
    (subst (λ (m : ℕ). n < m) (sym power) back.1, subst test (sym back.0) fits)

time2_fits : (digits : ℕ) (value : NewValue) (n : ℕ) → time2_number digits value ≡ Ok n → (n < 256 ^ (3 + fraction_len digits)) × (is_time2 digits n ≡ true)
time2_fits digits value n h = let p = time2_is digits value n h in time2_parts digits n p.0 p.1 p.2 p.3 p.4

-- ---- any layout

powers : (k : ℕ) → 256 ^ k ≡ 2 ^ (8 * k)
powers k =
    let e : 7 * k + k ≡ 8 * k = omega arith in
    pow256 k ∙ ap (λ (m : ℕ). 2 ^ m) e

bits_fit : (count n : ℕ) → n < 2 ^ count → n < 256 ^ ((count + 7) / 8)
bits_fit count n less =
    let power : 256 ^ ((count + 7) / 8) ≡ 2 ^ (8 * ((count + 7) / 8)) = powers ((count + 7) / 8) in
    let more : 2 ^ count ≤ 2 ^ (8 * ((count + 7) / 8)) = pow-le-pow_right (omega arith) (omega arith) in
    omega arith

decimal_by : (precision scale : ℕ) (r : Result NewDecimal RowWriteErrorKind) (c : Content) → decimal_content precision scale r ≡ Ok c → (content_in (layouts.Decimal precision scale)).Fits c
decimal_by precision scale (Ok d) c h =
    let p = bytes_by (d.precision == precision && d.scale == scale) d.bytes.items c h in
    let q = both (d.precision == precision) (d.scale == scale) p.0 in
    let size : length d.bytes.items ≡ decimal_len precision scale =
    subst (λ (n : ℕ). length d.bytes.items ≡ decimal_len n scale) (eqb-true d.precision precision q.0)
    (subst (λ (n : ℕ). length d.bytes.items ≡ decimal_len d.precision n) (eqb-true d.scale scale q.1) d.whole) in
    let fits : is_decimal_bytes precision scale d.bytes.items ≡ true =
    subst (λ (n : ℕ). is_decimal_bytes n scale d.bytes.items ≡ true) (eqb-true d.precision precision q.0)
    (subst (λ (n : ℕ). is_decimal_bytes d.precision n d.bytes.items ≡ true) (eqb-true d.scale scale q.1) d.fits) in
    subst (λ (e : Content). (content_in (layouts.Decimal precision scale)).Fits e) p.1 (refl, (size, fits))
decimal_by precision scale (Err e) c h = absurd cc

pub content_fits_by : (layout : Layout) (column_type : ColumnType) (metadata : ℕ) (value : NewValue) (c : Content) → content_by layout column_type metadata value ≡ Ok c → (content_in layout).Fits c
content_fits_by layouts.Nothing t m value c h = absurd cc
content_fits_by (layouts.Number len) t m value c h =
    let p = tested_by (fits_bytes len) (number_in_column len t m value) c h in
    subst (λ (d : Content). (content_in (layouts.Number len)).Fits d) p.2 (refl, ltb-true p.0 (256 ^ len) p.1)
content_fits_by (layouts.Bits count) t m value c h =
    let p = tested_by (fits_bits count) (bit_number value) c h in
    let less = ltb-true p.0 (2 ^ count) p.1 in
    subst (λ (d : Content). (content_in (layouts.Bits count)).Fits d) p.2 (refl, (bits_fit count p.0 less, p.1))
content_fits_by (layouts.Timestamp2 digits) t m value c h =
    let p = any_by (timestamp2_number digits value) c h in
    subst (λ (d : Content). (content_in (layouts.Timestamp2 digits)).Fits d) p.2 (refl, timestamp2_fits digits value p.0 p.1)
content_fits_by (layouts.DateTime2 digits) t m value c h =
    let p = any_by (datetime2_number digits value) c h in
    subst (λ (d : Content). (content_in (layouts.DateTime2 digits)).Fits d) p.2 (refl, datetime2_fits digits value p.0 p.1)
content_fits_by (layouts.Time2 digits) t m value c h =
    let p = any_by (time2_number digits value) c h in
    subst (λ (d : Content). (content_in (layouts.Time2 digits)).Fits d) p.2 (refl, time2_fits digits value p.0 p.1)
content_fits_by (layouts.Decimal precision scale) t m value c h = decimal_by precision scale (decimal_of value) c h
content_fits_by (layouts.Counted prefix max) t m value c h =
    let p = spelled_by (is_counted prefix max) (bytes_in_column t value) c h in
    let q = both (nat_le (length p.0) max) (fits_bytes prefix (length p.0)) p.1 in
    subst (λ (d : Content). (content_in (layouts.Counted prefix max)).Fits d) p.2 (refl, ((ltb-true (length p.0) (256 ^ prefix) q.1, q.0), refl))
content_fits_by (layouts.Vector prefix) t m value c h =
    let p = spelled_by (is_vector prefix) (vector_bytes value) c h in
    let q = both (length p.0 % 4 == 0) (fits_bytes prefix (length p.0)) p.1 in
    subst (λ (d : Content). (content_in (layouts.Vector prefix)).Fits d) p.2 (refl, ((ltb-true (length p.0) (256 ^ prefix) q.1, q.0), refl))

-- What is stored for a value in a column fits the column's layout.
pub content_fits : (column : Typed) (value : NewValue) (c : Content) → content_for column value ≡ Ok c → (content_in (layout_of column)).Fits c
content_fits column value c h = content_fits_by (layout_of column) column.0 column.1 value c h
