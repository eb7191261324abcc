-- The parts of values are read back as they were written.
use Rattle.std.proofs.Common.{◌≡◌, ℕ, ◌+◌, ◌-◌, ◌*◌, ◌/◌, ◌%◌, ◌^◌, ◌<◌, Bool, true, false, cond, Ok, Err, refl, sym, ap, subst, ◌∙◌, arith}
use Rattle.std.specs.Prelude.{◌&&◌, ◌==◌, nat_lt, nat_le}
use Rattle.std.proofs.lemmas.Bool.{ltb-true, leb-true, lt-leb, le-leb, eqb-true}
use Rattle.binlog_values.specs.Contents.{fraction_len, before_fraction, time2_zero, time2_distance}
use Rattle.binlog_values.specs.Times.{microseconds_of, date_time_of, time_distance}
use Rattle.binlog_row_writing.specs.Numbers.{Numbered}
use Rattle.binlog_row_writing.specs.Times.{is_date, date_bits, is_digital, time_digits, time_bits, time_number, datetime_digits, datetime_number, is_fraction, with_fraction, is_clock, clock_bits, is_datetime2_date, datetime2_bits, timestamp2_number, datetime2_number, time2_number}
use Rattle.binlog_row_writing.specs.FractionLaws.{both, fraction_is, split_fraction, whole_fraction, fraction_small}
use Rattle.binlog_row_writing.specs.FitLaws.{ok_if, time2_by, clock_is, date_is, clock_small, distance_back}
use Rattle.binlog_row_writing.specs.declared.new_value.NewDate.{NewDate}
use Rattle.binlog_row_writing.specs.declared.new_value.NewTime.{NewTime}
use Rattle.binlog_row_writing.specs.declared.new_value.NewValue.TheVariants.{Timestamp, Time, DateTime}
use Rattle.binlog_row_writing.specs.declared.row_write_error.RowWriteErrorKind.TheVariants.{OutOfRange}

-- The parts of a DATE.
pub record ReadsDate (date : NewDate) (n : ℕ) : Type 0 where
  pub year : n / 512 ≡ date.year
  pub month : n / 32 % 16 ≡ date.month
  pub day : n % 32 ≡ date.day

-- The parts of a TIME, of its decimal digits. It has no microseconds.
pub record ReadsTime (is_negative : Bool) (time : NewTime) (n : ℕ) : Type 0 where
  pub sign : nat_le (2 ^ 23) n ≡ is_negative
  pub hour : time_distance n / 10000 ≡ time.hour
  pub minute : time_distance n / 100 % 100 ≡ time.minute
  pub second : time_distance n % 100 ≡ time.second
  pub microsecond : 0 ≡ time.microsecond

-- The parts of a DATETIME, of its decimal digits. It has no microseconds.
pub record ReadsDateTime (date : NewDate) (time : NewTime) (n : ℕ) : Type 0 where
  pub year : n / 10000000000 ≡ date.year
  pub month : n / 100000000 % 100 ≡ date.month
  pub day : n / 1000000 % 100 ≡ date.day
  pub hour : n / 10000 % 100 ≡ time.hour
  pub minute : n / 100 % 100 ≡ time.minute
  pub second : n % 100 ≡ time.second
  pub microsecond : 0 ≡ time.microsecond

-- The parts of a time of day in so many units.
pub record ReadsClock (time : NewTime) (n : ℕ) : Type 0 where
  pub hour : n / 2 ^ 12 ≡ time.hour
  pub minute : n / 2 ^ 6 % 64 ≡ time.minute
  pub second : n % 64 ≡ time.second

-- The parts of a TIMESTAMP2.
pub record ReadsTimestamp2 (digits seconds us n : ℕ) : Type 0 where
  pub seconds_are : before_fraction digits n ≡ seconds
  pub microseconds_are : microseconds_of digits n ≡ us

-- The parts of a DATETIME2.
pub record ReadsDateTime2 (digits : ℕ) (date : NewDate) (time : NewTime) (n : ℕ) : Type 0 where
  pub year : date_time_of digits n / 2 ^ 22 / 13 ≡ date.year
  pub month : date_time_of digits n / 2 ^ 22 % 13 ≡ date.month
  pub day : date_time_of digits n / 2 ^ 17 % 32 ≡ date.day
  pub hour : date_time_of digits n / 2 ^ 12 % 32 ≡ time.hour
  pub minute : date_time_of digits n / 2 ^ 6 % 64 ≡ time.minute
  pub second : date_time_of digits n % 64 ≡ time.second
  pub microsecond : microseconds_of digits n ≡ time.microsecond

-- The parts of a TIME2.
pub record ReadsTime2 (digits : ℕ) (is_negative : Bool) (time : NewTime) (n : ℕ) : Type 0 where
  pub sign : nat_lt n (time2_zero digits) ≡ is_negative
  pub parts : ReadsClock time (before_fraction digits (time2_distance digits n))
  pub microsecond : microseconds_of digits (time2_distance digits n) ≡ time.microsecond

pub date_back : (date : NewDate) → is_date date ≡ true → ReadsDate date (date_bits date)
date_back date h =
    let p = both (nat_lt date.month 16) (nat_lt date.day 32) h in
    let month = ltb-true date.month 16 p.0 in
    let day = ltb-true date.day 32 p.1 in
    record { year = omega arith; month = omega arith; day = omega arith }

-- ---- decimal digits

if_ok : (t : Bool) (r : Numbered) (n : ℕ) → ◌≡◌ {A = Numbered} (cond t r (Err OutOfRange)) (Ok n) → (t ≡ true) × (r ≡ Ok n)
if_ok true r n h = (refl, h)
if_ok false r n h = absurd cc

-- The minute and the second have two digits, and there are no microseconds.
digital_is : (time : NewTime) → is_digital time ≡ true → (time.minute < 100) × (time.second < 100) × (time.microsecond ≡ 0)
digital_is time h =
    let p = both (nat_lt time.minute 100 && nat_lt time.second 100) (time.microsecond == 0) h in
    let q = both (nat_lt time.minute 100) (nat_lt time.second 100) p.0 in
    (ltb-true _ _ q.0, ltb-true _ _ q.1, eqb-true time.microsecond 0 p.1)

-- The sign and the digits of a number in two's complement of three bytes.
bits_are : (is_negative : Bool) (digits n : ℕ) → time_bits is_negative digits ≡ Ok n → (nat_le (2 ^ 23) n ≡ is_negative) × (time_distance n ≡ digits)
bits_are false digits n h =
    let p = ok_if (nat_lt digits (2 ^ 23)) digits n h in
    let less = ltb-true digits (2 ^ 23) p.0 in
    let test : nat_le (2 ^ 23) n ≡ false = lt-leb _ _ (omega (arith, less, p.1)) in
    (test, rw test (sym p.1))
bits_are true digits n h =
    let p = ok_if (nat_le 1 digits && nat_le digits (2 ^ 23)) (2 ^ 24 - digits) n h in
    let q = both (nat_le 1 digits) (nat_le digits (2 ^ 23)) p.0 in
    let most = leb-true digits (2 ^ 23) q.1 in
    let test : nat_le (2 ^ 23) n ≡ true = le-leb _ _ (omega (arith, most, p.1)) in
    (test, rw test (omega (arith, most, p.1)))

pub time_back : (n : ℕ) (is_negative : Bool) (time : NewTime) → time_number (Time is_negative time) ≡ Ok n → ReadsTime is_negative time n
time_back n is_negative time h =
    let p = if_ok (is_digital time) (time_bits is_negative (time_digits time)) n h in
    let parts = digital_is time p.0 in
    let bits = bits_are is_negative (time_digits time) n p.1 in
    record {
      sign = bits.0;
      hour = omega (arith, bits.1, parts.0, parts.1);
      minute = omega (arith, bits.1, parts.0, parts.1);
      second = omega (arith, bits.1, parts.0, parts.1);
      microsecond = sym parts.2;
    }

-- The parts of decimal digits, two for each but the year.
digits_back : (y mo d h mi s n : ℕ) → mo < 100 → d < 100 → h < 100 → mi < 100 → s < 100 → (y * 10000 + mo * 100 + d) * 1000000 + (h * 10000 + mi * 100 + s) ≡ n
    → (n / 10000000000 ≡ y) × (n / 100000000 % 100 ≡ mo) × (n / 1000000 % 100 ≡ d) × (n / 10000 % 100 ≡ h) × (n / 100 % 100 ≡ mi) × (n % 100 ≡ s)
digits_back y mo d h mi s n month day hour minute second is = (omega arith, omega arith, omega arith, omega arith, omega arith, omega arith)

pub datetime_back : (n : ℕ) (date : NewDate) (time : NewTime) → datetime_number (DateTime date time) ≡ Ok n → ReadsDateTime date time n
datetime_back n date time h =
    let p = ok_if (nat_lt date.month 100 && nat_lt date.day 100 && nat_lt time.hour 100 && is_digital time) (datetime_digits date time) n h in
    let q = both (nat_lt date.month 100 && nat_lt date.day 100 && nat_lt time.hour 100) (is_digital time) p.0 in
    let r = both (nat_lt date.month 100 && nat_lt date.day 100) (nat_lt time.hour 100) q.0 in
    let t = both (nat_lt date.month 100) (nat_lt date.day 100) r.0 in
    let clock = digital_is time q.1 in
    let parts = digits_back date.year date.month date.day time.hour time.minute time.second n (ltb-true _ _ t.0) (ltb-true _ _ t.1) (ltb-true _ _ r.1) clock.0 clock.1 p.1 in
    record {
      year = parts.0;
      month = parts.1;
      day = parts.2;
      hour = parts.3;
      minute = parts.4;
      second = parts.5;
      microsecond = sym clock.2;
    }

-- ---- fractions

-- The microseconds of a fraction.
us_back : (digits n us : ℕ) → is_fraction digits us ≡ true → microseconds_of digits (with_fraction digits n us) ≡ us
us_back digits n us h =
    let f = fraction_is digits us h in
    let parts = split_fraction digits n us f.0 f.1 in
    ap (λ (m : ℕ). m * 100 ^ (3 - fraction_len digits)) parts.1 ∙ whole_fraction digits us f.0 f.1 f.2

before_back : (digits n us : ℕ) → is_fraction digits us ≡ true → before_fraction digits (with_fraction digits n us) ≡ n
before_back digits n us h = let f = fraction_is digits us h in let parts = split_fraction digits n us f.0 f.1 in parts.0

pub timestamp2_back : (digits seconds us n : ℕ) → timestamp2_number digits (Timestamp seconds us) ≡ Ok n → ReadsTimestamp2 digits seconds us n
timestamp2_back digits seconds us n h =
    let p = ok_if (nat_lt seconds (2 ^ 32) && is_fraction digits us) (with_fraction digits seconds us) n h in
    let q = both (nat_lt seconds (2 ^ 32)) (is_fraction digits us) p.0 in
    subst (λ (m : ℕ). ReadsTimestamp2 digits seconds us m) p.1 (record { seconds_are = before_back digits seconds us q.1; microseconds_are = us_back digits seconds us q.1 })

bits_back : (y m d h mi s x : ℕ) → m < 13 → d < 32 → h < 32 → mi < 64 → s < 64 → x ≡ (13 * y + m) * 2 ^ 22 + d * 2 ^ 17 + (h * 2 ^ 12 + mi * 2 ^ 6 + s)
    → (x / 2 ^ 22 / 13 ≡ y) × (x / 2 ^ 22 % 13 ≡ m) × (x / 2 ^ 17 % 32 ≡ d) × (x / 2 ^ 12 % 32 ≡ h) × (x / 2 ^ 6 % 64 ≡ mi) × (x % 64 ≡ s)
bits_back y m d h mi s x month day hour minute second is =
    let ym : x / 2 ^ 22 ≡ 13 * y + m = omega arith in
    let days : x / 2 ^ 17 ≡ (13 * y + m) * 32 + d = omega arith in
    let hours : x / 2 ^ 12 ≡ ((13 * y + m) * 32 + d) * 32 + h = omega arith in
    let minutes : x / 2 ^ 6 ≡ (((13 * y + m) * 32 + d) * 32 + h) * 64 + mi = omega arith in
    (omega (arith, ym), omega (arith, ym), omega (arith, days), omega (arith, hours), omega (arith, minutes), omega arith)

pub datetime2_back : (digits n : ℕ) (date : NewDate) (time : NewTime) → datetime2_number digits (DateTime date time) ≡ Ok n → ReadsDateTime2 digits date time n
datetime2_back digits n date time h =
    let us : ℕ = time.microsecond in
    let bits : ℕ = datetime2_bits date time in
    let p = ok_if (is_datetime2_date date time.hour && is_clock digits time) (with_fraction digits bits us) n h in
    let q = both (is_datetime2_date date time.hour) (is_clock digits time) p.0 in
    let day = date_is date time.hour q.0 in
    let clock = clock_is digits time q.1 in
    let m : ℕ = with_fraction digits bits us in
    let before : before_fraction digits m ≡ bits = before_back digits bits us clock.2 in
    let x : ℕ = date_time_of digits m in
    let is : x ≡ (13 * date.year + date.month) * 2 ^ 22 + date.day * 2 ^ 17 + (time.hour * 2 ^ 12 + time.minute * 2 ^ 6 + time.second) = omega (arith, before) in
    let parts = bits_back date.year date.month date.day time.hour time.minute time.second x day.0 day.1 day.2 clock.0 clock.1 is in
    subst (λ (k : ℕ). ReadsDateTime2 digits date time k) p.1 (record {
      year = parts.0;
      month = parts.1;
      day = parts.2;
      hour = parts.3;
      minute = parts.4;
      second = parts.5;
      microsecond = us_back digits bits us clock.2;
    })

clock_back : (time : NewTime) → time.minute < 64 → time.second < 64 → ReadsClock time (clock_bits time)
clock_back time minute second = record { hour = omega arith; minute = omega arith; second = omega arith }

pub time2_back : (digits n : ℕ) (is_negative : Bool) (time : NewTime) → time2_number digits (Time is_negative time) ≡ Ok n → ReadsTime2 digits is_negative time n
time2_back digits n is_negative time h =
    let us : ℕ = time.microsecond in
    let bits : ℕ = clock_bits time in
    let p = time2_by digits is_negative time n (nat_lt time.hour 1024 && is_clock digits time) h in
    let q = both (nat_lt time.hour 1024) (is_clock digits time) p.0 in
    let clock = clock_is digits time q.1 in
    let f = fraction_is digits us clock.2 in
    let small = clock_small time (ltb-true time.hour 1024 q.0) clock.0 clock.1 in
    let back = distance_back digits is_negative (with_fraction digits bits us) n (fraction_small digits bits us (2 ^ 22) f.0 f.1 small) p.1 in
    let parts : ReadsClock time (before_fraction digits (with_fraction digits bits us)) = subst (λ (k : ℕ). ReadsClock time k) (sym (before_back digits bits us clock.2)) (clock_back time clock.0 clock.1) in
    record {
      sign = back.2;
      parts = subst (λ (k : ℕ). ReadsClock time (before_fraction digits k)) (sym back.0) parts;
      microsecond = ap (λ (k : ℕ). microseconds_of digits k) back.0 ∙ us_back digits bits us clock.2;
    }
