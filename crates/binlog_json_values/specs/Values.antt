-- Values as tokens, by what they mean.
use Rattle.std.specs.Prelude.{ℕ, ◌-◌, ◌/◌, ◌%◌, ◌^◌, ◌==◌, ◌&&◌, Bool, List, [], ◌∷◌, ◌++◌, length, replicate, codes, nat_le, nat_lt, if◌then◌else◌}
use Rattle.json.specs.Token.{Token, null, string}
use Rattle.json_line.specs.Tokens.{number_value, bytes_value}
use Rattle.binlog_values.specs.Contents.{Content, number_in, bytes_in, before_fraction, time2_zero, time2_distance}
use Rattle.binlog_values.specs.Decimals.{decimal_text}
use Rattle.binlog_values.specs.Texts.{sign_text}
use Rattle.binlog_values.specs.Times.{microseconds_of, date_time_of, time_distance, year_of}
use Rattle.binlog_values.specs.Values.{Meaning}
use Rattle.binlog_values.specs.Values as meanings
use Rattle.binlog_optional_metadata.specs.Facts.{Facts, is_binary}
use Rattle.binlog_json_values.specs.Parts.{Part, exactly, utc, exact}
use Rattle.binlog_json_values.specs.Numbers.{integer_value, single_parts, double_parts}
use Rattle.binlog_json_values.specs.Texts.{column_text}
use Rattle.binlog_json_values.specs.Members.{enum_value, set_value}
use Rattle.binlog_json_values.specs.Documents.{encoded_value, json_parts}
use Rattle.binlog_json_values.specs.Times.{date_text, clock_text, fraction_text}

-- A DATE.
abbrev pub date_of : ℕ → List ℕ
date_of n = date_text (n / 512) (n / 32 % 16) (n % 32)

-- A TIME, by its distance from zero: decimal digits of hours, minutes and seconds.
abbrev pub time_of : ℕ → List ℕ
time_of n =
    sign_text (nat_le (2 ^ 23) n)
    ++ clock_text (time_distance n / 10000) (time_distance n / 100 % 100) (time_distance n % 100)

-- A DATETIME: decimal digits of its parts.
abbrev pub datetime_of : ℕ → List ℕ
datetime_of n =
    date_text (n / 10000000000) (n / 100000000 % 100) (n / 1000000 % 100) ++ 32 ∷ []
    ++ clock_text (n / 10000 % 100) (n / 100 % 100) (n % 100)

-- A DATETIME2: bits of its parts.
abbrev pub datetime2_of : ℕ → ℕ → List ℕ
datetime2_of digits n =
    date_text (date_time_of digits n / 2 ^ 22 / 13) (date_time_of digits n / 2 ^ 22 % 13) (date_time_of digits n / 2 ^ 17 % 32) ++ 32 ∷ []
    ++ clock_text (date_time_of digits n / 2 ^ 12 % 32) (date_time_of digits n / 2 ^ 6 % 64) (date_time_of digits n % 64)
    ++ fraction_text digits (microseconds_of digits n)

-- The time of a TIME2 without its sign and fraction.
abbrev pub time2_parts : ℕ → ℕ → ℕ
time2_parts digits n = before_fraction digits (time2_distance digits n)

-- A TIME2: bits of its parts.
abbrev pub time2_of : ℕ → ℕ → List ℕ
time2_of digits n =
    sign_text (nat_lt n (time2_zero digits))
    ++ clock_text (time2_parts digits n / 2 ^ 12) (time2_parts digits n / 2 ^ 6 % 64) (time2_parts digits n % 64)
    ++ fraction_text digits (microseconds_of digits (time2_distance digits n))

-- The zero timestamp, with this many digits of a fraction.
abbrev pub zero_text : ℕ → List ℕ
zero_text digits = date_text 0 0 0 ++ 32 ∷ [] ++ clock_text 0 0 0 ++ fraction_text digits 0

abbrev pub is_zero : ℕ → ℕ → Bool
is_zero seconds microseconds = (seconds == 0) && (microseconds == 0)

-- A timestamp, in UTC; all zero is the zero timestamp. Its seconds have 32 bits.
abbrev pub timestamp_parts : ℕ → ℕ → ℕ → List Part
timestamp_parts digits seconds microseconds =
    if is_zero seconds microseconds then exactly (string (zero_text digits)) ∷ [] else utc (seconds % 2 ^ 32) digits microseconds ∷ []

-- Bytes that are padded with zeros to this length, unless they are longer.
abbrev pub padded : ℕ → List ℕ → List ℕ
padded len s = s ++ replicate (len - length s) 0

-- The bytes of a string: if the character set is `binary` the hexadecimal digits of all bytes, with the zeros at the end of a BINARY;
-- else a text in its character set.
abbrev pub string_value : Facts → List ℕ → List Token
string_value facts s =
    if is_binary facts.character_set then bytes_value (padded facts.padded_length s) else column_text facts.character_set s

-- Values whose text is fixed.
abbrev pub value_tokens : Facts → Meaning → Content → List Token
value_tokens facts meanings.null content = null ∷ []
value_tokens facts (meanings.integer size) content = integer_value facts.is_unsigned size (number_in content)
value_tokens facts meanings.float content = []
value_tokens facts meanings.double content = []
value_tokens facts (meanings.decimal precision scale) content = string (decimal_text precision scale (bytes_in content)) ∷ []
value_tokens facts meanings.date content = string (date_of (number_in content)) ∷ []
value_tokens facts meanings.year content = number_value (year_of (number_in content))
value_tokens facts meanings.timestamp content = []
value_tokens facts meanings.time content = string (time_of (number_in content)) ∷ []
value_tokens facts meanings.datetime content = string (datetime_of (number_in content)) ∷ []
value_tokens facts (meanings.timestamp2 digits) content = []
value_tokens facts (meanings.datetime2 digits) content = string (datetime2_of digits (number_in content)) ∷ []
value_tokens facts (meanings.time2 digits) content = string (time2_of digits (number_in content)) ∷ []
value_tokens facts (meanings.bit count) content = number_value (number_in content)
value_tokens facts meanings.enumeration content = enum_value facts.character_set facts.members (number_in content)
value_tokens facts meanings.members content = set_value facts.character_set facts.members (number_in content)
value_tokens facts meanings.string content = string_value facts (bytes_in content)
value_tokens facts meanings.json content = []
value_tokens facts meanings.geometry content = bytes_value (bytes_in content)
value_tokens facts meanings.vector content = bytes_value (bytes_in content)
value_tokens facts meanings.compressed content = encoded_value (codes "stored") (bytes_in content)

-- A value of this meaning and content.
abbrev pub value_parts : Facts → Meaning → Content → List Part
value_parts facts meanings.float content = single_parts (number_in content)
value_parts facts meanings.double content = double_parts (number_in content)
value_parts facts meanings.timestamp content = timestamp_parts 0 (number_in content) 0
value_parts facts (meanings.timestamp2 digits) content =
    timestamp_parts digits (before_fraction digits (number_in content)) (microseconds_of digits (number_in content))
value_parts facts meanings.json content = json_parts (bytes_in content)
value_parts facts meaning content = exact (value_tokens facts meaning content)
