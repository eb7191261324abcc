-- How the text of a list of MariaDB's GTIDs is read: `domain-server_id-sequence`, with `,` between.
use Rattle.std.specs.Prelude.{◌≡◌, ℕ, ◌+◌, ◌^◌, ◌<◌, ◌==◌, Bool, ◌&&◌, nat_lt, List, [], length, take, map, slice_index_or, Result, Ok, Err, if◌then◌else◌}
use Rattle.std.specs.Char.{is_ascii_digit}
use Rattle.std.specs.List.{list_all, position_or_len, before_first, after_first, slice_split}
use Rattle.std.specs.Str.Parse.{digits_value}
use Rattle.binlog_mariadb.specs.declared.maria_gtid.MariaGtid.{MariaGtid}
use Rattle.binlog_maria_gtids.specs.declared.gtid_text_error.MariaGtidFault.{MariaGtidFault}
use Rattle.binlog_maria_gtids.specs.declared.gtid_text_error.MariaGtidFault.TheVariants.{Hyphens, Number, Range}
use Rattle.binlog_maria_gtids.specs.declared.gtid_text_error.MariaGtidTextError.{MariaGtidTextError}
use Rattle.binlog_maria_gtids.specs.declared.gtid_text_error.MariaGtidTextError.TheVariants.{Invalid}

-- ---- numbers

-- The text has a decimal digit, and no other byte.
abbrev pub has_digits_alone : List ℕ → Bool
has_digits_alone text = nat_lt 0 (length text) && list_all is_ascii_digit text

-- The value of decimal digits, if it has at most this many bits.
abbrev pub value_in : (bits : ℕ) (digits : List ℕ) → Result ℕ MariaGtidFault
value_in bits digits = if nat_lt (digits_value 10 digits) (2 ^ bits) then Ok (digits_value 10 digits) else Err Range

-- The number of at most this many bits that the text is in decimal digits.
abbrev pub number_in : (bits : ℕ) (text : List ℕ) → Result ℕ MariaGtidFault
number_in bits text = if has_digits_alone text then value_in bits text else Err Number

-- ---- a GTID

abbrev pub is_hyphen : ℕ → Bool
is_hyphen b = b == 45

abbrev pub has_hyphen : List ℕ → Bool
has_hyphen text = nat_lt (position_or_len is_hyphen text) (length text)

-- The GTID of its numbers, or the first fault in them.
abbrev pub gtid_of : (domain server_id sequence : Result ℕ MariaGtidFault) → Result MariaGtid MariaGtidFault
gtid_of (Err fault) server_id sequence = Err fault
gtid_of (Ok domain) (Err fault) sequence = Err fault
gtid_of (Ok domain) (Ok server_id) (Err fault) = Err fault
gtid_of (Ok domain) (Ok server_id) (Ok sequence) = Ok (record { domain = domain; server_id = server_id; sequence = sequence })

-- The same of the text of the domain, and of what follows it: the server id before the first `-`, and the sequence number.
abbrev pub gtid_by : (domain rest : List ℕ) → Result MariaGtid MariaGtidFault
gtid_by domain rest =
    if has_hyphen rest then gtid_of (number_in 32 domain) (number_in 32 (before_first is_hyphen rest)) (number_in 64 (after_first is_hyphen rest)) else Err Hyphens

-- The GTID with this text, or what is wrong in it.
unfoldable pub gtid_in : (text : List ℕ) → Result MariaGtid MariaGtidFault
gtid_in text = if has_hyphen text then gtid_by (before_first is_hyphen text) (after_first is_hyphen text) else Err Hyphens

-- ---- lists

abbrev pub is_comma : ℕ → Bool
is_comma b = b == 44

-- The parts of a text between the commas.
abbrev pub parts_of : (text : List ℕ) → List (List ℕ)
parts_of text = slice_split is_comma text

-- Each part is the text of the GTID in its place.
abbrev pub AreRead : (parts : List (List ℕ)) (gtids : List MariaGtid) → Type 0
AreRead parts gtids = map gtid_in parts ≡ map Ok gtids

-- The part with this number, counted from 1, is the first that isn't the text of a GTID, and has this fault.
pub record IsFaultIn (parts : List (List ℕ)) (fault : MariaGtidFault) (number : ℕ) : Type 0 where
  pub index : ℕ
  pub within : index < length parts
  pub gtids : List MariaGtid
  pub before : AreRead (take index parts) gtids
  pub wrong : gtid_in (slice_index_or parts index []) ≡ Err fault
  pub counted : number ≡ index + 1

-- The error is that of the first part that isn't the text of a GTID.
abbrev pub IsInvalidIn : (parts : List (List ℕ)) → MariaGtidTextError → Type 0
IsInvalidIn parts (Invalid fault number) = IsFaultIn parts fault number
IsInvalidIn parts error = ⊥

abbrev pub IsInvalid : (text : List ℕ) → MariaGtidTextError → Type 0
IsInvalid text = IsInvalidIn (parts_of text)
