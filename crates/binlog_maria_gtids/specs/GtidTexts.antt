-- The text of a list of MariaDB's GTIDs as a grammar: each part is a part of the whole text, wherever it is.
-- Source: "Global Transaction ID" in MariaDB's documentation, and the lists that its server prints.
use Rattle.std.specs.Prelude.{◌≡◌, ℕ, ◌^◌, ◌<◌, true, List, [], ◌∷◌, ◌++◌, length}
use Rattle.std.specs.Char.{is_ascii_digit}
use Rattle.std.specs.List.{list_all}
use Rattle.std.specs.Str.Parse.{digits_value}
use Rattle.binlog_mariadb.specs.declared.maria_gtid.MariaGtid.{MariaGtid}

-- Decimal digits of a number of at most this many bits.
pub record AreDigitsOf (bits : ℕ) (digits : List ℕ) (n : ℕ) : Type 0 where
  pub some : 0 < length digits
  pub all : list_all is_ascii_digit digits ≡ true
  pub value : digits_value 10 digits ≡ n
  pub fits : n < 2 ^ bits

-- The domain, the server id and the sequence number, with `-` between.
pub record IsGtidText (text : List ℕ) (gtid : MariaGtid) : Type 0 where
  pub domain : List ℕ
  pub server_id : List ℕ
  pub sequence : List ℕ
  pub whole : text ≡ domain ++ (45 ∷ (server_id ++ (45 ∷ sequence)))
  pub domain_is : AreDigitsOf 32 domain gtid.domain
  pub server_id_is : AreDigitsOf 32 server_id gtid.server_id
  pub sequence_is : AreDigitsOf 64 sequence gtid.sequence

-- The texts of one GTID or more, in order, with `,` between.
abbrev pub AreGtidTexts : (text : List ℕ) (gtids : List MariaGtid) → Type 0
AreGtidTexts text [] = ⊥
AreGtidTexts text (gtid ∷ []) = IsGtidText text gtid
AreGtidTexts text (gtid ∷ other ∷ gtids) =
    (first rest : List ℕ) × (text ≡ first ++ (44 ∷ rest)) × IsGtidText first gtid × AreGtidTexts rest (other ∷ gtids)
