-- The text of a set of GTIDs as a grammar: each part is a part of the whole text, wherever it is.
use Rattle.std.specs.Prelude.{◌≡◌, ℕ, ◌+◌, ◌^◌, ◌<◌, ◌⊎◌, true, List, [], ◌∷◌, ◌++◌, length, Option, Some, None}
use Rattle.std.specs.List.{AllByRecursion}
use Rattle.std.specs.Str.{all_ascii_digits}
use Rattle.std.specs.Str.Parse.{digits_value}
use Rattle.uuid.specs.Text.{parsed_hyphenated}
use Rattle.binlog_variable_fields.specs.Tags.{is_tag}
use Rattle.binlog_variable_fields.specs.declared.gno_interval.GnoInterval.{GnoInterval}
use Rattle.binlog_gtid_text.specs.declared.piece.Piece.{Piece}
use Rattle.binlog_gtid_text.specs.declared.piece.Piece.TheVariants as pieces
use Rattle.binlog_gtid_text.specs.Reading.{is_space}

abbrev pub AreSpaces : List ℕ → Type 0
AreSpaces = AllByRecursion (λ b. is_space b ≡ true)

-- The byte, and whitespace.
abbrev pub IsSeparator : ℕ → List ℕ → Type 0
IsSeparator b text = (w : List ℕ) × AreSpaces w × (text ≡ b ∷ w)

-- 32 hexadecimal digits, in either case, with hyphens after the first 8, 12, 16 and 20; and whitespace.
abbrev pub IsUuidText : List ℕ → List ℕ → Type 0
IsUuidText text sid = (uuid w : List ℕ) × (parsed_hyphenated uuid ≡ Some sid) × AreSpaces w × (text ≡ uuid ++ w)

-- Decimal digits of a number below 2^63.
pub record AreDigitsOf (digits : List ℕ) (n : ℕ) : Type 0 where
  pub some : 0 < length digits
  pub all : all_ascii_digits digits ≡ true
  pub value : digits_value 10 digits ≡ n
  pub small : n < 2 ^ 63

-- Digits and whitespace.
abbrev pub IsNumberText : List ℕ → ℕ → Type 0
IsNumberText text n = (digits w : List ℕ) × AreDigitsOf digits n × AreSpaces w × (text ≡ digits ++ w)

-- One number from 1 on, which is the only one.
abbrev pub IsOneNumber : List ℕ → GnoInterval → Type 0
IsOneNumber text i = IsNumberText text i.start × (0 < i.start) × (i.end ≡ i.start + 1)

-- The first number, from 1 on, a `-` and the last number.
abbrev pub AreTwoNumbers : List ℕ → GnoInterval → Type 0
AreTwoNumbers text i = (first dash other : List ℕ) × (last : ℕ) × IsNumberText first i.start × (0 < i.start) × IsSeparator 45 dash × IsNumberText other last × (i.end ≡ last + 1) × (text ≡ first ++ (dash ++ other))

abbrev pub IsIntervalText : List ℕ → GnoInterval → Type 0
IsIntervalText text i = IsOneNumber text i ⊎ AreTwoNumbers text i

-- Nothing; or a tag, whitespace and a `:`.
abbrev pub IsTagText : List ℕ → Option (List ℕ) → Type 0
IsTagText text None = text ≡ []
IsTagText text (Some tag) = (w colon : List ℕ) × (is_tag tag ≡ true) × AreSpaces w × IsSeparator 58 colon × (text ≡ tag ++ (w ++ colon))

-- A `,` and a UUID; or a `:`, a tag or none, and an interval.
abbrev pub IsPieceText : List ℕ → Piece → Type 0
IsPieceText text (pieces.Source sid) = (comma uuid : List ℕ) × IsSeparator 44 comma × IsUuidText uuid sid × (text ≡ comma ++ uuid)
IsPieceText text (pieces.Numbers tag i) = (colon name numbers : List ℕ) × IsSeparator 58 colon × IsTagText name tag × IsIntervalText numbers i × (text ≡ colon ++ (name ++ numbers))

abbrev pub ArePieceTexts : List ℕ → List Piece → Type 0
ArePieceTexts text [] = text ≡ []
ArePieceTexts text (p ∷ ps) = (first rest : List ℕ) × IsPieceText first p × ArePieceTexts rest ps × (text ≡ first ++ rest)

-- Whitespace; or whitespace, a UUID, and pieces.
abbrev pub IsSpelled : List ℕ → List Piece → Type 0
IsSpelled text [] = AreSpaces text
IsSpelled text (pieces.Source sid ∷ ps) = (w uuid rest : List ℕ) × AreSpaces w × IsUuidText uuid sid × ArePieceTexts rest ps × (text ≡ w ++ (uuid ++ rest))
IsSpelled text (pieces.Numbers tag i ∷ ps) = ⊥
