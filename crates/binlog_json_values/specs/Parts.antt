-- What is written for a value: tokens, of which the text of some isn't fixed in all its digits.
use Rattle.std.specs.Prelude.{◌≡◌, ℕ, ◌/◌, ◌%◌, List, [], ◌∷◌, ◌++◌, map, Some, Result, OnOk, pos, unsigned_abs}
use Rattle.std.specs.Float.{Float, Format}
use Rattle.ryu.specs.Parse.{parse_float}
use Rattle.ryu.specs.Plain.{IsPlainNumber}
use Rattle.jiff_core.specs.Date.{epoch_day}
use Rattle.jiff_core.specs.declared.civil.date.Date.{Date}
use Rattle.json.specs.Token.{Token, number, string}
use Rattle.binary_json_lines.specs.Parts as documents
use Rattle.binlog_json_values.specs.Times.{date_text, clock_text, fraction_text}

pub data Part : Type 0 where
  -- This token.
  exactly : Token → Part
  -- A number that reads back as this float.
  reading_back : Format → Float → Part
  -- A date and a time in UTC: the seconds since 1970, the decimal digits of the fraction, and the microseconds.
  utc : ℕ → ℕ → ℕ → Part
  -- A part of the value of a document.
  in_document : documents.Part → Part

-- The date and the time of so many seconds since the start of 1970: the date has this day number in the calendar.
abbrev pub IsUtcText : ℕ → ℕ → ℕ → List ℕ → Type 0
IsUtcText seconds digits microseconds text =
    (date : Date) × (epoch_day date ≡ pos (seconds / 86400))
    × (text ≡ date_text (unsigned_abs date.year) date.month date.day ++ 32 ∷ [] ++ clock_text (seconds / 3600 % 24) (seconds / 60 % 60) (seconds % 60)
    ++ fraction_text digits microseconds)

-- The token is what the part says.
abbrev pub IsPart : Part → Token → Type 0
IsPart (exactly token) written = written ≡ token
IsPart (reading_back f x) written = (text : List ℕ) × (written ≡ number text) × IsPlainNumber text × (parse_float f text ≡ Some x)
IsPart (utc seconds digits microseconds) written = (text : List ℕ) × (written ≡ string text) × IsUtcText seconds digits microseconds text
IsPart (in_document part) written = documents.IsPart part written

-- The tokens are what the parts say, one by one.
abbrev pub AreParts : List Part → List Token → Type 0
AreParts [] [] = Unit {0}
AreParts [] (token ∷ tokens) = ⊥
AreParts (part ∷ parts) [] = ⊥
AreParts (part ∷ parts) (token ∷ tokens) = IsPart part token × AreParts parts tokens

-- Tokens that are what these parts say are appended.
pub record Shows (old new : List Token) (parts : List Part) : Type 0 where
  pub tokens : List Token
  pub are : AreParts parts tokens
  pub is : new ≡ old ++ tokens

-- The same, unless an allocation fails.
abbrev pub Writes : {A E : Type 0} → Result A E → List Token → List Token → List Part → Type 0
Writes result old new parts = OnOk result (Shows old new parts)

-- These tokens.
abbrev pub exact : List Token → List Part
exact tokens = map exactly tokens
