-- What MariaDB stores in place of the text of a statement or of rows.
-- Source: MariaDB's function `binlog_buf_compress`.
use Rattle.std.specs.Prelude.{◌≡◌, ℕ, ◌+◌, ◌*◌, ◌/◌, ◌%◌, ◌<◌, ◌≤◌, List, [], ◌∷◌, length, take, drop}
use Rattle.inflate.specs.declared.error.Error.{Error}
use Rattle.inflate.specs.declared.error.Error.TheVariants as stream_errors
use Rattle.inflate.specs.Zlib.{IsZlibStream}
use Rattle.binlog_mariadb.specs.declared.compression_error.CompressionError.{CompressionError}
use Rattle.binlog_mariadb.specs.declared.compression_error.CompressionError.TheVariants as errors

-- The number that bytes make behind those that make `start`, the most significant first.
abbrev pub number_from : (start : ℕ) (bytes : List ℕ) → ℕ
number_from start [] = start
number_from start (byte ∷ bytes) = number_from (start * 256 + byte) bytes

-- The bytes begin with a byte whose three highest bits are 100, for zlib, and whose three lowest bits state how many bytes of
-- length follow, one to four; then the length of the text, and then the stream.
pub record Begins (stored : List ℕ) (size : ℕ) (stream : List ℕ) : Type 0 where
  pub head : ℕ
  pub rest : List ℕ
  pub parts : stored ≡ head ∷ rest
  pub method : head / 32 ≡ 4
  pub least : 1 ≤ head % 8
  pub most : head % 8 ≤ 4
  pub there : head % 8 ≤ length rest
  pub size_is : size ≡ number_from 0 (take (head % 8) rest)
  pub stream_is : stream ≡ drop (head % 8) rest

-- The stream encodes this text, which has this length.
pub record IsTextOf (stream : List ℕ) (size : ℕ) (text : List ℕ) : Type 0 where
  pub encoded : IsZlibStream stream text
  pub long : length text ≡ size

-- The bytes are stored for this text.
pub record IsCompressed (stored text : List ℕ) : Type 0 where
  pub size : ℕ
  pub stream : List ℕ
  pub begins : Begins stored size stream
  pub text_is : IsTextOf stream size text

-- A refusal of the head: there is none.
abbrev pub HasNoHead : CompressionError → List ℕ → Type 0
HasNoHead errors.Truncated stored = (size : ℕ) (stream : List ℕ) → Begins stored size stream → ⊥
HasNoHead errors.Head stored = (size : ℕ) (stream : List ℕ) → Begins stored size stream → ⊥
HasNoHead _ stored = ⊥

-- A refusal of a text: there is none. `Memory` says nothing.
abbrev pub DeniesText : CompressionError → (List ℕ → Type 0) → Type 0
DeniesText errors.Memory IsText = Unit {0}
DeniesText errors.TooLong IsText = ⊥
DeniesText _ IsText = (text : List ℕ) → IsText text → ⊥

-- A refusal of what is stored: there is no such text, and at `TooLong` none within the limit. `Memory` says nothing.
abbrev pub Denies : ℕ → CompressionError → List ℕ → Type 0
Denies limit errors.Memory stored = Unit {0}
Denies limit errors.TooLong stored = (text : List ℕ) → IsCompressed stored text → limit < length text
Denies limit _ stored = (text : List ℕ) → IsCompressed stored text → ⊥

-- Why a stream has no text of the stated length, where it is refused with this error at that limit.
abbrev pub refusal : Error → CompressionError
refusal stream_errors.Memory = errors.Memory
refusal stream_errors.TooLong = errors.Length
refusal error = errors.Stream error
