-- Texts of streams, and their refusals.
use Rattle.std.proofs.Common.{◌≡◌, ◌≢◌, ℕ, ◌<◌, ◌≤◌, List, length, sym, ap, ◌∙◌, arith}
use Rattle.inflate.specs.declared.error.Error.{Error}
use Rattle.inflate.specs.declared.error.Error.TheVariants as stream_errors
use Rattle.inflate.specs.Results as streams
use Rattle.inflate.specs.Zlib.{IsZlibStream}
use Rattle.binlog_mariadb.specs.declared.compression_error.CompressionError.{CompressionError}
use Rattle.binlog_mariadb.specs.declared.compression_error.CompressionError.TheVariants as errors
use Rattle.binlog_mariadb.specs.Compressed.{Begins, HasNoHead, IsTextOf, IsCompressed, Denies, DeniesText, refusal}

-- The stream's only text has another length.
pub other_length : (stream : List ℕ) (size : ℕ) (text : List ℕ) → ((other : List ℕ) → IsZlibStream stream other → other ≡ text) → length text ≢ size
    → (other : List ℕ) → IsTextOf stream size other → ⊥
other_length stream size text only long other is = long (ap length (sym (only other is.encoded)) ∙ is.long)

-- The stream's only text.
pub only_text : (stream : List ℕ) (size : ℕ) (text : List ℕ) → ((other : List ℕ) → IsZlibStream stream other → other ≡ text)
    → (other : List ℕ) → IsTextOf stream size other → other ≡ text
only_text stream size text only other is = only other is.encoded

-- A refused stream.
pub refused : (size : ℕ) (error : Error) (stream : List ℕ) → streams.Denies size error (IsZlibStream stream) → DeniesText (refusal error) (IsTextOf stream size)
refused size stream_errors.Memory stream denies = tt
refused size stream_errors.TooLong stream denies = λ text is. absurd (let more : size < length text = denies text is.encoded in omega (arith, more, is.long))
refused size _ stream denies = λ text is. denies text is.encoded

-- A refused head.
pub no_head : (limit : ℕ) (error : CompressionError) (stored : List ℕ) → HasNoHead error stored → Denies limit error stored
no_head limit errors.Truncated stored none = λ text is. none is.size is.stream is.begins
no_head limit errors.Head stored none = λ text is. none is.size is.stream is.begins
no_head limit _ stored none = absurd none
