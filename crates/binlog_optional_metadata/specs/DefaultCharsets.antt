-- Default collations as contracts see them.
use Rattle.std.specs.Prelude.{ℕ, List, Result, Ok, Err}
use Rattle.binlog_wire.specs.declared.error.Error.{Error}
use Rattle.binlog_optional_metadata.specs.IndexedNumbers.{indexed_of}
use Rattle.binlog_optional_metadata.specs.declared.default_charset.DefaultCharset.{DefaultCharset}

-- The default collation, and the columns with others.
abbrev pub charsets_of : DefaultCharset → ℕ × List (ℕ × ℕ)
charsets_of charset = (charset.default_charset, indexed_of charset.non_default)

-- An answer, with its collations.
abbrev pub answer_charsets : Result DefaultCharset Error → Result (ℕ × List (ℕ × ℕ)) Error
answer_charsets (Ok charset) = Ok (charsets_of charset)
answer_charsets (Err e) = Err e
