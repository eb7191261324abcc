-- What is stored for values, as contracts see it.
use Rattle.std.specs.Prelude.{ℕ, List, Result, Ok, Err}
use Rattle.std.specs.Borrow.{Bor}
use Rattle.binlog_values.specs.Contents.{Content, of_number, of_bytes}
use Rattle.binlog_row_writing.specs.NewContents.{Contained, Spelled}
use Rattle.binlog_row_writing.specs.declared.content.Stored.{Stored}
use Rattle.binlog_row_writing.specs.declared.content.Stored.TheVariants as stored
use Rattle.binlog_row_writing.specs.declared.new_decimal.NewDecimal.{NewDecimal}
use Rattle.binlog_row_writing.specs.declared.row_write_error.RowWriteErrorKind.{RowWriteErrorKind}

abbrev pub stored_content : Stored → Content
stored_content (stored.Number n) = of_number n
stored_content (stored.Bytes s) = of_bytes s.now

-- An answer, with the content of what is stored.
abbrev pub answer_stored : Result Stored RowWriteErrorKind → Contained
answer_stored (Ok s) = Ok (stored_content s)
answer_stored (Err e) = Err e

-- An answer, with its bytes.
abbrev pub answer_bytes : Result (Bor (List ℕ)) RowWriteErrorKind → Spelled
answer_bytes (Ok s) = Ok s.now
answer_bytes (Err e) = Err e

-- An answer, with its decimal number.
abbrev pub answer_decimal : Result (Bor NewDecimal) RowWriteErrorKind → Result NewDecimal RowWriteErrorKind
answer_decimal (Ok d) = Ok d.now
answer_decimal (Err e) = Err e
