-- Numbers as contracts see them.
use Rattle.std.specs.Prelude.{ℕ, List, Result, Ok, Err}
use Rattle.binlog_wire.specs.declared.error.Error.{Error}
use Rattle.binlog_variable_fields.specs.LenEnc.{lenenc_at}
use Rattle.binlog_variable_fields.specs.Repeated.{times_at}
use Rattle.binlog_optional_metadata.specs.Sequences.{values}
use Rattle.binlog_optional_metadata.specs.declared.numbers.Numbers.{Numbers}

-- The numbers that are left.
abbrev pub numbers_of : Numbers → List ℕ
numbers_of numbers = values (times_at numbers.left lenenc_at numbers.rest.now)

-- An answer, with its numbers.
abbrev pub answer_numbers : Result Numbers Error → Result (List ℕ) Error
answer_numbers (Ok numbers) = Ok (numbers_of numbers)
answer_numbers (Err e) = Err e
