-- Numbers with the indexes of their columns, as contracts see them.
use Rattle.std.specs.Prelude.{ℕ, List, Result, Ok, Err}
use Rattle.binlog_wire.specs.declared.error.Error.{Error}
use Rattle.binlog_variable_fields.specs.Repeated.{times_at}
use Rattle.binlog_optional_metadata.specs.Columns.{any_indexed}
use Rattle.binlog_optional_metadata.specs.Sequences.{values}
use Rattle.binlog_optional_metadata.specs.declared.indexed_numbers.IndexedNumbers.{IndexedNumbers}

-- The indexes and numbers that are left.
abbrev pub indexed_of : IndexedNumbers → List (ℕ × ℕ)
indexed_of numbers = values (times_at numbers.left any_indexed.reads numbers.rest.now)

-- An answer, with its indexes and numbers.
abbrev pub answer_indexed : Result IndexedNumbers Error → Result (List (ℕ × ℕ)) Error
answer_indexed (Ok numbers) = Ok (indexed_of numbers)
answer_indexed (Err e) = Err e
