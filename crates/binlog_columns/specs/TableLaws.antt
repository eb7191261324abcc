-- Laws of the columns of a table.
use Rattle.std.proofs.Common.{◌≡◌, ℕ, ◌+◌, List, ◌++◌, length, map, None, arith, length-append}
use Rattle.std.proofs.lemmas.List.{length-map}
use Rattle.binlog_columns.specs.Columns.{typed_of}
use Rattle.binlog_columns.specs.Refusals.{refusal, columns_in}
use Rattle.binlog_columns.specs.RefusalLaws.{columns_count}
use Rattle.binlog_columns.specs.declared.column.Column.{Column}

-- There are as many columns as were read before, and as there are types.
pub columns_are_counted : (known : List Column) (types m : List ℕ) → refusal 0 types m ≡ None → length (map typed_of known ++ columns_in types m) ≡ length known + length types
columns_are_counted known types m whole = omega (arith, length-append (map typed_of known) (columns_in types m), length-map known typed_of, columns_count 0 types m whole)
