-- Names as contracts see them.
use Rattle.std.specs.Prelude.{ℕ, List, Result, Ok, Err}
use Rattle.binlog_wire.specs.declared.error.Error.{Error}
use Rattle.binlog_variable_fields.specs.LenEncTexts.{lenenc_text}
use Rattle.binlog_variable_fields.specs.Repeated.{times_at}
use Rattle.binlog_optional_metadata.specs.Sequences.{values}
use Rattle.binlog_optional_metadata.specs.declared.names.Names.{Names}

-- The names that are left.
abbrev pub names_of : Names → List (List ℕ)
names_of names = values (times_at names.left lenenc_text.reads names.rest.now)

-- An answer, with its names.
abbrev pub answer_names : Result Names Error → Result (List (List ℕ)) Error
answer_names (Ok names) = Ok (names_of names)
answer_names (Err e) = Err e
