-- Bits of columns as contracts see them.
use Rattle.std.specs.Prelude.{ℕ, List, Result, Ok, Err}
use Rattle.binlog_wire.specs.declared.error.Error.{Error}
use Rattle.binlog_optional_metadata.specs.declared.metadata_bits.MetadataBits.{MetadataBits}

-- An answer, with the bytes of its bits.
abbrev pub answer_bits : Result MetadataBits Error → Result (List ℕ) Error
answer_bits (Ok view) = Ok view.bytes.now
answer_bits (Err e) = Err e
