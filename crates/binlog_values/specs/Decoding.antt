-- Values that are read by decoders.
use Rattle.std.specs.Prelude.{◌≡◌, ℕ, List, Result, Ok, Err}
use Rattle.binlog_columns.specs.Decoders.{layout_in}
use Rattle.binlog_columns.specs.declared.decoder.Decoder.{Decoder}
use Rattle.binlog_values.specs.Contents.{content_in}
use Rattle.binlog_values.specs.Faults.{refusal_of}
use Rattle.binlog_values.specs.Values.{content_of, meaning_of, decoded_meaning}
use Rattle.binlog_values.specs.declared.fault.ValueFault.{ValueFault}
use Rattle.binlog_values.specs.declared.value.Value.{Value}

-- A value is taken from the start of the bytes by its decoder, with the bytes after it left, or it is refused.
abbrev pub DecodesBy : Decoder → List ℕ → Result Value ValueFault → List ℕ → Type 0
DecodesBy decoder old (Ok value) new = ((content_in (layout_in decoder)).reads old ≡ Ok (content_of value, new)) × (meaning_of value ≡ decoded_meaning decoder)
DecodesBy decoder old (Err fault) new = (content_in (layout_in decoder)).reads old ≡ Err (refusal_of fault)
