use Rattle.std.proofs.Common.{◌≡◌, ◌-◌}
use Rattle.binlog_variable_fields.specs.LenEnc.{lenenc_at}
use Rattle.binlog_variable_fields.specs.Repeated.{times_at}
use Rattle.binlog_optional_metadata.proofs.Sequences.{rest_of}
use Rattle.binlog_optional_metadata.proofs.numbers.Numbers.read.Given as goal

abbrev pub invariant-loop-index : goal.invariant-loop-index
invariant-loop-index l = rest_of (times_at l.left lenenc_at l.fn.buf) ≡ rest_of (times_at (l.left - l._index) lenenc_at l.buf)
