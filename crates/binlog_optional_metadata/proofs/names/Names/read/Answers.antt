use Rattle.std.proofs.Common.{arith}
use Rattle.binlog_variable_fields.specs.LenEncTexts.{lenenc_text}
use Rattle.binlog_variable_fields.specs.Repeated.{times_at}
use Rattle.binlog_optional_metadata.proofs.Sequences.{refused_here}
use Rattle.binlog_optional_metadata.proofs.names.Names.read.Goals as goal

pub returns-in-Err : goal.returns-in-Err
returns-in-Err c =
    refused_here lenenc_text.reads (times_at c.args.left lenenc_text.reads c.args.buf.now) c.args.left c.loop-index._index c.loop-index.buf c.in-Err.error (omega arith) c.in-Err.ensures c.loop-index.invariant
