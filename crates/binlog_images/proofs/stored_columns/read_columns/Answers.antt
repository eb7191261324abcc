use Rattle.binlog_columns.specs.Columns.{typed_of}
use Rattle.binlog_columns.specs.TableColumns.{columns_of}
use Rattle.binlog_values.specs.Faults.{refusal_of}
use Rattle.binlog_images.specs.BitsOf.{bits_of}
use Rattle.binlog_images.proofs.Stored.{refused_here}
use Rattle.binlog_images.proofs.stored_columns.read_columns.Goals as goal

pub returns-in-Err : goal.returns-in-Err
returns-in-Err c =
    refused_here (columns_of c.loop-column.column-iterator) (columns_of c.next.new.self) (typed_of c.in-Some.column) (bits_of c.loop-column.bits) c.loop-column.buf (refusal_of c.in-Err.field-0) _
    c.in-Some.ensures.steps c.in-Err.ensures c.loop-column.invariant.same
