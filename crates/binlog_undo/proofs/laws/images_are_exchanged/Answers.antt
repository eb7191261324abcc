use Rattle.binlog_undo.proofs.RowBytes.{rows_have_bytes}
use Rattle.binlog_undo.proofs.SameColumns.{are_undone}
use Rattle.binlog_undo.proofs.laws.images_are_exchanged.Goals as goal

pub returns : goal.returns
returns g c = record {
  bytes = λ shape index s rows h. rows_have_bytes shape index s rows h;
  undone = λ table shape s bytes rows h same. are_undone table shape bytes rows h.each same;
}
