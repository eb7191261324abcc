use Rattle.binlog_wire.specs.Formats.{canonical_in}
use Rattle.binlog_images.specs.Cells.{image, row, partial_row}
use Rattle.binlog_images.proofs.laws.rows_are_canonical.Goals as goal

pub returns : goal.returns
returns c = record {
  image = λ shape v. canonical_in (image shape) v;
  row = λ shape v. canonical_in (row shape) v;
  partial_row = λ shape v. canonical_in (partial_row shape) v;
  read_image = λ shape s r v spelled. (image shape).settled s v r spelled;
  read_row = λ shape s r v spelled. (row shape).settled s v r spelled;
  read_partial_row = λ shape s r v spelled. (partial_row shape).settled s v r spelled;
}
