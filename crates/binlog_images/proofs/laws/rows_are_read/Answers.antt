use Rattle.binlog_images.specs.Cells.{image, row, partial_image, partial_row}
use Rattle.binlog_images.proofs.Agreement.{image_agrees, row_agrees, partial_image_agrees, partial_row_agrees}
use Rattle.binlog_images.proofs.laws.rows_are_read.Goals as goal

pub returns : goal.returns
returns c = record {
  keeps_image = λ shape. (image shape).keeps;
  keeps_row = λ shape. (row shape).keeps;
  keeps_partial_image = λ shape. (partial_image shape).keeps;
  keeps_partial_row = λ shape. (partial_row shape).keeps;
  image = λ shape s. image_agrees shape s;
  row = λ index shape s. row_agrees index shape s;
  partial_image = λ shape s. partial_image_agrees shape s;
  partial_row = λ index shape s. partial_row_agrees index shape s;
}
