use Rattle.binlog_images.specs.ImageCells.{cells_of}
use Rattle.binlog_json_values.proofs.RowTexts.{ShowsMembers, columns_left}
use Rattle.binlog_json_values.proofs.values.ValueWriter.write_image.Given as goal

-- The members so far, with those to come, are all of them.
abbrev pub invariant-loop-index : goal.invariant-loop-index
invariant-loop-index l = ShowsMembers l.columns (columns_left l.fn.before) (cells_of l.fn.image) l.index (columns_left l.left) (cells_of l.cells) l.fn.line l.line
