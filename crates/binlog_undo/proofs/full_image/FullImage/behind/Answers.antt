use Rattle.std.proofs.Common.{rules}
use Rattle.binlog_columns.specs.TableColumns.{columns_of}
use Rattle.binlog_rows.specs.Images.{bitmap_of}
use Rattle.binlog_undo.proofs.FullImages.{image_behind}
use Rattle.binlog_undo.proofs.full_image.FullImage.behind.Goals as goal

pub returns : goal.returns
returns c =
    image_behind (columns_of c.args.self.now.columns) (bitmap_of c.args.self.now.present) (bitmap_of c.in-Ok.nulls) c.len.result c.args.bytes.now c.read_bitmap.new.buf _
    c.behind_columns.result c.len.ensures c.args.self.now.bit_each c.args.self.now.all_present c.in-Ok.ensures.bits c.behind_columns.ensures (search rules)
