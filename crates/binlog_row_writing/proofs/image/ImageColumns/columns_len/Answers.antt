use Rattle.std.proofs.Common.{rules, ◌-◌, ◌^◌, length, min}
use Rattle.binlog_columns.specs.TableColumns.{columns_of}
use Rattle.binlog_rows.specs.Images.{bitmap_of}
use Rattle.binlog_row_writing.specs.Walks.{first_walk}
use Rattle.binlog_row_writing.specs.WalkViews.{walk_of}
use Rattle.binlog_row_writing.specs.NewImages.{columns_bytes}
use Rattle.binlog_row_writing.specs.WalkLaws.{len_end}
use Rattle.binlog_row_writing.proofs.image.ImageColumns.columns_len.Goals as goal

pub returns : goal.returns
returns c =
    len_end (columns_of c.loop-column.column-iterator) (walk_of c.loop-column.walk) c.args.values.now
    (min (length (columns_bytes (columns_of c.args.self.now.columns) (first_walk (bitmap_of c.args.self.now.present)) c.args.values.now)) (2 ^ 64 - 1)) c.loop-column.len
    (search rules) c.loop-column.invariant.small c.loop-column.invariant.same
