-- A column of an image as contracts see it.
use Rattle.binlog_rows.specs.Images.{bitmap_of}
use Rattle.binlog_row_writing.specs.Walks.{WalkView}
use Rattle.binlog_row_writing.specs.declared.walk.Walk.{Walk}

abbrev pub walk_of : Walk → WalkView
walk_of walk = record { present = bitmap_of walk.present; index = walk.index; place = walk.place }
