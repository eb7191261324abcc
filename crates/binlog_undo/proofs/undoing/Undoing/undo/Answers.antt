use Rattle.binlog_images.specs.RowsLeft.{row_shape}
use Rattle.binlog_undo.proofs.Loop.{turn, failed}
use Rattle.binlog_undo.proofs.undoing.Undoing.undo.Goals as goal

pub rows-preserved : goal.rows-preserved
rows-preserved c =
    let next = turn c.args.self.now c.args.rows.row (row_shape c.args.rows) c.args.rows.rest.now c.rows.left c.next_stored.new.self c.in-Some.row c.in-Ok.row
    c.rows.bytes.made c.prepend.new.bytes.made c.requires c.rows.invariant.shape c.rows.invariant.so_far c.in-Some.ensures c.in-Ok.is c.in_default-prepend.ensures in
    record { shape = next.0; so_far = next.1 }

pub returns-in-Err-prepend : goal.returns-in-Err-prepend
returns-in-Err-prepend c =
    failed c.args.self.now c.args.rows.row (row_shape c.args.rows) c.args.rows.rest.now c.rows.left c.next_stored.new.self c.in-Some.row c.in-Ok.row
    c.rows.bytes.made c.prepend.new.bytes.made c.requires c.rows.invariant.shape c.rows.invariant.so_far c.in-Some.ensures c.in-Ok.is
    c.args.rows c.in-Err-prepend.error c.in-Err-prepend.ensures
