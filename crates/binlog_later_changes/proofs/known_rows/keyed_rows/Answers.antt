use Rattle.std.proofs.Common.{refl}
use Rattle.std.proofs.lemmas.Result.{err_from_is_err_and}
use Rattle.binlog_columns.specs.TableColumns.{columns_of}
use Rattle.binlog_images.specs.Cells.{RowShape}
use Rattle.change_statistics.specs.Names.{name_of}
use Rattle.binlog_later_changes.specs.KeyedRows.{shape_if}
use Rattle.binlog_later_changes.proofs.KnownRows.{none_read, all_read, turn, failed, refused}
use Rattle.binlog_later_changes.proofs.known_rows.keyed_rows.Goals as goal

pub rows-init : goal.rows-init
rows-init c = record {
  shape = c.requires.shape;
  so_far = λ bytes. none_read (name_of c.args.name.now) (shape_if (columns_of c.args.columns) c.args.before, shape_if (columns_of c.args.columns) c.args.after) c.args.rows.row c.args.rows.rest.now _ _
      refl c.new-keyed.ensures.items bytes;
}

pub rows-preserved : goal.rows-preserved
rows-preserved c =
    let shape : RowShape = (shape_if (columns_of c.args.columns) c.args.before, shape_if (columns_of c.args.columns) c.args.after) in
    let next = turn (name_of c.args.name.now) shape c.args.rows.row c.args.rows.rest.now c.rows.left c.next_stored.new.self c.in-Some.row c.rows.keyed.items
    c.rows.invariant.shape c.rows.invariant.so_far c.in-Some.ensures c.in-Ok.row c.in_ok-keys.keys _ c.in-Ok.is c.in_ok-keys.ensures c.in_ok-push_row.ensures in
    record { shape = next.0; so_far = next.1 }

pub returns-in-Err : goal.returns-in-Err
returns-in-Err c =
    let shape : RowShape = (shape_if (columns_of c.args.columns) c.args.before, shape_if (columns_of c.args.columns) c.args.after) in
    λ bytes. refused (name_of c.args.name.now) shape c.args.rows.row c.args.rows.rest.now c.rows.left c.next_stored.new.self c.in-Some.row c.rows.keyed.items
    c.rows.invariant.shape c.rows.invariant.so_far c.in-Some.ensures _ c.in-Err.is bytes

pub returns-in_err-keys : goal.returns-in_err-keys
returns-in_err-keys c =
    let shape : RowShape = (shape_if (columns_of c.args.columns) c.args.before, shape_if (columns_of c.args.columns) c.args.after) in
    let p = err_from_is_err_and c.from_residual.result c.from_residual.ensures.1 in
    rw (p.1, p.2) (λ bytes. failed (name_of c.args.name.now) shape c.args.rows.row c.args.rows.rest.now c.rows.left c.next_stored.new.self c.in-Some.row c.rows.keyed.items
    c.rows.invariant.shape c.rows.invariant.so_far c.in-Some.ensures c.in-Ok.row _ c.in-Ok.is c.in_err-keys.ensures bytes)

pub returns : goal.returns
returns c =
    let shape : RowShape = (shape_if (columns_of c.args.columns) c.args.before, shape_if (columns_of c.args.columns) c.args.after) in
    λ bytes. all_read (name_of c.args.name.now) shape c.args.rows.row c.args.rows.rest.now c.rows.left.row c.rows.left.rest.now c.rows.keyed.items (c.rows.invariant.so_far bytes) c.in_default.ensures.0
