use Rattle.binlog_columns.specs.TableColumns.{columns_of}
use Rattle.binlog_undo.specs.UndoneEvents.{undone_of}
use Rattle.binlog_undo.proofs.InverseEvents.{inverse_found}
use Rattle.binlog_undo.proofs.inverse_event.check_event.Goals as goal

pub returns-then-can_exchange : goal.returns-then-can_exchange
returns-then-can_exchange c =
    let can = c.can_exchange.ensures c.if-can_exchange.true in
    inverse_found c.args.key.now (columns_of c.args.columns) c.args.event.now c.inverse_type-event_type.result can.undone can.undoes c.inverse_type-event_type.ensures

pub returns : goal.returns
returns c =
    inverse_found c.args.key.now (columns_of c.args.columns) c.args.event.now c.inverse_type-event_type.result (undone_of c.in_ok-undo_rows.field-0) c.in_ok-undo_rows.ensures
    c.inverse_type-event_type.ensures
