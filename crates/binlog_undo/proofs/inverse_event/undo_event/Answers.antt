use Rattle.binlog_columns.specs.TableColumns.{columns_of}
use Rattle.binlog_undo.specs.UndoneEvents.{undone_of}
use Rattle.binlog_undo.proofs.InverseEvents.{inverse_written}
use Rattle.binlog_undo.proofs.inverse_event.undo_event.Goals as goal

pub returns : goal.returns
returns c =
    inverse_written c.args.key.now (columns_of c.args.columns) c.args.checks c.args.event.now (undone_of c.in_ok-rows.rows) c.in_ok-into_event.field-0 c.in_ok-rows.ensures
    c.is_sound.ensures.form c.is_sound.ensures.range c.in_ok-into_event.ensures.event_type c.in_ok-into_event.ensures.body
