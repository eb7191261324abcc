use Rattle.binlog_undo_items.proofs.TableNames.{no_first, no_second}
use Rattle.binlog_undo_items.proofs.tables.split_table.Goals as goal

pub returns-in-None : goal.returns-in-None
returns-in-None c = no_first c.args.text.now c.in-None.ensures

pub returns-in-None-split_name : goal.returns-in-None-split_name
returns-in-None-split_name c = no_second c.args.text.now c.in-Some.database.now c.in-Some.behind.now c.in-Some.ensures c.in-None-split_name.ensures
