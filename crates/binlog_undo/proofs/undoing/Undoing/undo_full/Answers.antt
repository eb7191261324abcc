use Rattle.binlog_images.specs.RowsLeft.{row_shape}
use Rattle.binlog_undo.proofs.Loop.{whole_if, exchanged_as}
use Rattle.binlog_undo.proofs.undoing.Undoing.undo_full.Goals as goal

pub exchange-requires-clause-whole : goal.exchange-requires-clause-whole
exchange-requires-clause-whole c = whole_if c.args.self.now (row_shape c.args.rows) c.in-Exchange.is c.requires.fits

pub returns-in-Exchange : goal.returns-in-Exchange
returns-in-Exchange c = exchanged_as c.args.self.now c.args.rows c.exchange.result c.in-Exchange.is c.exchange.ensures
