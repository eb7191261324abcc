use Rattle.binlog_undo.specs.FullImages.{rows_shape}
use Rattle.binlog_undo.proofs.FullRows.{exchanged_found}
use Rattle.binlog_undo.proofs.full_rows.FullRows.exchange.Goals as goal

pub returns-in-Some : goal.returns-in-Some
returns-in-Some c =
    exchanged_found c.args.rows (rows_shape c.args.self.now) c.rest_data.result.now c.in_ok-found.found c.in-Some.bytes c.requires.shape c.rest_data.ensures c.in-Some.is c.in_ok-found.ensures
