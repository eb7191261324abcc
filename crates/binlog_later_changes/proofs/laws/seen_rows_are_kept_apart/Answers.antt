use Rattle.binlog_later_changes.proofs.SeenRows.{log_follows}
use Rattle.binlog_later_changes.proofs.laws.seen_rows_are_kept_apart.Goals as goal

pub returns : goal.returns
returns c = λ rules log unread undone bytes before behind others looks sees checks h free. log_follows rules log unread checks undone bytes before behind others looks sees h free
