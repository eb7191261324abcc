use Rattle.binlog_undo_log.proofs.UndoneAgain.{is_accepted_again}
use Rattle.binlog_undo_log.proofs.laws.undoing_events_are_accepted.Goals as goal

pub returns : goal.returns
returns c = λ is_maria_log map key columns checks again event undoing answer u full gives. is_accepted_again key columns checks again event undoing u full is_maria_log map answer gives
