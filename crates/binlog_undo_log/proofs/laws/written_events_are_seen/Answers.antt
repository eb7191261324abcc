use Rattle.binlog_undo_log.proofs.SeenWritten.{seen_as_written}
use Rattle.binlog_undo_log.proofs.laws.written_events_are_seen.Goals as goal

pub returns : goal.returns
returns c = λ scan maps index d written event seen writable is h. seen_as_written scan maps index d written event seen writable is h
