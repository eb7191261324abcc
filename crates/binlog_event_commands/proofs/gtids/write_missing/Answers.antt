use Rattle.binlog_event_commands.proofs.gtids.write_missing.Goals as goal

pub returns : goal.returns
returns g c = record {
  filter = c.new-all.result;
  takes_all = c.new-all.ensures;
  start = c.new-collector.result;
  empty = c.new-collector.ensures.gtids;
  none = c.new-collector.ensures.refused;
  read = c.read_taken-found.result.0;
  found = c.read_taken-found.result.1;
  shown = rw c.to_end.ensures at c.read_taken-found.ensures.shown;
  writes = rw (c.is_unread.ensures, c.status_read-status.ensures) at c.write_unless.ensures;
}
