use Rattle.binlog_event_commands.proofs.gtids.gtids.Goals as goal

pub returns-clause-ok : goal.returns-clause-ok
returns-clause-ok g c = record {
  filter = c.in_ok-read.ensures.ok.0;
  states = c.in_ok-read.ensures.ok.1;
  start = c.new-collector.result;
  begins = record {
    has = rw (c.new-collector.ensures.output, c.new.ensures) c.in_ok-output.ensures.bytes;
    fine = rw (c.new-collector.ensures.output, c.new.ensures) c.in_ok-output.ensures.fine;
  };
  empty = c.new-collector.ensures.gtids;
  none = c.new-collector.ensures.refused;
  read = c.in_ok-read.read;
  found = c.in_ok-read.collector;
  shown = c.in_ok-read.ensures.ok.2;
  lines = c.write_wanted-lines.result;
  output = c.write_wanted-lines.new.output;
  listed = rw c.into_inner-output.ensures at c.write_wanted-lines.ensures;
  ends = rw c.worse.ensures at c.finish.ensures;
}
