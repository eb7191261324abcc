use Rattle.binlog_statistics_command.proofs.statistics.count_once.Goals as goal

pub returns-clause-ok : goal.returns-clause-ok
returns-clause-ok g c = record {
  filter = c.in_ok-read.ensures.ok.0;
  states = c.in_ok-read.ensures.ok.1;
  start = c.in_ok-start.start;
  from = c.in_ok-start.ensures.ok;
  read = c.in_ok-read.read;
  counted = c.in_ok-read.spliced;
  shown = c.in_ok-read.ensures.ok.2;
  output = c.in_ok-output.output;
  begins = record { has = c.in_ok-output.ensures.bytes; fine = c.in_ok-output.ensures.fine };
  outcome = c.write-written.result;
  behind = c.write-written.new.output;
  written = c.write-written.ensures.writes;
  ends = rw c.worse.ensures at c.finish.ensures;
}
