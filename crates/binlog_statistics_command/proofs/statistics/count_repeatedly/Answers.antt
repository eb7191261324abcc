use Rattle.std.proofs.Common.{refl}
use Rattle.binlog_change_lines.specs.InsideVisits.{visitor_of}
use Rattle.binlog_statistics_command.proofs.RepeatedTables.{all_tables}
use Rattle.binlog_statistics_command.proofs.statistics.count_repeatedly.Goals as goal

pub returns-clause-ok : goal.returns-clause-ok
returns-clause-ok g c = record {
  filter = c.in_ok-read.ensures.ok.0;
  states = c.in_ok-read.ensures.ok.1;
  start = c.in_ok-start.start;
  from = c.in_ok-start.ensures.ok;
  read = c.in_ok-read.read;
  counted = c.in_ok-read.spliced;
  shown = c.in_ok-read.ensures.ok.2;
  output = c.in_ok-output.output;
  begins = record { has = c.in_ok-output.ensures.bytes; fine = c.in_ok-output.ensures.fine };
  outcome = c.into_parts-output.result.0;
  behind = c.into_parts-output.result.1;
  written = rw (c.into_parts-output.ensures.outcome, c.into_parts-output.ensures.output)
      (all_tables _ (λ shown. visitor_of shown) (λ f. f.options) (λ f. f.outcome) _ g.T.Statistics.writes (λ old shown new after is. is)
      c.args.options c.new-repeated.result c.read_followed.new.follower _ (visitor_of c.in_ok-read.spliced) c.write.new.self.outcome _
      c.new-repeated.ensures.options c.new-repeated.ensures.outcome (rw c.new-repeated.ensures.output refl) c.read_followed.ensures.rested c.write.ensures.table);
  ends = rw c.worse.ensures at c.finish.ensures;
}
