use Rattle.std.proofs.Common.{ap}
use Rattle.binlog_payload_filters.specs.declared.filtered.PayloadFiltered.{PayloadFiltered}
use Rattle.binlog_inputs.proofs.taken.read_taken.Goals as goal

pub returns-clause-shown : goal.returns-clause-shown
returns-clause-shown g c = record {
  start = c.new-filtered.result;
  filtered = c.new-filtered.ensures.filter;
  limit = c.new-filtered.ensures.limit;
  shown = c.new-filtered.ensures.visitor;
  behind = c.read_all_files-behind.ensures.read.0;
  reads = rw c.new-reported.ensures at c.read_all_files-behind.ensures.read.1;
  ends = ap (λ (filtered : PayloadFiltered g.row.T.Denot). filtered.filtered.visitor) c.read_all_files-behind.ensures.read.2;
}
