use Rattle.std.proofs.Common.{ap, refl}
use Rattle.binlog_payload_filters.specs.declared.filtered.PayloadFiltered.{PayloadFiltered}
use Rattle.binlog_inputs.proofs.FollowedFiles.{shows_followed}
use Rattle.binlog_event_commands.proofs.changes.show_file.Goals as goal

pub returns-then-goes_on : goal.returns-then-goes_on
returns-then-goes_on g c =
    shows_followed g.T.Visitor.visits g.T.Visitor.refuses g.T.Refusing.refusals c.args.reading.is_verified c.args.reading.is_followed (g.S.Inputs.bytes c.args.inputs.now c.args.name.now)
    c.args.visitor c.follow-read.result.0 c.follow-read.result.1.filtered.visitor c.new-all.result c.follow-read.result.1 ((c.if-goes_on.ensures.0 refl).0) (rw c.new-all.ensures.filter c.new-every.ensures) c.new-all.ensures.visitor refl

pub returns : goal.returns
returns g c = record {
  start = c.new-all.result;
  all = rw c.new-all.ensures.filter c.new-every.ensures;
  shown = c.new-all.ensures.visitor;
  behind = c.read_file-read.new.visitor;
  reads = rw c.new-reported.ensures at c.read_file-read.ensures.reads;
  ends = ap (λ (filtered : PayloadFiltered g.row.T.Denot). filtered.filtered.visitor) c.into_visitor.ensures;
}
