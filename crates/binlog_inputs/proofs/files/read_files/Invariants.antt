use Rattle.std.proofs.Common.{drop}
use Rattle.binlog_payload_filters.specs.declared.filtered.PayloadFiltered.{PayloadFiltered}
use Rattle.binlog_cli.specs.declared.exit_status.Outcome.{Outcome}
use Rattle.binlog_cli.specs.declared.exit_status.Status.TheVariants.{Fine}
use Rattle.binlog_inputs.specs.Reports.{ReportedView}
use Rattle.binlog_inputs.specs.Reading.{ReadsFrom}
use Rattle.binlog_inputs.proofs.files.read_files.Given as goal

-- Whatever is shown of the files that are left, with those so far it is what is shown of all.
abbrev pub invariant-loop-place : goal.invariant-loop-place
invariant-loop-place g l = (result : Outcome) (new : ReportedView (PayloadFiltered g.row.T.Denot))
    → ReadsFrom g.T.Visitor.visits g.T.Visitor.refuses g.T.Refusing.refusals l.reading.is_verified l.reading.is_followed (λ name. g.S.Inputs.bytes l.inputs name.now) l.asked l.place (drop l.place l.names) l.status l.visitor result new
    → ReadsFrom g.T.Visitor.visits g.T.Visitor.refuses g.T.Refusing.refusals l.reading.is_verified l.reading.is_followed (λ name. g.S.Inputs.bytes l.inputs name.now) l.asked 0 l.names Fine l.fn.visitor result new
