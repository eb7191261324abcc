use Rattle.std.proofs.Common.{inr}
use Rattle.binlog_event_format.specs.DescriptionRefs.{description_of}
use Rattle.binlog_payloads.specs.Contents.{content_of}
use Rattle.binlog_payloads.specs.Events.{payload_of}
use Rattle.binlog_payload_visits.proofs.VisitedParts.{unpacked_lacks, visits_content}
use Rattle.binlog_payload_visits.proofs.parts.visit_payload.Goals as goal

pub returns-then-is_memory-clause-visits : goal.returns-then-is_memory-clause-visits
returns-then-is_memory-clause-visits g c =
    inr (unpacked_lacks g.T.PartVisitor.visits_part g.T.PartVisitor.refuses_part (description_of c.args.fde) (content_of c.args.limit (payload_of c.args.payload.now)) c.args.index c.args.visitor.now)

pub returns-in-Ok-clause-visits : goal.returns-in-Ok-clause-visits
returns-in-Ok-clause-visits g c =
    visits_content g.T.PartVisitor.visits_part g.T.PartVisitor.refuses_part (description_of c.args.fde) (content_of c.args.limit (payload_of c.args.payload.now)) c.in-Ok.content.items c.args.index c.args.visitor.now
    c.visit_content.result c.visit_content.new.visitor c.in-Ok.ensures.found (rw c.deref.ensures.value at c.visit_content.ensures.visits)
