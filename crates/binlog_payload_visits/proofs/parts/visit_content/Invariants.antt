use Rattle.std.proofs.Common.{Bool, true, Ok}
use Rattle.binlog_event_format.specs.DescriptionRefs.{description_of}
use Rattle.binlog_visits.specs.KnownCounts.{CountsKnown}
use Rattle.binlog_payload_visits.specs.PartMaps.{maps_of}
use Rattle.binlog_payload_visits.proofs.VisitedParts.{IsVisited}
use Rattle.binlog_payload_visits.proofs.parts.visit_content.Given as goal

abbrev pub invariant-parts : goal.invariant-parts
invariant-parts g l = record {
  visited : IsVisited g.T.PartVisitor.visits_part (description_of l.fn.fde) l.fn.content l.fn.index l.reader (maps_of l.maps) l.fn.visitor l.visitor l.number;
  writer : CountsKnown {A = Bool} (Ok true) (g.T.Visitor.count l.fn.visitor) (g.T.Visitor.count l.visitor);
}
