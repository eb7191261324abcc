-- What a visitor of items and of their parts makes of an item, behind the filter of the parts.
use Rattle.std.specs.Prelude.{◌≡◌}
use Rattle.binlog_visits.specs.Visits.{VisitRelation, RefusalRelation}
use Rattle.binlog_payload_visits.specs.PartVisits.{PartVisitRelation, PartRefusalRelation, VisitsSpliced, RefusesSpliced}
use Rattle.binlog_payload_visits.specs.declared.spliced.Spliced.{Spliced}
use Rattle.binlog_payload_visits.specs.Noting.{NotesItem, NotesPart, RefusesNoted, RefusesNotedPart}
use Rattle.binlog_payload_visits.specs.declared.noted.Noted.{Noted}
use Rattle.binlog_payload_filters.specs.PartFiltering.{ShowsTaken, RefusesTaken}
use Rattle.binlog_payload_filters.specs.declared.taken_parts.TakenParts.{TakenParts}

-- What shows a visitor the items, and of their parts those of the tables that are asked for, and counts the items of which a part is an error.
abbrev pub Inside : Type 0 → Type 0
Inside T = Spliced (Noted (TakenParts T))

abbrev pub visitor_of : {T : Type 0} → Inside T → T
visitor_of inside = inside.visitor.visitor.visitor

-- `visits` and `visits_part` say what a visit of an item and of a part makes of the visitor.
module _ {T : Type 0} (visits : VisitRelation T) (visits_part : PartVisitRelation T) where
  -- An item is shown whatever tables are asked for.
  abbrev pub VisitsOutside : VisitRelation (TakenParts T)
  VisitsOutside old maps index item new = visits old.visitor maps index item new.visitor × (new.tables ≡ old.tables)

  -- The item is shown, and of its parts those that are taken; and it is counted if a part is an error.
  abbrev pub VisitsInside : VisitRelation (Inside T)
  VisitsInside old maps index item new =
      VisitsSpliced (NotesItem VisitsOutside) (NotesPart (ShowsTaken visits_part)) old.limit old.visitor maps index item new.visitor × (new.limit ≡ old.limit)

  -- `refuses` and `refuses_part` say when such a visit is refused.
  module _ (refuses : RefusalRelation T) (refuses_part : PartRefusalRelation T) where
    abbrev pub RefusesOutside : RefusalRelation (TakenParts T)
    RefusesOutside old maps index item error new = refuses old.visitor maps index item error new.visitor × (new.tables ≡ old.tables)

    abbrev pub RefusesInside : RefusalRelation (Inside T)
    RefusesInside old maps index item error new =
        RefusesSpliced (NotesItem VisitsOutside) (NotesPart (ShowsTaken visits_part)) (RefusesNoted RefusesOutside) (RefusesNotedPart (RefusesTaken refuses_part))
        old.limit old.visitor maps index item error new.visitor
        × (new.limit ≡ old.limit)
