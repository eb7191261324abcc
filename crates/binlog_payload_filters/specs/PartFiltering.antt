-- A visitor that is shown the parts that a filter of tables takes.
use Rattle.std.specs.Prelude.{◌≡◌, ◌⊎◌, ℕ, Bool, true, false}
use Rattle.binlog_wire.specs.declared.error.Error.{Error}
use Rattle.binlog_wire.specs.declared.error.Error.TheVariants.{Memory}
use Rattle.binlog_file.specs.TableMapsInForce.{TableMaps}
use Rattle.binlog_payload_visits.specs.Parts.{Part}
use Rattle.binlog_payload_visits.specs.PartVisits.{PartVisitRelation, PartRefusalRelation}
use Rattle.binlog_payload_filters.specs.PartConcerns.{TakesPartIfAsked}
use Rattle.binlog_payload_filters.specs.declared.taken_parts.TakenParts.{TakenParts}

module _ {T : Type 0} where
  -- A visit of the visitor if the part is taken; else it is as it was.
  abbrev pub VisitsPartIf : PartVisitRelation T → Bool → PartVisitRelation T
  VisitsPartIf visits_part true old maps index number part new = visits_part old maps index number part new
  VisitsPartIf visits_part false old maps index number part new = new ≡ old

  -- The part is shown to the visitor, or passed over.
  pub record ShowsTaken (visits_part : PartVisitRelation T) (old : TakenParts T) (maps : TableMaps) (index number : ℕ) (part : Part) (new : TakenParts T) : Type 0 where
    pub taken : Bool
    pub takes : TakesPartIfAsked old.tables maps part taken
    pub does : VisitsPartIf visits_part taken old.visitor maps index number part new.visitor
    pub same : new.tables ≡ old.tables

  -- The visitor refused a part that is taken.
  pub record RefusesPart (refuses_part : PartRefusalRelation T) (old : TakenParts T) (maps : TableMaps) (index number : ℕ) (part : Part) (error : Error) (new : TakenParts T) : Type 0 where
    pub takes : TakesPartIfAsked old.tables maps part true
    pub refused : refuses_part old.visitor maps index number part error new.visitor
    pub same : new.tables ≡ old.tables

  -- Memory ran out, and nothing has changed; or the visitor refused the part.
  abbrev pub RefusesTaken : PartRefusalRelation T → PartRefusalRelation (TakenParts T)
  RefusesTaken refuses_part old maps index number part error new = ((error ≡ Memory) × (new ≡ old)) ⊎ RefusesPart refuses_part old maps index number part error new
