-- What is noted of items and their parts.
use Rattle.std.specs.Prelude.{◌≡◌, ℕ, ◌+◌, Option, Some, None, Result, Ok, Err}
use Rattle.binlog_wire.specs.declared.error.Error.{Error}
use Rattle.binlog_events.specs.Events.{EventView}
use Rattle.binlog_file.specs.TableMapsInForce.{TableMaps}
use Rattle.binlog_visits.specs.Visits.{VisitRelation, RefusalRelation}
use Rattle.binlog_payload_visits.specs.Parts.{Part}
use Rattle.binlog_payload_visits.specs.PartVisits.{PartVisitRelation, PartRefusalRelation}
use Rattle.binlog_payload_visits.specs.Damaged.{saturated}
use Rattle.binlog_payload_visits.specs.declared.noted.Noted.{Noted}
use Rattle.binlog_payload_visits.specs.declared.part_error.PartError.{PartError}

-- A visit that is never refused.
abbrev pub IsNever : Type 0
IsNever = ⊥

-- The first error behind a part, where `found` is that of the parts before it.
abbrev pub error_behind : (number : ℕ) → Part → (found : Option PartError) → Option PartError
error_behind number (Ok event) found = found
error_behind number (Err e) (Some found) = Some found
error_behind number (Err e) None = Some (record { part = number; error = e })

-- The number of damaged events behind a part. An event counts with its first error.
abbrev pub count_behind : Part → (found : Option PartError) → ℕ → ℕ
count_behind (Ok event) found damaged = damaged
count_behind (Err e) (Some found) damaged = damaged
count_behind (Err e) None damaged = saturated (damaged + 1)

module _ {T : Type 0} where
  -- The item is shown to the other visitor.
  pub record NotesItem (visits : VisitRelation T) (old : Noted T) (maps : TableMaps) (index : ℕ) (item : Result EventView Error) (new : Noted T) : Type 0 where
    pub does : visits old.visitor maps index item new.visitor
    pub none : new.first_error ≡ None
    pub same : new.damaged ≡ old.damaged

  -- The other visitor refuses it.
  pub record RefusesNoted (refuses : RefusalRelation T) (old : Noted T) (maps : TableMaps) (index : ℕ) (item : Result EventView Error) (error : Error) (new : Noted T) : Type 0 where
    pub refused : refuses old.visitor maps index item error new.visitor
    pub same : new.damaged ≡ old.damaged

  -- The part is shown to the other visitor, and noted if it is an error.
  pub record NotesPart (visits_part : PartVisitRelation T) (old : Noted T) (maps : TableMaps) (index number : ℕ) (part : Part) (new : Noted T) : Type 0 where
    pub does : visits_part old.visitor maps index number part new.visitor
    pub found : new.first_error ≡ error_behind number part old.first_error
    pub damaged : new.damaged ≡ count_behind part old.first_error old.damaged

  -- The other visitor refuses it, and nothing is noted.
  pub record RefusesNotedPart (refuses_part : PartRefusalRelation T) (old : Noted T) (maps : TableMaps) (index number : ℕ) (part : Part) (error : Error) (new : Noted T) : Type 0 where
    pub refused : refuses_part old.visitor maps index number part error new.visitor
    pub found : new.first_error ≡ old.first_error
    pub same : new.damaged ≡ old.damaged
