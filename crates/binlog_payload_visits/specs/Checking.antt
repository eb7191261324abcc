-- Checking the parts of items for a visitor that isn't shown them.
use Rattle.std.specs.Prelude.{◌≡◌, ◌⊎◌, ℕ, Option, Result}
use Rattle.binlog_wire.specs.declared.error.Error.{Error}
use Rattle.binlog_wire.specs.declared.error.Error.TheVariants.{Memory}
use Rattle.binlog_events.specs.Events.{EventView}
use Rattle.binlog_file.specs.TableMapsInForce.{TableMaps}
use Rattle.binlog_visits.specs.Visits.{VisitRelation, RefusalRelation}
use Rattle.binlog_payload_visits.specs.Damaged.{damaged_behind}
use Rattle.binlog_payload_visits.specs.Finding.{IsFirstError}
use Rattle.binlog_payload_visits.specs.declared.checked.Checked.{Checked}
use Rattle.binlog_payload_visits.specs.declared.part_error.PartError.{PartError}

module _ {T : Type 0} (visits : VisitRelation T) where
  -- The item is shown to the other visitor, and counted if a part of it is an error.
  pub record ChecksItem (old : Checked T) (maps : TableMaps) (index : ℕ) (item : Result EventView Error) (new : Checked T) : Type 0 where
    pub does : visits old.visitor maps index item new.visitor
    pub found : Option PartError
    pub first : IsFirstError old.limit item found
    pub damaged : new.damaged ≡ damaged_behind found old.damaged
    pub same : new.limit ≡ old.limit

  -- The item is shown to the other visitor, and memory ran out for its parts.
  pub record LacksMemory (old : Checked T) (maps : TableMaps) (index : ℕ) (item : Result EventView Error) (error : Error) (new : Checked T) : Type 0 where
    pub memory : error ≡ Memory
    pub does : visits old.visitor maps index item new.visitor
    pub damaged : new.damaged ≡ old.damaged
    pub same : new.limit ≡ old.limit

-- The other visitor refuses it.
pub record RefusesOwn {T : Type 0} (refuses : RefusalRelation T) (old : Checked T) (maps : TableMaps) (index : ℕ) (item : Result EventView Error) (error : Error) (new : Checked T) : Type 0 where
  pub refused : refuses old.visitor maps index item error new.visitor
  pub damaged : new.damaged ≡ old.damaged
  pub same : new.limit ≡ old.limit

abbrev pub RefusesChecked : {T : Type 0} → VisitRelation T → RefusalRelation T → RefusalRelation (Checked T)
RefusesChecked visits refuses old maps index item error new = RefusesOwn refuses old maps index item error new ⊎ LacksMemory visits old maps index item error new
