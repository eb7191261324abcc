-- A visitor whose errors are reported.
use Rattle.std.specs.Prelude.{◌≡◌, ℕ, ◌==◌, Bool, true, false, ◌||◌, not, if◌then◌else◌, Result, Ok, Err}
use Rattle.binlog_wire.specs.declared.error.Error.{Error}
use Rattle.binlog_events.specs.Events.{EventView}
use Rattle.binlog_file.specs.TableMapsInForce.{TableMaps}
use Rattle.binlog_visits.specs.Visits.{VisitRelation}
use Rattle.binlog_filters.specs.Filtering.{begun}
use Rattle.binlog_payload_filters.specs.declared.filtered.PayloadFiltered.{PayloadFiltered}
use Rattle.binlog_inputs.specs.Positions.{with_positions}
use Rattle.binlog_inputs.specs.declared.positions.Positions.{Positions}

-- What contracts see of it: the visitor, whether the file has an error, and whether it ends within an event.
pub record ReportedView (T : Type 0) : Type 0 where
  pub visitor : T
  pub has_errors : Bool
  pub is_cut : Bool

-- The same at the start of a file.
abbrev pub begun_file : {T : Type 0} → ReportedView (PayloadFiltered T) → ReportedView (PayloadFiltered T)
begun_file old = record { visitor = record old.visitor { filtered = begun old.visitor.filtered }; has_errors = false; is_cut = false }

-- The same with a filter that takes these positions.
abbrev pub taking : {T : Type 0} → Positions → ReportedView (PayloadFiltered T) → ReportedView (PayloadFiltered T)
taking positions old =
    record old { visitor = record old.visitor { filtered = record old.visitor.filtered { filter = with_positions old.visitor.filtered.filter positions } } }

-- The same filter with another visitor.
abbrev pub with_visitor : {T : Type 0} → PayloadFiltered T → T → PayloadFiltered T
with_visitor old visitor = record old { filtered = record old.filtered { visitor = visitor } }

-- The same at the end of a file, behind whose last item so many bytes lie: any make an error of the file.
abbrev pub ended_file : {T : Type 0} → (tail_len : ℕ) → ReportedView T → ReportedView T
ended_file tail_len old = if tail_len == 0 then old else record old { has_errors = true; is_cut = true }

-- Whether the file has an error behind an item: one before it, the item, or an event that the visitor refused. It counts
-- those that it refuses: so many before the item, and so many behind it.
abbrev pub has_error : (was : Bool) (item : Result EventView Error) (before after : ℕ) → Bool
has_error was (Ok event) before after = was || not (after == before)
has_error was (Err error) before after = true

-- `visits` says what a visit of an item makes of the visitor, and `refused` is the number of events that it has refused.
module _ {T : Type 0} (visits : VisitRelation T) (refused : T → ℕ) where
  -- The item is shown to the visitor, and noted if it is an error.
  pub record Reports (old : ReportedView T) (maps : TableMaps) (index : ℕ) (item : Result EventView Error) (new : ReportedView T) : Type 0 where
    pub does : visits old.visitor maps index item new.visitor
    pub notes : new.has_errors ≡ has_error old.has_errors item (refused old.visitor) (refused new.visitor)
    pub cut : new.is_cut ≡ old.is_cut
