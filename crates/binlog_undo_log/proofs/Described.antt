-- The log of a file: its description, and what undoes its transactions.
use Rattle.std.proofs.Common.{◌≡◌, ℕ, false, List, [], ◌∷◌, length, Option, Some, Result, Ok, Err, OnOk, sym, subst}
use Rattle.std.specs.Prelude.{◌==◌}
use Rattle.binlog_consts.specs.declared.version.BinlogVersion.TheVariants.{Version4}
use Rattle.binlog_event_format.specs.FormatDescription.{default_description}
use Rattle.binlog_event_format.specs.Headers.{header_of}
use Rattle.binlog_event_format.specs.declared.format_description.FormatDescriptionEvent.{FormatDescriptionEvent}
use Rattle.binlog_event_format.specs.declared.header.BinlogEventHeader.{BinlogEventHeader}
use Rattle.binlog_events.specs.Events.{EventView, event_at}
use Rattle.binlog_undo.specs.declared.inverse_event.ForeignKeyChecks.{ForeignKeyChecks}
use Rattle.binlog_undo_index.specs.declared.places.ChangePlace.{ChangePlace}
use Rattle.binlog_undo_index.specs.declared.places.TransactionPlace.{TransactionPlace}
use Rattle.binlog_undo_log.proofs.Undone.{AreAmong, all_from}
use Rattle.binlog_undo_log.specs.Descriptions.{DescribesOnce}
use Rattle.binlog_undo_log.specs.Files.{IsDescribed, WritesDescribed, WritesIfAny}
use Rattle.binlog_undo_log.specs.Output.{GrowsBy}
use Rattle.binlog_undo_log.specs.Places.{FramesOf}
use Rattle.binlog_undo_log.specs.Undoing.{HasRightChecksum, IsEventAt, UndoesAll}
use Rattle.binlog_undo_log.specs.declared.output.UndoOutput.{UndoOutput}
use Rattle.binlog_undo_log.specs.declared.undo_error.UndoLogError.{UndoLogError}

module _ {W : Type 0} (contents : W → Option (List ℕ)) (is_at now : FramesOf) (among : AreAmong now is_at) (checks : ForeignKeyChecks) where
  pub log_if : (answer : Result (Unit {0}) UndoLogError) (place : ℕ) (frame : List ℕ) (first : FormatDescriptionEvent) (event : EventView) (d : FormatDescriptionEvent)
      (header : BinlogEventHeader) (transactions : List TransactionPlace) (changes : List ChangePlace) (old between new : UndoOutput W) → is_at place frame
      → first ≡ default_description Version4 → event_at first frame ≡ Some event → HasRightChecksum event → IsDescribed event d → header ≡ header_of event.frame
      → DescribesOnce contents header d old between → OnOk answer (GrowsBy contents (UndoesAll now d checks transactions changes) between new)
      → OnOk answer (WritesDescribed contents is_at checks place transactions changes old new)
  log_if (Ok done) place frame first event d header transactions changes old between new at default is right described head describes h =
      let there : IsEventAt is_at (default_description Version4) place event =
      record { frame = frame; at = at; is = subst (λ (f : FormatDescriptionEvent). event_at f frame ≡ Some event) default is; right = right } in
      record {
        event = event;
        event_at = there;
        d = d;
        described = described;
        between = between;
        describes = subst (λ (x : BinlogEventHeader). DescribesOnce contents x d old between) head describes;
        undoes = (h.0, all_from now is_at among d checks transactions changes h.0 h.1, h.2);
      }
  log_if (Err error) place frame first event d header transactions changes old between new at default is right described head describes h = tt

module _ {W : Type 0} (contents : W → Option (List ℕ)) (is_at : FramesOf) (checks : ForeignKeyChecks) where
  some_if : (answer : Result (Unit {0}) UndoLogError) (place : ℕ) (transactions : List TransactionPlace) (changes : List ChangePlace) (old new : UndoOutput W)
      → (length transactions == 0) ≡ false → OnOk answer (WritesDescribed contents is_at checks place transactions changes old new)
      → OnOk answer (WritesIfAny contents is_at checks (Some place) transactions changes old new)
  some_if answer place [] changes old new any h = absurd cc
  some_if answer place (transaction ∷ transactions) changes old new any h = h

  pub file_if : (answer : Result (Unit {0}) UndoLogError) (description : Option ℕ) (place : ℕ) (transactions : List TransactionPlace) (changes : List ChangePlace)
      (old new : UndoOutput W) → description ≡ Some place → (length transactions == 0) ≡ false
      → OnOk answer (WritesDescribed contents is_at checks place transactions changes old new) → OnOk answer (WritesIfAny contents is_at checks description transactions changes old new)
  file_if answer description place transactions changes old new is any h =
      subst (λ (p : Option ℕ). OnOk answer (WritesIfAny contents is_at checks p transactions changes old new)) (sym is) (some_if answer place transactions changes old new any h)
