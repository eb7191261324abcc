-- What both passes over a file say together.
use Rattle.std.proofs.Common.{◌≡◌, ℕ, ◌<◌, ◌^◌, List, [], ◌∷◌, length, map, Option, Some, None, sym, subst}
use Rattle.binlog_undo.specs.declared.inverse_event.ForeignKeyChecks.{ForeignKeyChecks}
use Rattle.binlog_undo_index.specs.Groups.{Kept}
use Rattle.binlog_undo_index.specs.Index.{Keeps, place_of}
use Rattle.binlog_undo_index.specs.Parts.{parts_of}
use Rattle.binlog_undo_index.specs.declared.places.ChangePlace.{ChangePlace}
use Rattle.binlog_undo_index.specs.declared.places.TransactionPlace.{TransactionPlace}
use Rattle.binlog_undo_index.specs.declared.skips.Skips.{Skips}
use Rattle.binlog_undo_log.proofs.LogChanges.{kept_undone}
use Rattle.binlog_undo_log.proofs.Placed.{file_placed}
use Rattle.binlog_undo_log.proofs.Scanned.{file_scanned}
use Rattle.binlog_undo_log.proofs.Undone.{AreAmong, event_from, all_from, kept_are_undone}
use Rattle.binlog_undo_log.specs.Choices.{rules_of}
use Rattle.binlog_undo_log.specs.FileChanges.{AreFramesOf, undone_of, WritesInverse, WritesInverseIfAny, UndoesFile}
use Rattle.binlog_undo_log.specs.Places.{IsFrameIn}
use Rattle.binlog_undo_log.specs.Files.{IsFresh, ScansWhole, AreSkipped, IsScanned, WritesDescribed, WritesAt, WritesIfAny, WritesFile}
use Rattle.binlog_undo_log.specs.Places.{FramesOf}
use Rattle.binlog_undo_log.specs.Undoing.{UndoesKept}
use Rattle.binlog_undo_log.specs.declared.choice.Choice.{Choice}
use Rattle.binlog_undo_log.specs.declared.output.UndoOutput.{UndoOutput}
use Rattle.binlog_undo_log.specs.declared.scan.UndoScan.{UndoScan}

module _ {W : Type 0} (contents : W → Option (List ℕ)) (others is_at : FramesOf) (among : AreAmong others is_at) (checks : ForeignKeyChecks) where
  described_inverse : (place : ℕ) (kept : List Kept) (transactions : List TransactionPlace) (changes : List ChangePlace) (old new : UndoOutput W) → Keeps kept transactions changes
      → WritesDescribed contents others checks place transactions changes old new → WritesInverse contents is_at kept old new
  described_inverse place kept transactions changes old new keeps h =
      let undone : UndoesKept is_at h.d checks kept h.undoes.0 =
      kept_are_undone is_at h.d checks kept transactions changes h.undoes.0 keeps (all_from others is_at among h.d checks transactions changes h.undoes.0 h.undoes.1) in
      let found = kept_undone is_at h.d checks kept h.undoes.0 undone in
      record {
        place = place;
        event = h.event;
        event_at = event_from others is_at among _ checks place h.event h.event_at;
        d = h.d;
        described = h.described;
        between = h.between;
        describes = h.describes;
        changes = found.0;
        are = found.1;
        events = h.undoes.0;
        inverse_are = found.2;
        grows = h.undoes.2;
      }

  inverse_at : (place : Option ℕ) (kept : List Kept) (transactions : List TransactionPlace) (changes : List ChangePlace) (old new : UndoOutput W) → Keeps kept transactions changes
      → WritesAt contents others checks place transactions changes old new → WritesInverse contents is_at kept old new
  inverse_at None kept transactions changes old new keeps h = absurd h
  inverse_at (Some place) kept transactions changes old new keeps h = described_inverse place kept transactions changes old new keeps h

  pub inverse_if_any : (place : Option ℕ) (kept : List Kept) (transactions : List TransactionPlace) (changes : List ChangePlace) (old new : UndoOutput W) → Keeps kept transactions changes
      → WritesIfAny contents others checks place transactions changes old new → WritesInverseIfAny contents is_at kept old new
  inverse_if_any place [] transactions changes old new keeps h =
      subst (λ (t : List TransactionPlace). WritesIfAny contents others checks place t changes old new) keeps.transactions_are h
  inverse_if_any place (first ∷ kept) transactions changes old new keeps h =
      inverse_at place (first ∷ kept) (map place_of (first ∷ kept)) changes old new
      (subst (λ (t : List TransactionPlace). Keeps (first ∷ kept) t changes) keeps.transactions_are keeps)
      (subst (λ (t : List TransactionPlace). WritesIfAny contents others checks place t changes old new) keeps.transactions_are h)

pub file_undone : {W : Type 0} (contents : W → Option (List ℕ)) (is_at : FramesOf) (choice : Choice) (checks : ForeignKeyChecks) (skips : Skips) (bytes : List ℕ)
    (start scan : UndoScan) (old new : UndoOutput W) → length bytes < 2 ^ 64 → AreFramesOf bytes is_at → IsFresh choice checks skips start → ScansWhole bytes start scan
    → AreSkipped (parts_of scan.index).refusals → WritesFile contents is_at scan old new → UndoesFile contents (rules_of choice skips) bytes start scan old new
file_undone contents is_at choice checks skips bytes start scan old new small frames fresh h skipped writes =
    let scanned : IsScanned (rules_of choice skips) bytes start scan = file_scanned choice checks skips bytes start scan fresh h skipped in
    record {
      scanned = scanned;
      places = file_placed choice checks skips bytes start scan small fresh scanned;
      undoes = inverse_if_any contents is_at (IsFrameIn bytes) frames scan.checks scan.description (undone_of (rules_of choice skips) scanned.seen scanned.behind)
          (parts_of scan.index).transactions (parts_of scan.index).changes old new scanned.keeps writes;
    }
