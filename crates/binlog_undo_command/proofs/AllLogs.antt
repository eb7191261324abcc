-- What is written for several logs is one log, which is the inverse of the changes of all of them.
use Rattle.std.proofs.Common.{◌≡◌, inl, inr, ℕ, ◌+◌, ◌<◌, ◌^◌, true, false, List, [], ◌∷◌, ◌++◌, length, map, Option, Some, None, IfSome, refl, sym, ap, subst, ◌∙◌}
use Rattle.std.proofs.lemmas.Grind.{flat_map-append}
use Rattle.std.specs.Io.KnownBytes.{Appends, Keeps as KeepsBytes}
use Rattle.std.specs.List.{AllByRecursion, flat_map}
use Rattle.clap.specs.declared.parser.matches.Found.{Found}
use Rattle.binlog_consts.specs.declared.version.BinlogVersion.TheVariants.{Version4}
use Rattle.binlog_event_format.specs.FormatDescription.{default_description}
use Rattle.binlog_event_format.specs.declared.format_description.FormatDescriptionEvent.{FormatDescriptionEvent}
use Rattle.binlog_events.specs.Events.{EventView}
use Rattle.binlog_events.specs.FileHeader.{file_header}
use Rattle.binlog_undo.specs.Transactions.{Event}
use Rattle.binlog_undo.specs.declared.inverse_event.ForeignKeyChecks.{ForeignKeyChecks}
use Rattle.binlog_undo_command.specs.AllLogs.{IsWithoutRows, AreWrittenChanges, AreChangesOf, AreChangesOfLogs, IsInverseOfLogs}
use Rattle.binlog_undo_command.specs.LogPlaces.{place_at}
use Rattle.binlog_undo_command.specs.Scanned.{AreUndoneFrom, IsUndone}
use Rattle.binlog_undo_command.specs.UndoneLogs.{HaveFrames}
use Rattle.binlog_undo_command.specs.Written.{WritesOne, WritesLogs, WritesLog}
use Rattle.binlog_undo_command.specs.declared.log_place.LogPlace.{LogPlace}
use Rattle.binlog_undo_command.specs.declared.scanning.ScannedLog.{ScannedLog}
use Rattle.binlog_undo_index.specs.Groups.{Kept}
use Rattle.binlog_undo_index.specs.Index.{Keeps, place_of}
use Rattle.binlog_undo_index.specs.Parts.{parts_of}
use Rattle.binlog_undo_index.specs.declared.places.ChangePlace.{ChangePlace}
use Rattle.binlog_undo_index.specs.declared.places.TransactionPlace.{TransactionPlace}
use Rattle.binlog_undo_log.proofs.FileChanges.{file_undone}
use Rattle.binlog_undo_log.proofs.GrowingLogs.{new_so_far, log_grows}
use Rattle.binlog_undo_log.proofs.LogChanges.{kept_undone}
use Rattle.binlog_undo_log.proofs.ReadLogs.{read_pieces}
use Rattle.binlog_undo_log.proofs.Undone.{AreAmong, all_from, kept_are_undone}
use Rattle.binlog_undo_log.specs.Choices.{rules_of}
use Rattle.binlog_undo_log.specs.Descriptions.{written_description}
use Rattle.binlog_undo_log.specs.FileChanges.{undone_of, UndoesFile}
use Rattle.binlog_undo_log.specs.Files.{ScansWhole}
use Rattle.binlog_undo_log.specs.GrowingLogs.{IsLogSoFar, IsDescribedBy, UndoFile, UndoIfAny, GrowsLog}
use Rattle.binlog_undo_log.specs.LogChanges.{LogChange, LogPiece, beside, pair, piece_events, piece_changes, IsPieceOf, IsReadBeside, AreReadPair, AreReadChanges, AreKeptChanges}
use Rattle.binlog_undo_log.specs.Places.{FramesOf, IsFrameIn}
use Rattle.binlog_undo_log.specs.Undoing.{UndoesAll}
use Rattle.binlog_undo_log.specs.WholeLogs.{AreReadAs, IsNewLog}
use Rattle.binlog_undo_log.specs.declared.output.UndoOutput.{UndoOutput}
use Rattle.table_changes.proofs.Inverses.{inverse-append}
use Rattle.table_changes.specs.Changes.{inverse}

-- ---- pieces of a log

abbrev IsPiece : LogPiece EventView → Type 0
IsPiece piece = IsPieceOf IsWithoutRows AreReadPair piece

all_over : (xs ys : List (LogPiece EventView)) → AllByRecursion IsPiece xs → AllByRecursion IsPiece ys → AllByRecursion IsPiece (xs ++ ys)
all_over [] ys h k = k
all_over (x ∷ xs) ys h k = (h.0, all_over xs ys h.1 k)

read_pieces_too : (pieces : List (LogPiece EventView)) → AllByRecursion (IsPieceOf IsReadBeside AreReadPair) pieces → AllByRecursion IsPiece pieces
read_pieces_too [] each = tt
read_pieces_too (beside event ∷ pieces) each = (inl each.0, read_pieces_too pieces each.1)
read_pieces_too (pair map_event rows_event changes ∷ pieces) each = (each.0, read_pieces_too pieces each.1)

no_changes : AreWrittenChanges [] []
no_changes = record { pieces = []; each = tt; events_are = refl; changes_are = refl }

changes_over : (events others : List EventView) (changes more : List LogChange) → AreWrittenChanges events changes → AreWrittenChanges others more
    → AreWrittenChanges (events ++ others) (changes ++ more)
changes_over events others changes more h k = record {
  pieces = h.pieces ++ k.pieces;
  each = all_over h.pieces k.pieces h.each k.each;
  events_are = ap (λ (e : List EventView). e ++ others) h.events_are ∙ ap (λ (e : List EventView). flat_map piece_events h.pieces ++ e) k.events_are
      ∙ sym (flat_map-append piece_events h.pieces k.pieces);
  changes_are = ap (λ (c : List LogChange). c ++ more) h.changes_are ∙ ap (λ (c : List LogChange). flat_map piece_changes h.pieces ++ c) k.changes_are
      ∙ sym (flat_map-append piece_changes h.pieces k.pieces);
}

read_changes : (events : List EventView) (changes : List LogChange) → AreReadChanges events changes → AreWrittenChanges events changes
read_changes events changes h = record { pieces = h.pieces; each = read_pieces_too h.pieces h.each; events_are = h.events_are; changes_are = h.changes_are }

description_changes : (d : FormatDescriptionEvent) (events : List EventView) → IsDescribedBy d events → AreWrittenChanges events []
description_changes d [] is = no_changes
description_changes d (event ∷ events) (accepts, none) = record {
  pieces = beside event ∷ [];
  each = (inr (d, accepts), tt);
  events_are = ap (λ (e : List EventView). event ∷ e) none;
  changes_are = refl;
}

-- ---- the events of a file

module _ (others is_at : FramesOf) (among : AreAmong others is_at) (checks : ForeignKeyChecks) where
  -- The changes of what is undone, and the inverse of them in what is written.
  abbrev HaveInverse : List Kept → List EventView → Type 0
  HaveInverse kept events = (d : FormatDescriptionEvent) × (changes : List LogChange) × AreKeptChanges is_at d kept changes × AreWrittenChanges events (inverse changes)

  file_inverse : (kept : List Kept) (transactions : List TransactionPlace) (changes : List ChangePlace) (events : List EventView) → Keeps kept transactions changes
      → UndoFile others checks transactions changes events → HaveInverse kept events
  file_inverse kept transactions changes events keeps u =
      let undoes : UndoesAll is_at u.d checks transactions changes u.written = all_from others is_at among u.d checks transactions changes u.written u.undoes in
      let found = kept_undone is_at u.d checks kept u.written (kept_are_undone is_at u.d checks kept transactions changes u.written keeps undoes) in
      let are = found.2 in
      let read : AreReadChanges u.others (flat_map piece_changes are.pieces) =
      read_pieces u.d are.pieces u.others are.each (subst (λ (e : List Event). AreReadAs (written_description u.d) e u.others) are.events_are u.are) in
      let own : AreWrittenChanges u.others (inverse found.0) =
      read_changes u.others (inverse found.0) (subst (λ (c : List LogChange). AreReadChanges u.others c) (sym are.changes_are) read) in
      let all : AreWrittenChanges (u.description ++ u.others) (inverse found.0) =
      changes_over u.description u.others [] (inverse found.0) (description_changes (written_description u.d) u.description u.described) own in
      (u.d, found.0, found.1, subst (λ (e : List EventView). AreWrittenChanges e (inverse found.0)) (sym u.all) all)

  any_inverse : (kept : List Kept) (transactions : List TransactionPlace) (changes : List ChangePlace) (events : List EventView) → Keeps kept transactions changes
      → UndoIfAny others checks transactions changes events → HaveInverse kept events
  any_inverse [] transactions changes events keeps u =
      let none : events ≡ [] = subst (λ (t : List TransactionPlace). UndoIfAny others checks t changes events) keeps.transactions_are u in
      (default_description Version4, [], refl, subst (λ (e : List EventView). AreWrittenChanges e []) (sym none) no_changes)
  any_inverse (first ∷ kept) transactions changes events keeps u =
      let places : List TransactionPlace = map place_of (first ∷ kept) in
      file_inverse (first ∷ kept) places changes events
      (subst (λ (t : List TransactionPlace). Keeps (first ∷ kept) t changes) keeps.transactions_are keeps)
      (subst (λ (t : List TransactionPlace). UndoIfAny others checks t changes events) keeps.transactions_are u)

-- ---- bytes that are known

appended : (old new : Option (List ℕ)) (bytes s : List ℕ) → old ≡ Some bytes → Appends old new s → new ≡ Some (bytes ++ s)
appended None new bytes s is h = absurd cc
appended (Some xs) None bytes s is h = absurd h
appended (Some xs) (Some ys) bytes s is h =
    let same : xs ≡ bytes = cc in
    ap (λ (l : List ℕ). Some l) (h ∙ ap (λ (l : List ℕ). l ++ s) same)

left_so : (old new : Option (List ℕ)) (bytes : List ℕ) → old ≡ Some bytes → KeepsBytes old new → new ≡ Some bytes
left_so None new bytes is h = absurd cc
left_so (Some xs) None bytes is h = absurd h
left_so (Some xs) (Some ys) bytes is h =
    let same : xs ≡ bytes = cc in
    ap (λ (l : List ℕ). Some l) (h ∙ same)

-- ---- all logs

module _ {F W : Type 0} (known : List ℕ → Option (List ℕ)) (bytes : List ℕ → List ℕ) (has_frames : List ℕ → F → Type 0) (is_at : F → ℕ → List ℕ → Type 0) (contents : W → Option (List ℕ))
    (found : Found) (are : (name : List ℕ) → known name ≡ Some (bytes name)) (small : (name : List ℕ) → length (bytes name) < 2 ^ 64) (there : HaveFrames known has_frames is_at) where
  -- A log is undone behind others, for which these events were written.
  record GrowsBy (place : LogPlace) (log : ScannedLog) (events : List EventView) (new : UndoOutput W) : Type 0 where
    changes : List LogChange
    changes_are : AreChangesOf found place (bytes log.name.now) log.scan changes
    more : List EventView
    so_far : IsLogSoFar contents (events ++ more) new
    inverse_are : AreWrittenChanges more (inverse changes)

  one_more : (place : LogPlace) (log : ScannedLog) (events : List EventView) (old new : UndoOutput W) → IsLogSoFar contents events old → IsUndone found place (known log.name.now) log.scan
      → WritesOne has_frames is_at contents log old new → GrowsBy place log events new
  one_more place log events old new so_far is one =
      let text : List ℕ = bytes log.name.now in
      let scans : IfSome (Some text) (λ shown. length shown < 2 ^ 64 → ScansWhole shown is.scanned.start log.scan) =
      subst (λ (k : Option (List ℕ)). IfSome k (λ shown. length shown < 2 ^ 64 → ScansWhole shown is.scanned.start log.scan)) (are log.name.now) is.scanned.scans in
      let among : AreAmong (is_at one.frames) (IsFrameIn text) = there log.name.now text one.frames (are log.name.now) one.are in
      let file : UndoesFile contents (rules_of is.scanned.states.choice is.scanned.states.skips) text is.scanned.start log.scan old new =
      file_undone contents (is_at one.frames) is.scanned.states.choice is.scanned.states.checks is.scanned.states.skips text is.scanned.start log.scan old new (small log.name.now) among
      is.scanned.states.fresh (scans (small log.name.now)) is.skipped one.writes in
      let transactions : List TransactionPlace = (parts_of log.scan.index).transactions in
      let changes : List ChangePlace = (parts_of log.scan.index).changes in
      let grown : GrowsLog contents (is_at one.frames) log.scan.checks transactions changes events new =
      log_grows contents (is_at one.frames) log.scan.checks log.scan.description transactions changes events old new so_far one.writes in
      let undone = any_inverse (is_at one.frames) (IsFrameIn text) among log.scan.checks
      (undone_of (rules_of is.scanned.states.choice is.scanned.states.skips) file.scanned.seen file.scanned.behind) transactions changes grown.0 file.scanned.keeps grown.1 in
      record {
        changes = undone.1;
        changes_are = record { start = is.scanned.start; states = is.scanned.states; scanned = file.scanned; places = file.places; d = undone.0; are = undone.2 };
        more = grown.0;
        so_far = grown.2;
        inverse_are = undone.3;
      }

  -- All logs are undone, the last one first.
  record AreInverse (count index : ℕ) (logs : List ScannedLog) (new : UndoOutput W) : Type 0 where
    changes : List LogChange
    changes_are : AreChangesOfLogs bytes found count index logs changes
    events : List EventView
    so_far : IsLogSoFar contents events new
    inverse_are : AreWrittenChanges events (inverse changes)

  are_inverse : (count index : ℕ) (names : List (List ℕ)) (logs : List ScannedLog) (old new : UndoOutput W) → IsLogSoFar contents [] old → AreUndoneFrom known found count index names logs
      → WritesLogs has_frames is_at contents logs old new → AreInverse count index logs new
  are_inverse count index [] [] old new so_far undone written = record {
    changes = [];
    changes_are = refl;
    events = [];
    so_far = subst (λ (o : UndoOutput W). IsLogSoFar contents [] o) (sym written) so_far;
    inverse_are = no_changes;
  }
  are_inverse count index [] (log ∷ logs) old new so_far undone written = absurd undone
  are_inverse count index (name ∷ names) [] old new so_far undone written = absurd undone
  are_inverse count index (name ∷ names) (log ∷ logs) old new so_far undone written =
      let rest = are_inverse count (index + 1) names logs old written.0 so_far undone.2 written.1 in
      let one = one_more (place_at count index) log rest.events written.0 new rest.so_far
      (subst (λ (text : List ℕ). IsUndone found (place_at count index) (known text) log.scan) (sym undone.0) undone.1) written.2 in
      record {
        changes = one.changes ++ rest.changes;
        changes_are = (one.changes, rest.changes, one.changes_are, rest.changes_are, refl);
        events = rest.events ++ one.more;
        so_far = one.so_far;
        inverse_are = subst (λ (c : List LogChange). AreWrittenChanges (rest.events ++ one.more) c) (sym (inverse-append one.changes rest.changes))
            (changes_over rest.events one.more (inverse rest.changes) (inverse one.changes) rest.inverse_are one.inverse_are);
      }

  pub all_inverse : (count : ℕ) (names : List (List ℕ)) (logs : List ScannedLog) (old new : Option (List ℕ)) → AreUndoneFrom known found count 0 names logs → old ≡ Some []
      → WritesLog has_frames is_at contents false logs old new → IsInverseOfLogs bytes found count logs new
  all_inverse count names logs old new undone empty w =
      let first : UndoOutput W = record { writer = w.whole.begun; place = 4; has_checksums = false; has_bounds = true; description = None } in
      let header : contents w.whole.begun ≡ Some file_header = appended (contents w.start) (contents w.whole.begun) [] file_header (w.begins ∙ empty) w.whole.header in
      let fresh : IsNewLog contents first = record { bytes = header; place = refl; description = refl; bounds = refl } in
      let all = are_inverse count 0 names logs first w.end (new_so_far contents first fresh) undone w.whole.undoes in
      record {
        changes = all.changes;
        are = all.changes_are;
        out = all.so_far.bytes;
        has = left_so (contents w.end.writer) new all.so_far.bytes all.so_far.has w.ends;
        events = all.events;
        log = all.so_far.log;
        inverse_are = all.inverse_are;
      }
