-- What the first pass sees of an item, and what it notes.
use Rattle.std.specs.Prelude.{◌≡◌, ◌↔◌, ℕ, ◌+◌, ◌-◌, ◌^◌, min, ◌==◌, Bool, true, false, ◌&&◌, ◌||◌, not, bit_and, List, [], ◌∷◌, length, Option, Some, None, is_some, Result, Ok, Err, take, IsTrue}
use Rattle.binlog_wire.specs.declared.error.Error.{Error}
use Rattle.binlog_wire.specs.declared.error.Error.TheVariants.{Memory}
use Rattle.binlog_event_data.specs.declared.event_data.EventData.TheVariants as mysql
use Rattle.binlog_event_format.specs.Headers.{header_of}
use Rattle.binlog_events.specs.Events.{EventView}
use Rattle.binlog_events.specs.Parts.{is_description}
use Rattle.binlog_file.specs.LogData.{ReadsLogData}
use Rattle.binlog_file.specs.TableMapsInForce.{TableMaps}
use Rattle.binlog_file.specs.declared.log_data.LogEventData.{LogEventData}
use Rattle.binlog_file.specs.declared.log_data.LogEventData.TheVariants.{Mysql, Maria}
use Rattle.binlog_mariadb.specs.Flavour.{IsMariaVersion}
use Rattle.binlog_mariadb.specs.declared.compressed_rows.RowsCompressedEvent.{RowsCompressedEvent}
use Rattle.binlog_mariadb.specs.declared.event_data.MariaEventData.TheVariants as maria
use Rattle.binlog_rows.specs.declared.rows_event_data.RowsEventData.{RowsEventData}
use Rattle.binlog_transactions.specs.Pieces.{step}
use Rattle.binlog_transactions.specs.Roles.{role_of}
use Rattle.binlog_transactions.specs.declared.mark.Mark.{Mark}
use Rattle.binlog_transactions.specs.declared.mark.Mark.TheVariants as marks
use Rattle.binlog_transactions.specs.declared.refusal.Refusal.TheVariants as refusals
use Rattle.binlog_transactions.specs.declared.role.Role.{Role}
use Rattle.binlog_transactions.specs.declared.role.Role.TheVariants as roles
use Rattle.binlog_undo_index.specs.Parts.{parts_of, noted, with_refused}
use Rattle.binlog_undo_index.specs.declared.index.UndoIndex.{UndoIndex}
use Rattle.binlog_undo_index.specs.declared.places.ChangePlace.{ChangePlace}
use Rattle.binlog_undo_index.specs.declared.places.TransactionPlace.{TransactionPlace}
use Rattle.binlog_undo_index.specs.declared.reason.Reason.{Reason}
use Rattle.binlog_undo_index.specs.declared.reason.Reason.TheVariants as reasons
use Rattle.binlog_undo_index.specs.declared.reason.Refused.{Refused as RefusedAt}
use Rattle.binlog_undo_index.specs.declared.seen.SeenEvent.{SeenEvent}
use Rattle.binlog_undo_index.specs.Positions.{has_place, is_past}
use Rattle.binlog_undo_log.specs.Choices.{positions_of, takes_first, takes_last}
use Rattle.binlog_undo_log.specs.Looking.{LooksAtRows, LooksAtCompressed}
use Rattle.binlog_undo_log.specs.Marks.{mark_in, table_id_in}
use Rattle.binlog_undo_log.specs.declared.scan.seeing.RowsLook.{RowsLook}
use Rattle.binlog_undo_log.specs.declared.scan.seeing.RowsLook.TheVariants.{Left, Undone, Refused, Damaged}
use Rattle.binlog_undo_log.specs.declared.scan.UndoScan.{UndoScan}

-- ---- rows

abbrev pub rows_of : LogEventData → Option RowsEventData
rows_of (Mysql (mysql.RowsEvent rows)) = Some rows
rows_of body = None

abbrev pub compressed_of : LogEventData → Option RowsCompressedEvent
compressed_of (Maria (maria.RowsCompressedEvent compressed)) = Some compressed
compressed_of body = None

-- Of an event without rows as they are.
abbrev pub LooksBeside : UndoScan → TableMaps → EventView → Option RowsCompressedEvent → RowsLook → Type 0
LooksBeside scan maps event (Some compressed) look = LooksAtCompressed scan maps event compressed look
LooksBeside scan maps event None look = look ≡ Left

abbrev pub LooksAtSome : UndoScan → TableMaps → EventView → Option RowsEventData → Option RowsCompressedEvent → RowsLook → Type 0
LooksAtSome scan maps event (Some rows) compressed look = LooksAtRows scan maps event rows look
LooksAtSome scan maps event None compressed look = LooksBeside scan maps event compressed look

-- What is seen of the rows of an event with this data.
abbrev pub LooksAtData : UndoScan → TableMaps → EventView → LogEventData → RowsLook → Type 0
LooksAtData scan maps event body look = LooksAtSome scan maps event (rows_of body) (compressed_of body) look

abbrev pub is_undone : RowsLook → Bool
is_undone (Undone change) = true
is_undone _ = false

abbrev pub change_in : RowsLook → Option ChangePlace
change_in (Undone change) = Some change
change_in _ = None

abbrev pub refusal_in : RowsLook → Option Reason
refusal_in (Refused reason) = Some reason
refusal_in _ = None

-- The mark of an event with this role, this data and these rows; None if it is damaged.
abbrev pub seen_mark : Role → LogEventData → RowsLook → Option Mark
seen_mark role body Damaged = None
seen_mark role body look = mark_in role (is_undone look) body

-- ---- an event

-- The role of an event. The flag 0x80 says that events of a type without a role may be ignored.
abbrev pub IsRole : EventView → Role → Type 0
IsRole event role =
    (maria : Bool) × (IsTrue maria ↔ IsMariaVersion (take 50 event.fde.server_version))
    × (role ≡ role_of maria (not (bit_and (header_of event.frame).flags 0x80 == 0)) (header_of event.frame).event_type)

-- The place behind an event that begins at the place of the pass.
abbrev pub place_behind : UndoScan → EventView → ℕ
place_behind scan event = min (scan.place + length event.frame) (2 ^ 64 - 1)

-- The event with this index, this mark and these rows. The first event of a transaction takes it if it begins between the positions,
-- too.
abbrev pub seen_event : UndoScan → ℕ → EventView → Mark → Option ℕ → RowsLook → SeenEvent
seen_event scan index event mark table_id look = record {
  index = index;
  place = scan.place;
  end = place_behind scan event;
  read_at = scan.place;
  mark = mark;
  table_id = table_id;
  change = change_in look;
  refusal = refusal_in look;
  takes_first = has_place (positions_of scan.choice) scan.place && takes_first scan.choice (header_of event.frame) scan.is_wanted;
  takes_last = takes_last scan.choice (header_of event.frame);
}

-- An event without data that can be read, of a type that says its mark. XIDs, table maps and GTIDs have to be read.
abbrev known_mark : Bool → Mark → Option Mark
known_mark false mark = Some mark
known_mark true marks.Xid = None
known_mark true marks.TableMap = None
known_mark true (marks.Gtid gtid) = None
known_mark true mark = Some mark

abbrev pub unread_mark : Role → Bool → Option Mark
unread_mark (roles.Known mark) is_known = known_mark is_known mark
unread_mark role is_known = None

abbrev pub seen_as : UndoScan → ℕ → EventView → Option Mark → Option ℕ → RowsLook → Option SeenEvent
seen_as scan index event None table_id look = None
seen_as scan index event (Some mark) table_id look = Some (seen_event scan index event mark table_id look)

abbrev pub SeesData : UndoScan → TableMaps → ℕ → EventView → LogEventData → Option SeenEvent → Type 0
SeesData scan maps index event body seen =
    (role : Role) × (look : RowsLook) × IsRole event role × LooksAtData scan maps event body look
    × (seen ≡ seen_as scan index event (seen_mark role body look) (table_id_in body) look)

abbrev pub SeesUnread : UndoScan → ℕ → EventView → Bool → Option SeenEvent → Type 0
SeesUnread scan index event is_known seen =
    (role : Role) × IsRole event role × (seen ≡ seen_as scan index event (unread_mark role is_known) None Left)

abbrev pub SeesRead : UndoScan → TableMaps → ℕ → EventView → Result (Option LogEventData) Error → Option SeenEvent → Type 0
SeesRead scan maps index event (Ok (Some body)) seen = SeesData scan maps index event body seen
SeesRead scan maps index event (Ok None) seen = SeesUnread scan index event false seen
SeesRead scan maps index event (Err Memory) seen = ⊥
SeesRead scan maps index event (Err error) seen = SeesUnread scan index event true seen

-- What is seen of an event; None if it is damaged.
abbrev pub Sees : UndoScan → TableMaps → ℕ → EventView → Option SeenEvent → Type 0
Sees scan maps index event seen = (read : Result (Option LogEventData) Error) × ReadsLogData event read × SeesRead scan maps index event read seen

-- ---- what is noted

-- A refusal that isn't skipped.
abbrev pub refused_at : ℕ → ℕ → Reason → RefusedAt
refused_at index place reason = record { index = index; place = place; reason = reason; is_skipped = false }

-- The pass ends, and is refused for this reason.
pub record Stops (index : ℕ) (reason : Reason) (old new : UndoScan) : Type 0 where
  pub parts : parts_of new.index ≡ with_refused (refused_at index old.place reason) (parts_of old.index)
  pub is : new ≡ record old { is_stopped = true; index = new.index }

-- A description comes into force, in front of all transactions that are undone; behind one it is refused.
abbrev pub DescribesBehind : List TransactionPlace → ℕ → UndoScan → UndoScan → Type 0
DescribesBehind [] index old new = new ≡ record old { description = Some old.place }
DescribesBehind (transaction ∷ transactions) index old new = Stops index reasons.Description old new

abbrev pub Describes : ℕ → UndoScan → UndoScan → Type 0
Describes index old new = DescribesBehind (parts_of old.index).transactions index old new

abbrev pub DescribesIf : Bool → ℕ → UndoScan → UndoScan → Type 0
DescribesIf true index old new = Describes index old new
DescribesIf false index old new = new ≡ old

-- The index is told of an event.
pub record NotesIn (seen : SeenEvent) (old new : UndoIndex) : Type 0 where
  pub parts : parts_of new ≡ noted seen (step old.automaton.current seen.mark).0 (parts_of old)
  pub automaton : new.automaton.current ≡ (step old.automaton.current seen.mark).1

-- Behind an event of this length.
abbrev pub passed : ℕ → ℕ → UndoScan → UndoScan
passed index len scan = record scan { place = min (scan.place + len) (2 ^ 64 - 1); items = min (index + 1) (2 ^ 64 - 1) }

-- An event is noted, and the pass goes on behind it.
pub record Notes (index : ℕ) (event : EventView) (seen : SeenEvent) (old new : UndoScan) : Type 0 where
  pub told : UndoIndex
  pub notes : NotesIn seen old.index told
  pub between : UndoScan
  pub describes : DescribesIf (is_description event.frame) index (record old { index = told }) between
  pub is : new ≡ passed index (length event.frame) between

-- Encryption ends the pass: nothing behind it can be read.
abbrev pub NotesMark : Mark → ℕ → EventView → SeenEvent → UndoScan → UndoScan → Type 0
NotesMark marks.Encryption index event seen old new = Stops index (reasons.Transaction refusals.Encrypted) old new
NotesMark mark index event seen old new = Notes index event seen old new

-- So does damage.
abbrev pub NotesIf : ℕ → EventView → Option SeenEvent → UndoScan → UndoScan → Type 0
NotesIf index event (Some seen) old new = NotesMark seen.mark index event seen old new
NotesIf index event None old new = Stops index reasons.Damaged old new

-- ---- the end of a file

-- What is told of the end.
abbrev pub border_at : UndoScan → SeenEvent
border_at scan = record {
  index = scan.items;
  place = scan.place;
  end = scan.place;
  read_at = scan.place;
  mark = marks.Border;
  table_id = None;
  change = None;
  refusal = None;
  takes_first = true;
  takes_last = true;
}

-- The length of the tail behind the last item is told, and it is 0.
abbrev pub has_no_tail : Option ℕ → Bool
has_no_tail None = false
has_no_tail (Some tail_len) = tail_len == 0

pub record EndsWhole (old new : UndoScan) : Type 0 where
  pub notes : NotesIn (border_at old) old.index new.index
  pub is : new ≡ record old { index = new.index }

-- What follows is behind the stop position, and no transaction is read that begins before it.
abbrev pub is_past_stop : UndoScan → Bool
is_past_stop scan = is_past (positions_of scan.choice) scan.place && not (is_some scan.index.automaton.current)

-- The pass ends there, as at the end of a file.
pub record Closes (old new : UndoScan) : Type 0 where
  pub notes : NotesIn (border_at old) old.index new.index
  pub is : new ≡ record old { is_stopped = true; index = new.index }

abbrev pub EndsIfWhole : Bool → UndoScan → UndoScan → Type 0
EndsIfWhole true old new = EndsWhole old new
EndsIfWhole false old new = Stops old.items reasons.Tail old new

-- The pass ends behind the last item of a file. What is behind the stop position is no tail.
abbrev pub EndsScan : Bool → Option ℕ → UndoScan → UndoScan → Type 0
EndsScan true tail_len old new = new ≡ old
EndsScan false tail_len old new = EndsIfWhole (has_no_tail tail_len || is_past_stop old) old new
