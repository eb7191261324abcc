-- What is written for the items of a log.
use Rattle.std.specs.Prelude.{◌≡◌, ◌⊎◌, ℕ, List, [], ◌++◌, codes, Option, None, Some, Result, Ok, Err}
use Rattle.std.specs.Io.KnownBytes.{Appends}
use Rattle.std.specs.String.{string_bytes}
use Rattle.json.specs.Print.{print}
use Rattle.binlog_ends.specs.Counts.{AppendsFront}
use Rattle.binlog_wire.specs.declared.error.Error.{Error}
use Rattle.binlog_wire.specs.declared.error.Error.TheVariants.{Memory, Writer}
use Rattle.binlog_events.specs.Events.{EventView}
use Rattle.binlog_file.specs.TableMapsInForce.{TableMaps}
use Rattle.binlog_visits.specs.Visits.{VisitRelation, RefusalRelation}
use Rattle.binlog_filters.specs.Filtering.{begun}
use Rattle.binlog_filters.specs.Places.{start_of}
use Rattle.binlog_json_lines.specs.Contradicted.{NotesIf, map_of_item}
use Rattle.binlog_json_lines.specs.Lines.{IsLine, map_of_event}
use Rattle.binlog_json_lines.specs.Options.{RowOptions, options_of}
use Rattle.binlog_json_lines.specs.PartLines.{map_of_part, part_error_object}
use Rattle.binlog_payload_visits.specs.Parts.{Part}
use Rattle.binlog_payload_visits.specs.PartVisits.{PartVisitRelation, PartRefusalRelation}
use Rattle.binlog_payload_filters.specs.Filtering.{FiltersPayloads, RefusesTaken}
use Rattle.binlog_payload_filters.specs.declared.filtered.PayloadFiltered.{PayloadFiltered}
use Rattle.binlog_payload_filters.specs.declared.taken_parts.TakenParts.{TakenParts}
use Rattle.binlog_change_lines.specs.EventTexts.{IsEventText, IsPartText}
use Rattle.binlog_statistics.specs.TransactionGtids.{FollowsGtid}
use Rattle.binlog_change_lines.specs.Heads.{Place}
use Rattle.binlog_change_lines.specs.InsideVisits.{Inside, VisitsInside, RefusesInside}
use Rattle.binlog_change_lines.specs.declared.change_filter.ChangeFilter.{ChangeFilter}
use Rattle.binlog_change_lines.specs.declared.change_writer.ChangeWriter.{ChangeWriter}

-- The text that is written for an item, where these table maps are in force behind it. An error has the line of its item.
abbrev pub IsItemText : RowOptions → Place → TableMaps → (index : ℕ) → Result EventView Error → (contradiction : Option ℕ) → (text : List ℕ) → Type 0
IsItemText options place maps index (Ok event) contradiction text = IsEventText options place (map_of_event maps event) index event contradiction text
IsItemText options place maps index (Err error) contradiction text = (contradiction ≡ None) × IsLine index (Err error) text

-- The same of a part of the item with this index, in which these table maps are in force behind the part.
abbrev pub IsPartTextIn : RowOptions → Place → TableMaps → (index number : ℕ) → Part → (contradiction : Option ℕ) → (text : List ℕ) → Type 0
IsPartTextIn options place maps index number (Ok event) contradiction text = IsPartText options place (map_of_event maps event) index number event contradiction text
IsPartTextIn options place maps index number (Err error) contradiction text =
    (contradiction ≡ None) × (text ≡ print (part_error_object index number error) ++ codes "\n")

-- ---- a text that `IsText` says of, where `old` and `new` are the bytes of an output

module _ (IsText : (contradiction : Option ℕ) → (text : List ℕ) → Type 0) where
  -- It is appended.
  pub record WritesText (contradiction : Option ℕ) (old new : Option (List ℕ)) : Type 0 where
    pub text : List ℕ
    pub is : IsText contradiction text
    pub written : Appends old new text

  -- A prefix of it is appended.
  pub record WritesFront (old new : Option (List ℕ)) : Type 0 where
    pub text : List ℕ
    pub contradiction : Option ℕ
    pub is : IsText contradiction text
    pub written : AppendsFront old new text

  -- It isn't written whole: the writer failed, or an allocation for the text.
  abbrev pub WritesNoText : (old : Option (List ℕ)) → Error → (new : Option (List ℕ)) → Type 0
  WritesNoText old error new = ((error ≡ Writer) × WritesFront old new) ⊎ ((error ≡ Memory) × (new ≡ old))

-- ---- the beginning of a file

-- What is written and noted stays as it was.
pub record KeepsWritten {W : Type 0} (old new : ChangeWriter W) : Type 0 where
  pub output : new.output ≡ old.output
  pub options : new.options ≡ old.options
  pub noted : new.contradictions ≡ old.contradictions

-- The writer begins with the file of this name, in which no transaction has begun.
pub record BeginsFile {W : Type 0} (name : List ℕ) (old new : ChangeWriter W) : Type 0 where
  pub file : string_bytes new.file ≡ name
  pub gtid : string_bytes new.gtid ≡ []
  pub kept : KeepsWritten old new

-- The writer, which is shown the items, and of their parts those that are taken.
abbrev pub Lines : Type 0 → Type 0
Lines W = Inside (ChangeWriter W)

-- The same with another writer.
abbrev pub with_writer : {W : Type 0} → Lines W → ChangeWriter W → Lines W
with_writer lines writer = record lines { visitor = record lines.visitor { visitor = record lines.visitor.visitor { visitor = writer } } }

-- What takes the parts for a filter, its writer, and the number of the events of which a part is an error.
abbrev pub parts_of : {W : Type 0} → ChangeFilter W → TakenParts (ChangeWriter W)
parts_of lines = lines.filtered.filtered.visitor.visitor.visitor

abbrev pub writer_of : {W : Type 0} → ChangeFilter W → ChangeWriter W
writer_of lines = (parts_of lines).visitor

abbrev pub damaged_of : {W : Type 0} → ChangeFilter W → ℕ
damaged_of lines = lines.filtered.filtered.visitor.visitor.damaged

-- The filter takes these positions. All else is as it was.
abbrev pub with_positions : {W : Type 0} → ChangeFilter W → (start : ℕ) (stop : Option ℕ) → ChangeFilter W
with_positions lines start stop =
    let filter = record lines.filtered.filtered.filter { start_position = start; stop_position = stop } in
    record lines { filtered = record lines.filtered { filtered = record lines.filtered.filtered { filter = filter } } }

-- The filter is at the start of a file. All but its writer is as it was.
abbrev pub IsAtStart : {W : Type 0} → (old new : ChangeFilter W) → Type 0
IsAtStart old new =
    new.filtered ≡ record old.filtered { filtered = record (begun old.filtered.filtered) { visitor = with_writer old.filtered.filtered.visitor (writer_of new) } }

-- The filter and its writer begin with the file of this name.
pub record Begins {W : Type 0} (name : List ℕ) (old new : ChangeFilter W) : Type 0 where
  pub writer : BeginsFile name (writer_of old) (writer_of new)
  pub filter : IsAtStart old new

-- The filter begins with it, and what is written and noted stays as it was.
pub record KeepsMost {W : Type 0} (old new : ChangeFilter W) : Type 0 where
  pub writer : KeepsWritten (writer_of old) (writer_of new)
  pub filter : IsAtStart old new

-- ---- visitors, where `contents` are the bytes of an output

module _ {W : Type 0} (contents : W → Option (List ℕ)) where
  -- Where the item that is visited stands, and where a part of it does.
  abbrev pub place_at : (part : Option ℕ) → ChangeWriter W → Place
  place_at part writer = record { file = string_bytes writer.file; position = writer.position; part = part; gtid = string_bytes writer.gtid }

  -- What stays as it was.
  pub record Keeps (old new : ChangeWriter W) : Type 0 where
    pub options : new.options ≡ old.options
    pub file : new.file ≡ old.file
    pub position : new.position ≡ old.position
    pub gtid : new.gtid ≡ old.gtid

  -- The text of the item is written, and its table is noted if it contradicts the files.
  abbrev pub WritesItem : VisitRelation (ChangeWriter W)
  WritesItem old maps index item new = (contradiction : Option ℕ)
      × WritesText (λ contradiction text. IsItemText (options_of old.options) (place_at None old) maps index item contradiction text) contradiction (contents old.output) (contents new.output)
      × NotesIf contradiction (map_of_item maps item) old.contradictions new.contradictions
      × Keeps old new

  abbrev pub RefusesItem : RefusalRelation (ChangeWriter W)
  RefusesItem old maps index item error new =
      WritesNoText (λ contradiction text. IsItemText (options_of old.options) (place_at None old) maps index item contradiction text) (contents old.output) error (contents new.output)
      × Keeps old new

  -- The same of a part, which stands where its item does.
  abbrev pub WritesPart : PartVisitRelation (ChangeWriter W)
  WritesPart old maps index number part new = (contradiction : Option ℕ)
      × WritesText (λ contradiction text. IsPartTextIn (options_of old.options) (place_at (Some number) old) maps index number part contradiction text) contradiction (contents old.output) (contents new.output)
      × NotesIf contradiction (map_of_part maps part) old.contradictions new.contradictions
      × Keeps old new

  abbrev pub RefusesPart : PartRefusalRelation (ChangeWriter W)
  RefusesPart old maps index number part error new =
      WritesNoText (λ contradiction text. IsPartTextIn (options_of old.options) (place_at (Some number) old) maps index number part contradiction text) (contents old.output) error (contents new.output)
      × Keeps old new

  -- The texts of the item and of those of its parts are written that are of the tables, and the item is counted if a part is an error.
  abbrev pub WritesAll : VisitRelation (Lines W)
  WritesAll = VisitsInside WritesItem WritesPart

  abbrev pub RefusesAll : RefusalRelation (Lines W)
  RefusesAll = RefusesInside WritesItem WritesPart RefusesItem RefusesPart

  -- The writer is told where the item stands: where an event begins, by `position`, and the GTID of its transaction. Behind an error the
  -- GTID isn't known, since the damaged event may have been that of a GTID.
  abbrev pub IsTold : (position : Option ℕ) → Result EventView Error → (old new : ChangeWriter W) → Type 0
  IsTold position (Ok event) old new =
      (new ≡ record old { position = start_of position event; gtid = new.gtid }) × FollowsGtid (string_bytes old.gtid) event (string_bytes new.gtid)
  IsTold position (Err error) old new = (new ≡ record old { gtid = new.gtid }) × (string_bytes new.gtid ≡ [])

  -- The same filter with that writer.
  abbrev pub telling : ChangeFilter W → ChangeWriter W → PayloadFiltered (Lines W)
  telling old told = record old.filtered { filtered = record old.filtered.filtered { visitor = with_writer old.filtered.filtered.visitor told } }

  -- The writer is told where each item stands, and writes the texts of those that the filter takes, and of their parts.
  abbrev pub WritesTaken : VisitRelation (ChangeFilter W)
  WritesTaken old maps index item new = (told : ChangeWriter W)
      × IsTold old.filtered.filtered.place.position item (writer_of old) told
      × FiltersPayloads WritesAll (telling old told) maps index item new.filtered

  -- Memory ran out for the GTID, or the filter or the writer refused the item.
  abbrev pub RefusesTold : RefusalRelation (ChangeFilter W)
  RefusesTold old maps index item error new =
      ((error ≡ Memory) × (contents (writer_of new).output ≡ contents (writer_of old).output))
      ⊎ ((told : ChangeWriter W) × IsTold old.filtered.filtered.place.position item (writer_of old) told
      × RefusesTaken RefusesAll (telling old told) maps index item error new.filtered)
