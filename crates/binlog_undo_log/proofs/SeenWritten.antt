-- The first pass sees the events of a log that is written as they were written.
use Rattle.std.proofs.Common.{◌≡◌, ℕ, ◌<◌, ◌+◌, Bool, true, false, List, [], ◌∷◌, length, replicate, ◌++◌, Option, Some, None, Result, Ok, Err, refl, sym, ap, subst, ◌∙◌, arith, inl, inr}
use Rattle.std.specs.Prelude.{◌&&◌, not, ◌==◌, bit_and}
use Rattle.std.proofs.lemmas.Bool.{eqb-true}
use Rattle.binlog_consts.specs.EventTypes.{event_number, event_type_of}
use Rattle.binlog_consts.specs.declared.event_type.EventType.{EventType}
use Rattle.binlog_consts.specs.declared.event_type.EventType.TheVariants.{QUERY_EVENT, XID_EVENT, TABLE_MAP_EVENT}
use Rattle.binlog_consts.specs.declared.event_type.UnknownEventType.{UnknownEventType}
use Rattle.binlog_consts.specs.declared.version.BinlogVersion.TheVariants.{Version4}
use Rattle.binlog_event_data.specs.ReadData.{TakesMemory, data_read, ReadsAs}
use Rattle.binlog_event_data.specs.declared.event_data.EventData.{EventData}
use Rattle.binlog_event_data.specs.declared.event_data.EventData.TheVariants as mysql
use Rattle.binlog_event_format.specs.Bodies.{GivesWhole}
use Rattle.binlog_event_format.specs.FormatDescription.{default_description}
use Rattle.binlog_event_format.specs.Headers.{header_of}
use Rattle.binlog_event_format.specs.PostHeaders.{post_header}
use Rattle.binlog_event_format.specs.declared.format_description.FormatDescriptionEvent.{FormatDescriptionEvent}
use Rattle.binlog_events.specs.Events.{EventView}
use Rattle.binlog_events.specs.Parts.{data_of}
use Rattle.binlog_file.specs.LogData.{is_own_type, answer_as, ReadsLogData}
use Rattle.binlog_file.specs.TableMapsInForce.{TableMaps}
use Rattle.binlog_file.specs.declared.log_data.LogEventData.{LogEventData}
use Rattle.binlog_file.specs.declared.log_data.LogEventData.TheVariants.{Mysql}
use Rattle.binlog_mariadb.specs.declared.compressed_rows.RowsCompressedEvent.{RowsCompressedEvent}
use Rattle.binlog_rows.specs.Rows.{rows}
use Rattle.binlog_rows.specs.RowsData.{event_in, form_in}
use Rattle.binlog_rows.specs.TableMaps.{table_map}
use Rattle.binlog_rows.specs.declared.rows_event_data.RowsEventData.{RowsEventData}
use Rattle.binlog_rows.specs.declared.rows_event_data.RowsEventData.TheVariants as types
use Rattle.binlog_rows.specs.declared.table_map_event.TableMapEvent.{TableMapEvent}
use Rattle.binlog_transactions.specs.Roles.{role_of}
use Rattle.binlog_transactions.specs.declared.mark.Mark.{Mark}
use Rattle.binlog_transactions.specs.declared.mark.Mark.TheVariants as marks
use Rattle.binlog_transactions.specs.declared.role.Role.{Role}
use Rattle.binlog_transactions.specs.declared.role.Role.TheVariants as roles
use Rattle.binlog_transactions.specs.declared.statements.StatementKind.TheVariants as kinds
use Rattle.binlog_undo.specs.InverseEvents.{type_of}
use Rattle.binlog_undo_index.specs.declared.seen.SeenEvent.{SeenEvent}
use Rattle.binlog_undo_log.proofs.ReadLogs.{rows_data}
use Rattle.binlog_undo_log.proofs.ReadMaps.{value_read}
use Rattle.binlog_undo_log.specs.Heads.{is_writable}
use Rattle.binlog_undo_log.specs.Looking.{LooksAtRows}
use Rattle.binlog_undo_log.specs.Marks.{mark_in, table_id_in, mark_of_log_data}
use Rattle.binlog_undo_log.specs.Scanning.{rows_of, compressed_of, LooksBeside, LooksAtSome, IsRole, seen_event, seen_mark, seen_as, SeesData, SeesRead, Sees}
use Rattle.binlog_undo_log.specs.SeenWritten.{AreSeenAsWritten}
use Rattle.binlog_undo_log.specs.WholeLogs.{IsReadAs}
use Rattle.binlog_undo_log.specs.declared.scan.seeing.RowsLook.{RowsLook}
use Rattle.binlog_undo_log.specs.declared.scan.seeing.RowsLook.TheVariants.{Left}
use Rattle.binlog_undo_log.specs.declared.scan.UndoScan.{UndoScan}
use Rattle.binlog_undo.specs.Events.{begin_body, xid_body}
use Rattle.binlog_undo.specs.Transactions.{Event}
use Rattle.binlog_wire.specs.Reading.{Read, read_as}
use Rattle.binlog_wire.specs.declared.error.Error.{Error}
use Rattle.binlog_wire.specs.declared.error.Error.TheVariants as errors

-- ---- what is read

-- Bytes that are read as a value whole have no other answer.
gives_one : {V : Type 0} (grows : Type 0) (answer : Result V Error) (v : V) → (grows → ⊥) → GivesWhole grows answer (Ok (v, [])) → answer ≡ Ok v
gives_one {V} grows (Ok w) v none h =
    let both : ◌≡◌ {A = V × List ℕ} (v, []) (w, []) = cc in
    ap (λ (x : V). Ok x) (sym (ap (λ (p : V × List ℕ). p.0) both))
gives_one {V} grows (Err (errors.RemainingBytes n)) v none h =
    let both : ◌≡◌ {A = V × List ℕ} (v, []) (h.0, h.1) = let is = h.2 in cc in
    let rest : [] ≡ h.1 = ap (λ (p : V × List ℕ). p.1) both in
    absurd (omega (arith, ap length rest, h.3, h.4))
gives_one grows (Err errors.Memory) v none h = absurd (none h)
gives_one grows (Err errors.EndOfBody) v none h = absurd cc
gives_one grows (Err (errors.InvalidData why)) v none h = absurd cc
gives_one grows (Err (errors.WrongEventType number)) v none h = absurd cc
gives_one grows (Err error) v none h = absurd h

reads_one : (d : FormatDescriptionEvent) (s : List ℕ) (type : EventType) (answer : Result (Option EventData) Error) (content : EventData) → data_read d s type ≡ Ok (content, [])
    → (TakesMemory type → ⊥) → ReadsAs d s (Ok type) answer → answer ≡ Ok (Some content)
reads_one d s type (Ok None) content reads none h = absurd h
reads_one d s type (Ok (Some found)) content reads none h =
    let same : ◌≡◌ {A = Result EventData Error} (Ok found) (Ok content) =
    gives_one (TakesMemory type) (Ok found) content none (subst (λ (r : Read EventData). GivesWhole (TakesMemory type) (Ok found) r) reads h) in
    cc
reads_one d s type (Err error) content reads none h =
    let same : ◌≡◌ {A = Result EventData Error} (Err error) (Ok content) =
    gives_one (TakesMemory type) (Err error) content none (subst (λ (r : Read EventData). GivesWhole (TakesMemory type) (Err error) r) reads h) in
    absurd cc

not_both : true ≡ false → ⊥
not_both is = cc

module _ (d : FormatDescriptionEvent) (written : Event) (event : EventView) (is : IsReadAs d written event) where
  number_is : (type : EventType) → written.event_type ≡ type → (header_of event.frame).event_type ≡ event_number type
  number_is type kind = is.event_type ∙ ap event_number kind

  one_read : (type : EventType) (content : EventData) (read : Result (Option LogEventData) Error) → written.event_type ≡ type → event_type_of (event_number type) ≡ Ok type
      → is_own_type (event_number type) ≡ false → (TakesMemory type → ⊥) → data_read d written.body type ≡ Ok (content, []) → ReadsLogData event read
      → read ≡ Ok (Some (Mysql content))
  one_read type content read kind known other none reads (inl h) = absurd (not_both (sym h.0.0 ∙ ap is_own_type (number_is type kind) ∙ other))
  one_read type content read kind known other none reads (inr h) =
      let found : h.1.1.0 ≡ Ok type = h.1.1.1 ∙ ap event_type_of (number_is type kind) ∙ known in
      let at : ReadsAs event.fde (data_of event.fde.footer event.frame) (Ok type) h.1.0 =
      subst (λ (t : Result EventType UnknownEventType). ReadsAs event.fde (data_of event.fde.footer event.frame) t h.1.0) found h.1.1.2 in
      let whole : data_read event.fde (data_of event.fde.footer event.frame) type ≡ Ok (content, []) =
      ap (λ (x : FormatDescriptionEvent). data_read x (data_of x.footer event.frame) type) is.fde ∙ ap (λ (s : List ℕ). data_read d s type) is.body ∙ reads in
      h.1.2 ∙ ap (answer_as Mysql) (reads_one event.fde (data_of event.fde.footer event.frame) type h.1.0 content whole none at)

  pub rows_are_read : (content : RowsEventData) → written.event_type ≡ type_of content → (rows (form_in content) (post_header d (type_of content))).spells written.body (event_in content) []
      → (read : Result (Option LogEventData) Error) → ReadsLogData event read → read ≡ Ok (Some (Mysql (mysql.RowsEvent content)))
  rows_are_read (types.WriteRowsEventV1 x) kind spells read h =
      let c : RowsEventData = types.WriteRowsEventV1 x in one_read (type_of c) (mysql.RowsEvent c) read kind refl refl (λ none. none) (rows_data d written.body c spells) h
  rows_are_read (types.UpdateRowsEventV1 x) kind spells read h =
      let c : RowsEventData = types.UpdateRowsEventV1 x in one_read (type_of c) (mysql.RowsEvent c) read kind refl refl (λ none. none) (rows_data d written.body c spells) h
  rows_are_read (types.DeleteRowsEventV1 x) kind spells read h =
      let c : RowsEventData = types.DeleteRowsEventV1 x in one_read (type_of c) (mysql.RowsEvent c) read kind refl refl (λ none. none) (rows_data d written.body c spells) h
  rows_are_read (types.WriteRowsEvent x) kind spells read h =
      let c : RowsEventData = types.WriteRowsEvent x in one_read (type_of c) (mysql.RowsEvent c) read kind refl refl (λ none. none) (rows_data d written.body c spells) h
  rows_are_read (types.UpdateRowsEvent x) kind spells read h =
      let c : RowsEventData = types.UpdateRowsEvent x in one_read (type_of c) (mysql.RowsEvent c) read kind refl refl (λ none. none) (rows_data d written.body c spells) h
  rows_are_read (types.DeleteRowsEvent x) kind spells read h =
      let c : RowsEventData = types.DeleteRowsEvent x in one_read (type_of c) (mysql.RowsEvent c) read kind refl refl (λ none. none) (rows_data d written.body c spells) h
  rows_are_read (types.PartialUpdateRowsEvent x) kind spells read h =
      let c : RowsEventData = types.PartialUpdateRowsEvent x in one_read (type_of c) (mysql.RowsEvent c) read kind refl refl (λ none. none) (rows_data d written.body c spells) h

  role_is : (type : EventType) (role wanted : Role) → written.event_type ≡ type → ((maria ignorable : Bool) → role_of maria ignorable (event_number type) ≡ wanted)
      → IsRole event role → role ≡ wanted
  role_is type role wanted kind all h =
      let ignorable : Bool = not (bit_and (header_of event.frame).flags 0x80 == 0) in
      h.2 ∙ ap (role_of h.0 ignorable) (number_is type kind) ∙ all h.0 ignorable

  module _ (scan : UndoScan) (maps : TableMaps) (index : ℕ) (seen : Option SeenEvent) (h : Sees scan maps index event seen) where
    data_seen : (content : EventData) → h.0 ≡ Ok (Some (Mysql content)) → SeesData scan maps index event (Mysql content) seen
    data_seen content read = subst (λ (r : Result (Option LogEventData) Error). SeesRead scan maps index event r seen) read h.2

    -- Data without rows.
    beside_seen : (role : Role) (content : EventData) (mark : Mark) (table_id : Option ℕ) → ((found : Role) → IsRole event found → found ≡ role)
        → rows_of (Mysql content) ≡ None → compressed_of (Mysql content) ≡ None → mark_in role false (Mysql content) ≡ Some mark → table_id_in (Mysql content) ≡ table_id
        → SeesData scan maps index event (Mysql content) seen → seen ≡ Some (seen_event scan index event mark table_id Left)
    beside_seen role content mark table_id roles_are no_rows no_compressed marked id k =
        let look : k.1 ≡ Left =
        subst (λ (c : Option RowsCompressedEvent). LooksBeside scan maps event c k.1) no_compressed
        (subst (λ (r : Option RowsEventData). LooksAtSome scan maps event r (compressed_of (Mysql content)) k.1) no_rows k.3) in
        k.4
        ∙ ap (λ (r : Role). seen_as scan index event (seen_mark r (Mysql content) k.1) (table_id_in (Mysql content)) k.1) (roles_are k.0 k.2)
        ∙ ap (λ (l : RowsLook). seen_as scan index event (seen_mark role (Mysql content) l) (table_id_in (Mysql content)) l) look
        ∙ ap (λ (m : Option Mark). seen_as scan index event m (table_id_in (Mysql content)) Left) marked
        ∙ ap (λ (i : Option ℕ). Some (seen_event scan index event mark i Left)) id

    map_seen : (map : TableMapEvent) → written.event_type ≡ TABLE_MAP_EVENT → (table_map (post_header d TABLE_MAP_EVENT)).reads written.body ≡ Ok (map, [])
        → seen ≡ Some (seen_event scan index event marks.TableMap (Some map.table.id) Left)
    map_seen map kind reads =
        let content : EventData = mysql.TableMapEvent map in
        let read : h.0 ≡ Ok (Some (Mysql content)) = one_read TABLE_MAP_EVENT content h.0 kind refl refl (λ none. none) (ap (read_as mysql.TableMapEvent) reads) h.1 in
        beside_seen (roles.Known marks.TableMap) content marks.TableMap (Some map.table.id) (λ found. role_is TABLE_MAP_EVENT found (roles.Known marks.TableMap) kind (λ m i. refl))
        refl refl refl refl (data_seen content read)

    rows_seen : (content : RowsEventData) → written.event_type ≡ type_of content → (rows (form_in content) (post_header d (type_of content))).spells written.body (event_in content) []
        → event_type_of (event_number (type_of content)) ≡ Ok (type_of content) → is_own_type (event_number (type_of content)) ≡ false → (TakesMemory (type_of content) → ⊥)
        → ((m i : Bool) → role_of m i (event_number (type_of content)) ≡ roles.Rows)
        → (look : RowsLook) × LooksAtRows scan maps event content look
        × (seen ≡ seen_as scan index event (seen_mark roles.Rows (Mysql (mysql.RowsEvent content)) look) None look)
    rows_seen content kind spells known other none of_rows =
        let body : EventData = mysql.RowsEvent content in
        let read : h.0 ≡ Ok (Some (Mysql body)) = one_read (type_of content) body h.0 kind known other none (rows_data d written.body content spells) h.1 in
        let k : SeesData scan maps index event (Mysql body) seen = data_seen body read in (
          k.1,
          k.3,
          k.4 ∙ ap (λ (r : Role). seen_as scan index event (seen_mark r (Mysql body) k.1) None k.1) (role_is (type_of content) k.0 roles.Rows kind of_rows k.2),
        )

    any_rows_seen : (content : RowsEventData) → written.event_type ≡ type_of content → (rows (form_in content) (post_header d (type_of content))).spells written.body (event_in content) []
        → (look : RowsLook) × LooksAtRows scan maps event content look
        × (seen ≡ seen_as scan index event (seen_mark roles.Rows (Mysql (mysql.RowsEvent content)) look) None look)
    any_rows_seen (types.WriteRowsEventV1 x) kind spells = rows_seen (types.WriteRowsEventV1 x) kind spells refl refl (λ none. none) (λ m i. refl)
    any_rows_seen (types.UpdateRowsEventV1 x) kind spells = rows_seen (types.UpdateRowsEventV1 x) kind spells refl refl (λ none. none) (λ m i. refl)
    any_rows_seen (types.DeleteRowsEventV1 x) kind spells = rows_seen (types.DeleteRowsEventV1 x) kind spells refl refl (λ none. none) (λ m i. refl)
    any_rows_seen (types.WriteRowsEvent x) kind spells = rows_seen (types.WriteRowsEvent x) kind spells refl refl (λ none. none) (λ m i. refl)
    any_rows_seen (types.UpdateRowsEvent x) kind spells = rows_seen (types.UpdateRowsEvent x) kind spells refl refl (λ none. none) (λ m i. refl)
    any_rows_seen (types.DeleteRowsEvent x) kind spells = rows_seen (types.DeleteRowsEvent x) kind spells refl refl (λ none. none) (λ m i. refl)
    any_rows_seen (types.PartialUpdateRowsEvent x) kind spells = rows_seen (types.PartialUpdateRowsEvent x) kind spells refl refl (λ none. none) (λ m i. refl)

-- ---- statements and ends of transactions

-- What the pass needs of data without rows.
pub record Facts : Type 0 where
  pub mark : Option Mark
  pub own : Option Mark
  pub rows : Option RowsEventData
  pub compressed : Option RowsCompressedEvent
  pub table_id : Option ℕ

abbrev facts_of : EventData → Facts
facts_of content = record {
  mark = mark_in roles.Query false (Mysql content);
  own = mark_in (roles.Known marks.Xid) false (Mysql content);
  rows = rows_of (Mysql content);
  compressed = compressed_of (Mysql content);
  table_id = table_id_in (Mysql content);
}

-- A description with this post-header length of QUERY.
abbrev with_query : ℕ → FormatDescriptionEvent
with_query n = record (default_description Version4) { event_type_header_lengths = 0 ∷ n ∷ [] }

abbrev with_xid : ℕ → FormatDescriptionEvent
with_xid n = record (default_description Version4) { event_type_header_lengths = replicate 15 0 ++ n ∷ [] }

abbrev begin_facts : Facts
begin_facts = record { mark = Some (marks.Statement kinds.Begin); own = Some marks.Xid; rows = None; compressed = None; table_id = None }

abbrev xid_facts : Facts
xid_facts = record { mark = None; own = Some marks.Xid; rows = None; compressed = None; table_id = None }

begin_read : read_as facts_of (data_read (with_query 13) begin_body QUERY_EVENT) ≡ Ok (begin_facts, [])
begin_read = refl

xid_read : (number : ℕ) → read_as facts_of (data_read (with_xid 0) (xid_body number) XID_EVENT) ≡ Ok (xid_facts, [])
xid_read number = refl

both_true : (a b : Bool) → (a && b) ≡ true → (a ≡ true) × (b ≡ true)
both_true true b is = (refl, is)
both_true false b is = absurd cc

lengths_are : (d : FormatDescriptionEvent) → is_writable d ≡ true → (post_header d QUERY_EVENT ≡ 13) × (post_header d XID_EVENT ≡ 0)
lengths_are d writable =
    let lengths = both_true _ _ (both_true _ _ (both_true _ _ writable).1).1 in
    (eqb-true _ _ lengths.0, eqb-true _ _ (both_true _ _ lengths.1).0)

begin_data : (d : FormatDescriptionEvent) → is_writable d ≡ true → (content : EventData) × (begin_facts ≡ facts_of content) × (data_read d begin_body QUERY_EVENT ≡ Ok (content, []))
begin_data d writable =
    let same : data_read d begin_body QUERY_EVENT ≡ data_read (with_query 13) begin_body QUERY_EVENT =
    ap (λ (n : ℕ). data_read (with_query n) begin_body QUERY_EVENT) (lengths_are d writable).0 in
    let found = value_read facts_of (data_read (with_query 13) begin_body QUERY_EVENT) begin_facts begin_read in
    (found.0, found.1, same ∙ found.2)

xid_data : (d : FormatDescriptionEvent) (number : ℕ) → is_writable d ≡ true
    → (content : EventData) × (xid_facts ≡ facts_of content) × (data_read d (xid_body number) XID_EVENT ≡ Ok (content, []))
xid_data d number writable =
    let same : data_read d (xid_body number) XID_EVENT ≡ data_read (with_xid 0) (xid_body number) XID_EVENT =
    ap (λ (n : ℕ). data_read (with_xid n) (xid_body number) XID_EVENT) (lengths_are d writable).1 in
    let found = value_read facts_of (data_read (with_xid 0) (xid_body number) XID_EVENT) xid_facts (xid_read number) in
    (found.0, found.1, same ∙ found.2)

-- ---- all of them

pub seen_as_written : (scan : UndoScan) (maps : TableMaps) (index : ℕ) (d : FormatDescriptionEvent) (written : Event) (event : EventView) (seen : Option SeenEvent)
    → is_writable d ≡ true → IsReadAs d written event → Sees scan maps index event seen → AreSeenAsWritten scan maps index d written event seen
seen_as_written scan maps index d written event seen writable is h = record {
  begin = λ kind bytes.
      let found = begin_data d writable in
      let reads : data_read d written.body QUERY_EVENT ≡ Ok (found.0, []) = ap (λ (s : List ℕ). data_read d s QUERY_EVENT) bytes ∙ found.2 in
      let read = one_read d written event is QUERY_EVENT found.0 h.0 kind refl refl (λ none. none) reads h.1 in
      beside_seen d written event is scan maps index seen h roles.Query found.0 (marks.Statement kinds.Begin) None
      (λ role. role_is d written event is QUERY_EVENT role roles.Query kind (λ m i. refl)) (sym (ap (λ (f : Facts). f.rows) found.1)) (sym (ap (λ (f : Facts). f.compressed) found.1))
      (sym (ap (λ (f : Facts). f.mark) found.1)) (sym (ap (λ (f : Facts). f.table_id) found.1)) (data_seen d written event is scan maps index seen h found.0 read);
  commit = λ number kind bytes.
      let found = xid_data d number writable in
      let reads : data_read d written.body XID_EVENT ≡ Ok (found.0, []) = ap (λ (s : List ℕ). data_read d s XID_EVENT) bytes ∙ found.2 in
      let read = one_read d written event is XID_EVENT found.0 h.0 kind refl refl (λ none. none) reads h.1 in
      beside_seen d written event is scan maps index seen h (roles.Known marks.Xid) found.0 marks.Xid None
      (λ role. role_is d written event is XID_EVENT role (roles.Known marks.Xid) kind (λ m i. refl)) (sym (ap (λ (f : Facts). f.rows) found.1))
      (sym (ap (λ (f : Facts). f.compressed) found.1)) (sym (ap (λ (f : Facts). f.own) found.1)) (sym (ap (λ (f : Facts). f.table_id) found.1))
      (data_seen d written event is scan maps index seen h found.0 read);
  map = λ map kind reads. map_seen d written event is scan maps index seen h map kind reads;
  rows = λ content kind spells. any_rows_seen d written event is scan maps index seen h content kind spells;
}
