-- The event that was compressed: what is read of its body, and how many rows it has.
use Rattle.std.proofs.Common.{◌≡◌, ℕ, ◌-◌, ◌≤◌, inl, inr, Bool, true, false, List, [], ◌++◌, length, take, Option, Some, None, Result, Ok, Err, refl, sym, ap, subst, ◌∙◌, arith}
use Rattle.std.specs.Prelude.{IfOk}
use Rattle.binlog_wire.specs.Fields.{IsBytes}
use Rattle.binlog_wire.specs.Reading.{read_as}
use Rattle.binlog_wire.specs.declared.error.Error.{Error}
use Rattle.binlog_wire.specs.declared.error.Error.TheVariants as errors
use Rattle.binlog_consts.specs.EventTypes.{event_type_of}
use Rattle.binlog_consts.specs.declared.event_type.EventType.{EventType}
use Rattle.binlog_consts.specs.declared.event_type.EventType.TheVariants as types
use Rattle.binlog_consts.specs.declared.event_type.UnknownEventType.{UnknownEventType}
use Rattle.binlog_event_format.specs.Headers.{header_of}
use Rattle.binlog_event_format.specs.PostHeaders.{post_header}
use Rattle.binlog_event_format.specs.declared.format_description.FormatDescriptionEvent.{FormatDescriptionEvent}
use Rattle.binlog_rows.specs.Rows.{rows}
use Rattle.binlog_rows.specs.RowsData.{event_in}
use Rattle.binlog_rows.specs.declared.rows_form.RowsForm.{RowsForm}
use Rattle.binlog_rows.specs.declared.rows_event.RowsEvent.{RowsEvent}
use Rattle.binlog_rows.specs.declared.rows_event_data.RowsEventData.{RowsEventData}
use Rattle.binlog_rows.specs.declared.rows_event_data.RowsEventData.TheVariants as kinds
use Rattle.binlog_rows.specs.declared.table_map_event.TableMapEvent.{TableMapEvent}
use Rattle.binlog_event_data.specs.ReadData.{TakesMemory, data_read, ReadsAs, ReadsData}
use Rattle.binlog_event_data.specs.declared.event_data.EventData.{EventData}
use Rattle.binlog_event_data.specs.declared.event_data.EventData.TheVariants as mysql
use Rattle.binlog_events.specs.Events.{EventView}
use Rattle.binlog_events.specs.Parts.{data_of}
use Rattle.binlog_mariadb.specs.Compressed.{IsCompressed, Denies}
use Rattle.binlog_mariadb.specs.EventTypes.{maria_event_type_of, maria_event_number, maria_event_type_number}
use Rattle.binlog_mariadb.specs.EventBodies as own
use Rattle.binlog_mariadb.specs.declared.compression_error.CompressionError.{CompressionError}
use Rattle.binlog_mariadb.specs.declared.compression_error.CompressionError.TheVariants as compression
use Rattle.binlog_mariadb.specs.declared.compressed_rows.RowsCompressedEvent.{RowsCompressedEvent}
use Rattle.binlog_mariadb.specs.declared.event_data.MariaEventData.{MariaEventData}
use Rattle.binlog_mariadb.specs.declared.event_data.MariaEventData.TheVariants as maria
use Rattle.binlog_mariadb.specs.declared.event_type.MariaEventType.{MariaEventType}
use Rattle.binlog_mariadb.specs.declared.event_type.MariaEventType.TheVariants as own_types
use Rattle.binlog_mariadb.specs.declared.event_type.UnknownMariaEventType.{UnknownMariaEventType}
use Rattle.binlog_file.specs.LogData.{answer_as}
use Rattle.binlog_file.specs.declared.log_data.LogEventData.TheVariants.{Mysql, Maria}
use Rattle.binlog_images.specs.EventRows.{is_partial}
use Rattle.binlog_statistics.specs.RowCounts.{IsRowCount}
use Rattle.binlog_statistics.specs.CompressedRows.{most_bytes, AreStored, HasNoRows, with_rows, IsStoredCount, uncompressed_type, ReadsCompressed, IsReadCount}
use Rattle.binlog_statistics.proofs.Fronts.{rows_replaced}

-- The body of a compressed event, and of the event that was compressed, whose type has a form of its own.
record Uncompressed (d : FormatDescriptionEvent) (number : ℕ) (s : List ℕ) (compressed : RowsCompressedEvent) : Type 0 where
  form : RowsForm
  type : EventType
  data_as : RowsEvent → RowsEventData
  is_type : event_type_of (uncompressed_type number) ≡ Ok type
  reads : (t : List ℕ) → data_read d t type ≡ read_as (λ (e : RowsEvent). mysql.RowsEvent (data_as e)) ((rows form (post_header d type)).reads t)
  takes_none : ¬ TakesMemory type
  same : (e : RowsEvent) → event_in (data_as e) ≡ e
  whole : (e : RowsEvent) → is_partial (data_as e) ≡ false
  spelled : (rows form (post_header d type)).spells s (event_in compressed.event) []

-- The event in the body that was read.
stands : (form : RowsForm) (post : ℕ) (s : List ℕ) (compressed : RowsCompressedEvent) (data_as : RowsEvent → RowsEventData) → ((e : RowsEvent) → event_in (data_as e) ≡ e) → (e : RowsEvent)
    → ◌≡◌ {A = MariaEventData} (maria.RowsCompressedEvent compressed) (maria.RowsCompressedEvent (record { event = data_as e })) → (rows form post).spells s e [] → (rows form post).spells s (event_in compressed.event) []
stands form post s compressed data_as same e is spelled =
    let inner : compressed ≡ record { event = data_as e } = cc in
    let event : event_in compressed.event ≡ e = ap (λ (c : RowsCompressedEvent). event_in c.event) inner ∙ same e in
    subst (λ (x : RowsEvent). (rows form post).spells s x []) (sym event) spelled

abbrev form_with : (has_extra has_before has_after : Bool) → RowsForm
form_with has_extra has_before has_after = record { has_extra = has_extra; has_before = has_before; has_after = has_after }

by_type : (d : FormatDescriptionEvent) (s : List ℕ) (compressed : RowsCompressedEvent) (type : MariaEventType) → own.StandsIn (own.body_of type d) s (maria.RowsCompressedEvent compressed)
    → Uncompressed d (maria_event_number type) s compressed
by_type d s compressed own_types.ANNOTATE_ROWS_EVENT (e, is, spelled) = absurd cc
by_type d s compressed own_types.BINLOG_CHECKPOINT_EVENT (e, is, spelled) = absurd cc
by_type d s compressed own_types.GTID_EVENT (e, is, spelled) = absurd cc
by_type d s compressed own_types.GTID_LIST_EVENT (e, is, spelled) = absurd cc
by_type d s compressed own_types.START_ENCRYPTION_EVENT (e, is, spelled) = absurd cc
by_type d s compressed own_types.QUERY_COMPRESSED_EVENT (e, is, spelled) = absurd cc
by_type d s compressed own_types.WRITE_ROWS_COMPRESSED_EVENT_V1 (e, is, spelled) = record {
  form = form_with false false true;
  type = types.WRITE_ROWS_EVENT_V1;
  data_as = λ x. kinds.WriteRowsEventV1 x;
  is_type = refl;
  reads = λ t. refl;
  takes_none = λ none. none;
  same = λ x. refl;
  whole = λ x. refl;
  spelled = stands (form_with false false true) (post_header d types.WRITE_ROWS_EVENT_V1) s compressed (λ (x : RowsEvent). kinds.WriteRowsEventV1 x) (λ (x : RowsEvent). refl) e is spelled;
}
by_type d s compressed own_types.UPDATE_ROWS_COMPRESSED_EVENT_V1 (e, is, spelled) = record {
  form = form_with false true true;
  type = types.UPDATE_ROWS_EVENT_V1;
  data_as = λ x. kinds.UpdateRowsEventV1 x;
  is_type = refl;
  reads = λ t. refl;
  takes_none = λ none. none;
  same = λ x. refl;
  whole = λ x. refl;
  spelled = stands (form_with false true true) (post_header d types.UPDATE_ROWS_EVENT_V1) s compressed (λ (x : RowsEvent). kinds.UpdateRowsEventV1 x) (λ (x : RowsEvent). refl) e is spelled;
}
by_type d s compressed own_types.DELETE_ROWS_COMPRESSED_EVENT_V1 (e, is, spelled) = record {
  form = form_with false true false;
  type = types.DELETE_ROWS_EVENT_V1;
  data_as = λ x. kinds.DeleteRowsEventV1 x;
  is_type = refl;
  reads = λ t. refl;
  takes_none = λ none. none;
  same = λ x. refl;
  whole = λ x. refl;
  spelled = stands (form_with false true false) (post_header d types.DELETE_ROWS_EVENT_V1) s compressed (λ (x : RowsEvent). kinds.DeleteRowsEventV1 x) (λ (x : RowsEvent). refl) e is spelled;
}
by_type d s compressed own_types.WRITE_ROWS_COMPRESSED_EVENT (e, is, spelled) = record {
  form = form_with true false true;
  type = types.WRITE_ROWS_EVENT;
  data_as = λ x. kinds.WriteRowsEvent x;
  is_type = refl;
  reads = λ t. refl;
  takes_none = λ none. none;
  same = λ x. refl;
  whole = λ x. refl;
  spelled = stands (form_with true false true) (post_header d types.WRITE_ROWS_EVENT) s compressed (λ (x : RowsEvent). kinds.WriteRowsEvent x) (λ (x : RowsEvent). refl) e is spelled;
}
by_type d s compressed own_types.UPDATE_ROWS_COMPRESSED_EVENT (e, is, spelled) = record {
  form = form_with true true true;
  type = types.UPDATE_ROWS_EVENT;
  data_as = λ x. kinds.UpdateRowsEvent x;
  is_type = refl;
  reads = λ t. refl;
  takes_none = λ none. none;
  same = λ x. refl;
  whole = λ x. refl;
  spelled = stands (form_with true true true) (post_header d types.UPDATE_ROWS_EVENT) s compressed (λ (x : RowsEvent). kinds.UpdateRowsEvent x) (λ (x : RowsEvent). refl) e is spelled;
}
by_type d s compressed own_types.DELETE_ROWS_COMPRESSED_EVENT (e, is, spelled) = record {
  form = form_with true true false;
  type = types.DELETE_ROWS_EVENT;
  data_as = λ x. kinds.DeleteRowsEvent x;
  is_type = refl;
  reads = λ t. refl;
  takes_none = λ none. none;
  same = λ x. refl;
  whole = λ x. refl;
  spelled = stands (form_with true true false) (post_header d types.DELETE_ROWS_EVENT) s compressed (λ (x : RowsEvent). kinds.DeleteRowsEvent x) (λ (x : RowsEvent). refl) e is spelled;
}

-- A compressed row event has one of these types.
body_stands : (d : FormatDescriptionEvent) (number : ℕ) (s : List ℕ) (compressed : RowsCompressedEvent) → IsBytes s → (type : Result MariaEventType UnknownMariaEventType) → type ≡ maria_event_type_of number
    → own.ReadsAs d s type (Ok (Some (maria.RowsCompressedEvent compressed))) → Uncompressed d number s compressed
body_stands d number s compressed bytes (Ok type) is read =
    let same : number ≡ maria_event_number type = maria_event_type_number number type (sym is) in
    subst (λ (n : ℕ). Uncompressed d n s compressed) (sym same) (by_type d s compressed type ((own.read_where_it_stands (own.body_of type d) s (maria.RowsCompressedEvent compressed) bytes).0 read))
body_stands d number s compressed bytes (Err unknown) is read = absurd cc

-- The event of MariaDB's that was read.
own_read : (compressed : RowsCompressedEvent) (read : Result (Option MariaEventData) Error) → Ok (Some (Maria (maria.RowsCompressedEvent compressed))) ≡ answer_as Maria read
    → read ≡ Ok (Some (maria.RowsCompressedEvent compressed))
own_read compressed (Ok (Some event)) is = cc
own_read compressed (Ok None) is = absurd cc
own_read compressed (Err error) is = absurd cc

not_mysql : (compressed : RowsCompressedEvent) (read : Result (Option EventData) Error) → Ok (Some (Maria (maria.RowsCompressedEvent compressed))) ≡ answer_as Mysql read → ⊥
not_mysql compressed (Ok (Some event)) is = cc
not_mysql compressed (Ok None) is = cc
not_mysql compressed (Err error) is = cc

uncompressed : (event : EventView) (compressed : RowsCompressedEvent) → IsBytes (data_of event.fde.footer event.frame) → ReadsCompressed event compressed
    → Uncompressed event.fde (header_of event.frame).event_type (data_of event.fde.footer event.frame) compressed
uncompressed event compressed bytes (inl (is_own, (read, (type, is, given), answer))) =
    body_stands event.fde (header_of event.frame).event_type (data_of event.fde.footer event.frame) compressed bytes type is
    (subst (λ (r : Result (Option MariaEventData) Error). own.ReadsAs event.fde (data_of event.fde.footer event.frame) type r) (own_read compressed read answer) given)
uncompressed event compressed bytes (inr (is_other, (read, reads, answer))) = absurd (not_mysql compressed read answer)

-- ---- what is read of the body with the rows

-- A body that is read whole is the answer.
whole_answer : (d : FormatDescriptionEvent) (s : List ℕ) (type : EventType) (event : EventData) (read : Result (Option EventData) Error) → ¬ TakesMemory type → data_read d s type ≡ Ok (event, [])
    → ReadsAs d s (Ok type) read → read ≡ Ok (Some event)
whole_answer d s type event (Ok None) takes_none is reads = absurd reads
whole_answer d s type event (Ok (Some other)) takes_none is reads =
    let both : ◌≡◌ {A = EventData × List ℕ} (other, []) (event, []) = cc in
    ap (λ (x : EventData × List ℕ). Ok (Some x.0)) both
whole_answer d s type event (Err (errors.RemainingBytes n)) takes_none is reads =
    let both : ◌≡◌ {A = EventData × List ℕ} (reads.0, reads.1) (event, []) = cc in
    let none : length reads.1 ≡ 0 = ap (λ (x : EventData × List ℕ). length x.1) both in
    absurd (omega (arith, reads.3, reads.4))
whole_answer d s type event (Err errors.EndOfBody) takes_none is reads = absurd cc
whole_answer d s type event (Err (errors.InvalidData why)) takes_none is reads = absurd cc
whole_answer d s type event (Err (errors.WrongEventType number)) takes_none is reads = absurd cc
whole_answer d s type event (Err errors.Memory) takes_none is reads = absurd (takes_none reads)
whole_answer d s type event (Err error) takes_none is reads = absurd reads

-- The rows that are in place of the stored bytes are counted.
count_of_read : (d : FormatDescriptionEvent) (number : ℕ) (s : List ℕ) (compressed : RowsCompressedEvent) (t : List ℕ) (table_map : TableMapEvent) (read : Result (Option EventData) Error) (count : Option ℕ)
    → Uncompressed d number s compressed → ReadsData d (uncompressed_type number) (take (length s - length (event_in compressed.event).rows) s ++ t) read → IsReadCount read table_map count
    → IsRowCount false (with_rows (event_in compressed.event) t) table_map count
count_of_read d number s compressed t table_map read count of (type, is, reads) counted =
    let event : RowsEvent = with_rows (event_in compressed.event) t in
    let body : List ℕ = take (length s - length (event_in compressed.event).rows) s ++ t in
    let spelled = (rows_replaced of.form (post_header d of.type) s (event_in compressed.event) of.spelled).any t in
    let found : data_read d body of.type ≡ Ok (mysql.RowsEvent (of.data_as event), []) =
    of.reads body ∙ ap (read_as (λ (e : RowsEvent). mysql.RowsEvent (of.data_as e))) ((rows of.form (post_header d of.type)).keeps.complete body event [] spelled) in
    let type_is : type ≡ Ok of.type = is ∙ of.is_type in
    let answer : read ≡ Ok (Some (mysql.RowsEvent (of.data_as event))) =
    whole_answer d body of.type (mysql.RowsEvent (of.data_as event)) read of.takes_none found (subst (λ (x : Result EventType UnknownEventType). ReadsAs d body x read) type_is reads) in
    let counted_as : IsRowCount (is_partial (of.data_as event)) (event_in (of.data_as event)) table_map count =
    subst (λ (x : Result (Option EventData) Error). IsReadCount x table_map count) answer counted in
    let counted_whole : IsRowCount false (event_in (of.data_as event)) table_map count = subst (λ (b : Bool). IsRowCount b (event_in (of.data_as event)) table_map count) (of.whole event) counted_as in
    subst (λ (e : RowsEvent). IsRowCount false e table_map count) (of.same event) counted_whole

-- ---- of an event

module _ (event : EventView) (compressed : RowsCompressedEvent) (bytes : IsBytes (data_of event.fde.footer event.frame)) (is : ReadsCompressed event compressed) where
  -- The stored bytes are the last ones.
  pub stored_fit : length (event_in compressed.event).rows ≤ length (data_of event.fde.footer event.frame)
  stored_fit =
      let of = uncompressed event compressed bytes is in
      (rows_replaced of.form (post_header event.fde of.type) (data_of event.fde.footer event.frame) (event_in compressed.event) of.spelled).fits

  pub uncompressed_counted : (t : List ℕ) (table_map : TableMapEvent) (read : Result (Option EventData) Error) (count : Option ℕ)
      → ReadsData event.fde (uncompressed_type (header_of event.frame).event_type) (take (length (data_of event.fde.footer event.frame) - length (event_in compressed.event).rows) (data_of event.fde.footer event.frame) ++ t) read
      → IsReadCount read table_map count → IsRowCount false (with_rows (event_in compressed.event) t) table_map count
  uncompressed_counted t table_map read count reads counted =
      count_of_read event.fde (header_of event.frame).event_type (data_of event.fde.footer event.frame) compressed t table_map read count (uncompressed event compressed bytes is) reads counted

  -- The same of what equals these.
  pub counted_by : (d : FormatDescriptionEvent) (number : ℕ) (s stored body t : List ℕ) (table_map : TableMapEvent) (read : Result (Option EventData) Error) (count : Option ℕ) → d ≡ event.fde
      → number ≡ uncompressed_type (header_of event.frame).event_type → s ≡ data_of event.fde.footer event.frame → stored ≡ (event_in compressed.event).rows → body ≡ take (length s - length stored) s ++ t
      → ReadsData d number body read → IsReadCount read table_map count → IsRowCount false (with_rows (event_in compressed.event) t) table_map count
  counted_by d number s stored body t table_map read count d_is number_is s_is stored_is body_is reads counted =
      let rows : List ℕ = (event_in compressed.event).rows in
      let whole : body ≡ take (length (data_of event.fde.footer event.frame) - length rows) (data_of event.fde.footer event.frame) ++ t =
      body_is ∙ ap (λ (x : List ℕ). take (length s - length x) s ++ t) stored_is ∙ ap (λ (x : List ℕ). take (length x - length rows) x ++ t) s_is in
      let of_fde : ReadsData event.fde number body read = subst (λ (x : FormatDescriptionEvent). ReadsData x number body read) d_is reads in
      let of_type : ReadsData event.fde (uncompressed_type (header_of event.frame).event_type) body read = subst (λ (x : ℕ). ReadsData event.fde x body read) number_is of_fde in
      uncompressed_counted t table_map read count (subst (λ (x : List ℕ). ReadsData event.fde (uncompressed_type (header_of event.frame).event_type) x read) whole of_type) counted

-- ---- the rows that are stored

no_rows : (stored : List ℕ) (error : CompressionError) → Denies most_bytes error stored → ¬ (error ≡ compression.Memory) → HasNoRows stored
no_rows stored compression.Memory denied other = absurd (other refl)
no_rows stored compression.TooLong denied other = denied
no_rows stored error denied other = λ rows is. absurd (denied rows is)

pub stored_counted : (event : RowsEvent) (table_map : TableMapEvent) (stored rows t : List ℕ) (result : Result (Option ℕ) Error) → stored ≡ event.rows → t ≡ rows → IsCompressed stored rows
    → ((others : List ℕ) → IsCompressed stored others → others ≡ rows) → length rows ≤ most_bytes → IfOk result (IsRowCount false (with_rows event t) table_map) → IfOk result (IsStoredCount event table_map)
stored_counted event table_map stored rows t (Ok count) stored_is t_is are only within counted =
    let is : AreStored stored rows = record { are = are; only = only; within = within } in
    inl (rows, subst (λ (s : List ℕ). AreStored s rows) stored_is is, subst (λ (l : List ℕ). IsRowCount false (with_rows event l) table_map count) t_is counted)
stored_counted event table_map stored rows t (Err error) stored_is t_is are only within counted = tt

pub none_stored : (event : RowsEvent) (table_map : TableMapEvent) (stored : List ℕ) (error : CompressionError) → stored ≡ event.rows → Denies most_bytes error stored → ¬ (error ≡ compression.Memory)
    → IsStoredCount event table_map None
none_stored event table_map stored error stored_is denied other = inr (subst HasNoRows stored_is (no_rows stored error denied other), refl)
