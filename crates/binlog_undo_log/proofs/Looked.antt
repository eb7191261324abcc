-- What is seen, one condition after the other.
use Rattle.std.proofs.Common.{◌≡◌, ℕ, Bool, true, false, List, [], ◌∷◌, length, Option, Some, None, Result, Ok, Err, IfOk, IfErr, IfSome, OnOk, refl, sym, subst, inr, ◌<◌, ◌^◌}
use Rattle.std.proofs.lemmas.Bool.{eqb-true}
use Rattle.std.proofs.lemmas.List.{nil_from_length}
use Rattle.std.specs.Prelude.{◌==◌, ◌&&◌}
use Rattle.std.specs.Ordering.{nat_cmp}
use Rattle.std.specs.BTreeMap.{get}
use Rattle.binlog_columns.specs.Metadata.{Typed}
use Rattle.binlog_columns.specs.Refusals.{refusal, columns_in}
use Rattle.binlog_columns.specs.declared.column_error.ColumnError.{ColumnError}
use Rattle.binlog_events.specs.Events.{EventView}
use Rattle.binlog_file.specs.TableMapsInForce.{TableMaps}
use Rattle.binlog_rows.specs.RowsData.{event_in}
use Rattle.binlog_rows.specs.declared.rows_event_data.RowsEventData.{RowsEventData}
use Rattle.binlog_rows.specs.declared.table_map_event.TableMapEvent.{TableMapEvent}
use Rattle.binlog_visits.specs.Visits.{VisitsVerifiedLog}
use Rattle.binlog_wire.specs.declared.error.Error.{Error}
use Rattle.binlog_wire.specs.declared.error.Error.TheVariants.{Memory}
use Rattle.crc32_ieee.specs.Checksums.{IsCrc32}
use Rattle.binlog_undo_log.specs.Files.{scans, refuses, ScansFile}
use Rattle.binlog_undo_log.specs.Looking.{AsksFor, IsUnknownTemporal, LooksAtColumns, LooksUnlessOld, LooksUnlessRefused, LooksAtTable, LooksIfAsked, LooksIfMapped, LooksByPlace, LooksWithoutBytes, LooksAtEmpty, LooksIfAny, LooksAtRows, left_if_undone, id_of}
use Rattle.binlog_undo_log.specs.Scanning.{EndsScan}
use Rattle.binlog_undo_log.specs.declared.scan.seeing.RowsLook.{RowsLook}
use Rattle.binlog_undo_log.specs.declared.scan.UndoScan.{UndoScan}

-- ---- truth values

pub both_and : (b other is : Bool) → b ≡ true → is ≡ other → is ≡ (b && other)
both_and true other is h e = e
both_and false other is h e = absurd cc

pub none_and : (b other : Bool) → b ≡ false → b ≡ (b && other)
none_and true other h = absurd cc
none_and false other h = refl

pub on_ok : {P Q : Type 0} (answer : Result (Unit {0}) Error) → (P → Q) → OnOk answer P → OnOk answer Q
on_ok (Ok done) to h = to h
on_ok (Err error) to h = tt

-- ---- rows

pub table_if : (answer : Result RowsLook Error) (scan : UndoScan) (event : EventView) (rows : RowsEventData) (map : TableMapEvent) (table_map : ℕ) (types metadata : List ℕ)
    (columns : List Typed) (old : Bool) → types ≡ map.columns.types → metadata ≡ map.columns.metadata → refusal 0 types metadata ≡ None → columns ≡ columns_in types metadata
    → IsUnknownTemporal scan.choice.has_plain_temporal event types old → old ≡ false → IfOk answer (LooksAtColumns scan event rows map columns table_map) → IfOk answer (LooksAtTable scan event rows map table_map)
table_if (Ok look) scan event rows map table_map types metadata columns old t m none same is off h =
    let taken : refusal 0 map.columns.types map.columns.metadata ≡ None =
    subst (λ (s : List ℕ). refusal 0 s map.columns.metadata ≡ None) t (subst (λ (s : List ℕ). refusal 0 types s ≡ None) m none) in
    let columns_are : columns ≡ columns_in map.columns.types map.columns.metadata =
    subst (λ (s : List ℕ). columns ≡ columns_in s map.columns.metadata) t (subst (λ (s : List ℕ). columns ≡ columns_in types s) m same) in
    let last : LooksAtColumns scan event rows map (columns_in map.columns.types map.columns.metadata) table_map look =
    subst (λ (l : List Typed). LooksAtColumns scan event rows map l table_map look) columns_are h in
    let unless : LooksUnlessRefused None scan event rows map table_map look = (
      old,
      subst (λ (s : List ℕ). IsUnknownTemporal scan.choice.has_plain_temporal event s old) t is,
      subst (λ (b : Bool). LooksUnlessOld b scan event rows map (columns_in map.columns.types map.columns.metadata) table_map look) (sym off) last,
    ) in
    subst (λ (r : Option ColumnError). LooksUnlessRefused r scan event rows map table_map look) (sym taken) unless
table_if (Err error) scan event rows map table_map types metadata columns old t m none same is off h = tt

any_looked : (bytes : List ℕ) (scan : UndoScan) (maps : TableMaps) (event : EventView) (rows : RowsEventData) (look : RowsLook) → (length bytes == 0) ≡ false
    → LooksByPlace (get nat_cmp scan.index.maps (id_of rows)) scan maps event rows look → LooksIfAny bytes scan maps event rows look
any_looked [] scan maps event rows look any h = absurd cc
any_looked (byte ∷ bytes) scan maps event rows look any h = h

pub mapped_if : (answer : Result RowsLook Error) (scan : UndoScan) (maps : TableMaps) (event : EventView) (rows : RowsEventData) (map : TableMapEvent) (table_map : ℕ) (asked : Bool)
    → maps (id_of rows) ≡ Some map → AsksFor scan.choice maps event asked → IfOk answer (LooksIfAsked asked scan event rows map table_map)
    → IfOk answer (LooksByPlace (Some table_map) scan maps event rows)
mapped_if (Ok look) scan maps event rows map table_map asked mapped asks h =
    subst (λ (m : Option TableMapEvent). LooksIfMapped m scan maps event rows table_map look) (sym mapped) (asked, asks, h)
mapped_if (Err error) scan maps event rows map table_map asked mapped asks h = tt

pub rows_if : (answer : Result RowsLook Error) (scan : UndoScan) (maps : TableMaps) (event : EventView) (rows : RowsEventData) (bytes : List ℕ) (table_map : ℕ)
    → bytes ≡ (event_in rows).rows → (length bytes == 0) ≡ false → get nat_cmp scan.index.maps (id_of rows) ≡ Some table_map
    → IfOk answer (LooksByPlace (Some table_map) scan maps event rows) → IfOk answer (LooksAtRows scan maps event rows)
rows_if (Ok look) scan maps event rows bytes table_map are any at h =
    let by_place : LooksByPlace (get nat_cmp scan.index.maps (id_of rows)) scan maps event rows look =
    subst (λ (p : Option ℕ). LooksByPlace p scan maps event rows look) (sym at) h in
    subst (λ (s : List ℕ). LooksIfAny s scan maps event rows look) are (any_looked bytes scan maps event rows look any by_place)
rows_if (Err error) scan maps event rows bytes table_map are any at h = tt

-- ---- an event without bytes

empty_looked : (bytes : List ℕ) (scan : UndoScan) (maps : TableMaps) (event : EventView) (rows : RowsEventData) (look : RowsLook) → (length bytes == 0) ≡ true
    → LooksAtEmpty scan maps event rows look → LooksIfAny bytes scan maps event rows look
empty_looked bytes scan maps event rows look none h =
    subst (λ (s : List ℕ). LooksIfAny s scan maps event rows look) (sym (nil_from_length bytes (eqb-true (length bytes) 0 none))) h

pub empty_if : (answer : Result RowsLook Error) (scan : UndoScan) (maps : TableMaps) (event : EventView) (rows : RowsEventData) (bytes : List ℕ)
    → bytes ≡ (event_in rows).rows → (length bytes == 0) ≡ true → IfOk answer (LooksAtEmpty scan maps event rows) → IfOk answer (LooksAtRows scan maps event rows)
empty_if (Ok look) scan maps event rows bytes are none h =
    subst (λ (s : List ℕ). LooksIfAny s scan maps event rows look) are (empty_looked bytes scan maps event rows look none h)
empty_if (Err error) scan maps event rows bytes are none h = tt

pub left_if : (seen look : RowsLook) (scan : UndoScan) (maps : TableMaps) (event : EventView) (rows : RowsEventData) (table_map : ℕ)
    → get nat_cmp scan.index.maps (id_of rows) ≡ Some table_map → LooksByPlace (Some table_map) scan maps event rows seen → look ≡ left_if_undone seen
    → LooksAtEmpty scan maps event rows look
left_if seen look scan maps event rows table_map at placed is =
    subst (λ (p : Option ℕ). LooksWithoutBytes p scan maps event rows look) (sym at) (seen, placed, is)

-- ---- a file

pub file_if : (remaining : Option (List ℕ)) (answer : Result (Unit {0}) Error) (tail_len : Option ℕ) (old mid new : UndoScan)
    → IfSome remaining (λ bytes. length bytes < 2 ^ 64 → VisitsVerifiedLog IsCrc32 scans refuses bytes old (Ok tail_len) mid)
    → OnOk answer (EndsScan mid.is_stopped tail_len mid new) → IfErr answer (λ e. e ≡ Memory)
    → IfSome remaining (λ bytes. length bytes < 2 ^ 64 → ScansFile bytes old answer new)
file_if None answer tail_len old mid new visits ends memory = tt
file_if (Some bytes) (Ok done) tail_len old mid new visits ends memory = λ small. record { tail_len = tail_len; between = mid; visits = visits small; ends = ends }
file_if (Some bytes) (Err error) tail_len old mid new visits ends memory = λ small. inr memory
