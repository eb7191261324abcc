-- What is shown of events.
use Rattle.std.proofs.Common.{◌≡◌, ℕ, Bool, true, false, List, [], ◌∷◌, length, Option, Some, Result, Ok, Err, IfOk, OnOk, refl, sym, subst, ap, ◌∙◌}
use Rattle.std.specs.Prelude.{◌==◌}
use Rattle.std.proofs.lemmas.Bool.{eqb-true}
use Rattle.std.proofs.lemmas.List.{nil_from_length}
use Rattle.binlog_wire.specs.declared.error.Error.{Error}
use Rattle.binlog_wire.specs.declared.error.Error.TheVariants.{Memory}
use Rattle.binlog_event_format.specs.Headers.{header_of}
use Rattle.binlog_events.specs.Events.{EventView}
use Rattle.binlog_file.specs.LogData.{ReadsLogData}
use Rattle.binlog_file.specs.declared.log_data.LogEventData.{LogEventData}
use Rattle.binlog_rows.specs.RowsData.{event_in}
use Rattle.binlog_rows.specs.declared.rows_event_data.RowsEventData.{RowsEventData}
use Rattle.binlog_rows.specs.declared.table_map_event.TableMapEvent.{TableMapEvent}
use Rattle.binlog_json_lines.specs.RowMembers.{IsFlavour}
use Rattle.column_files.specs.declared.tables.DeclaredTables.{DeclaredTables}
use Rattle.binlog_change_lines.specs.EventTexts.{has_bytes, ShowsSomeRows, ShowsRows, ShowsRead, ShowsEvent, IsTextAt}
use Rattle.binlog_change_lines.specs.Heads.{Place, place_of}
use Rattle.binlog_change_lines.specs.Mapped.{ShowsMapped}
use Rattle.binlog_change_lines.specs.RowLines.{AreLinesOfEvent}
use Rattle.binlog_change_lines.specs.declared.change_lines.Shown.{Shown}
use Rattle.binlog_change_lines.specs.declared.change_lines.Shown.TheVariants.{Nothing, Rows, Whole}
use Rattle.binlog_change_lines.specs.declared.heads.EventPlace.{EventPlace}
use Rattle.binlog_change_lines.specs.declared.row_lines.RowsHead.{RowsHead}

-- What is shown with the table map is shown of the event.
pub mapped_rows : {E : Type 0} (result : Result Shown E) (files : List DeclaredTables) (head : RowsHead) (event : EventView) (is_maria_log : Bool) (text : List ℕ) → IsFlavour event is_maria_log
    → head.time ≡ (header_of event.frame).timestamp → IfOk result (λ shown. ShowsMapped files is_maria_log head shown text)
    → IfOk result (λ shown. ShowsSomeRows files (place_of head.place.now) event (Some head.table_map.now) true head.body.now shown text)
mapped_rows (Ok Nothing) files head event is_maria_log text flavour time shows = absurd shows
mapped_rows (Ok (Rows contradiction)) files head event is_maria_log text flavour time shows =
    (is_maria_log, flavour, subst (λ (t : ℕ). AreLinesOfEvent files is_maria_log (place_of head.place.now) t head.body.now head.table_map.now contradiction text) time shows)
mapped_rows (Ok Whole) files head event is_maria_log text flavour time shows = shows
mapped_rows (Err e) files head event is_maria_log text flavour time shows = shows

-- Whether there are bytes is known by their number.
none_there : (bytes : List ℕ) → (length bytes == 0) ≡ true → has_bytes bytes ≡ false
none_there bytes none = ap has_bytes (nil_from_length bytes (eqb-true (length bytes) 0 none))

some_there : (bytes : List ℕ) → (length bytes == 0) ≡ false → has_bytes bytes ≡ true
some_there [] some = absurd cc
some_there (byte ∷ bytes) some = refl

pub without_bytes : (files : List DeclaredTables) (place : Place) (event : EventView) (map : Option TableMapEvent) (body : RowsEventData) (bytes text : List ℕ)
    → bytes ≡ (event_in body).rows → (length bytes == 0) ≡ true → ShowsRows files place event map body Whole text
without_bytes files place event map body bytes text are none =
    subst (λ (b : Bool). ShowsSomeRows files place event map b body Whole text) (sym (ap has_bytes (sym are) ∙ none_there bytes none)) refl

pub with_bytes : {E : Type 0} (result : Result Shown E) (files : List DeclaredTables) (place : Place) (event : EventView) (map : Option TableMapEvent) (body : RowsEventData) (bytes text : List ℕ)
    → bytes ≡ (event_in body).rows → (length bytes == 0) ≡ false → IfOk result (λ shown. ShowsSomeRows files place event map true body shown text)
    → IfOk result (λ shown. ShowsRows files place event map body shown text)
with_bytes (Ok shown) files place event map body bytes text are some shows =
    subst (λ (b : Bool). ShowsSomeRows files place event map b body shown text) (sym (ap has_bytes (sym are) ∙ some_there bytes some)) shows
with_bytes (Err e) files place event map body bytes text are some shows = shows

-- What is made of an event by what was read is made of it.
pub shows_event : {E : Type 0} (result : Result Shown E) (files : List DeclaredTables) (place : Place) (event : EventView) (map : Option TableMapEvent) (read : Result (Option LogEventData) Error) (lines : List ℕ)
    → ReadsLogData event read → OnOk result (¬ (read ≡ Err Memory)) → IfOk result (λ shown. ShowsRead files place event map read shown lines)
    → IfOk result (λ shown. ShowsEvent files place event map shown lines)
shows_event (Ok shown) files place event map read lines reads inside shows = record { read = read; reads = reads; is_read = inside; shows = shows }
shows_event (Err e) files place event map read lines reads inside shows = shows

-- The whole line of an event is its text.
pub whole_text : {A E : Type 0} (result : Result A E) (contradiction : A → Option ℕ) (text : A → List ℕ) (IsWhole : Option ℕ → List ℕ → Type 0) (files : List DeclaredTables) (place : Place)
    (map : Option TableMapEvent) (event : EventView) (lines : List ℕ) → ShowsEvent files place event map Whole lines
    → IfOk result (λ line. IsWhole (contradiction line) (text line)) → IfOk result (λ line. IsTextAt IsWhole files place map event (contradiction line) (text line))
whole_text (Ok line) contradiction text IsWhole files place map event lines shows is = record { shown = Whole; lines = lines; shows = shows; is = is }
whole_text (Err e) contradiction text IsWhole files place map event lines shows is = is

abbrev made : List ℕ → Option ℕ → Option ℕ → List ℕ → Place
made file position part gtid = record { file = file; position = position; part = part; gtid = gtid }

-- A place by its parts.
pub placed : (place : EventPlace) (file gtid : List ℕ) → place.file.now ≡ file → place.gtid.now ≡ gtid
    → place_of place ≡ record { file = file; position = place.position; part = place.part; gtid = gtid }
placed place file gtid is_file is_gtid =
    ap (λ (f : List ℕ). made f place.position place.part place.gtid.now) is_file ∙ ap (λ (g : List ℕ). made file place.position place.part g) is_gtid
