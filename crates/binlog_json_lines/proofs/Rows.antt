-- The rows of an event as the value of a member.
use Rattle.std.proofs.Common.{◌≡◌, ◌||◌, Bool, true, false, not, List, [], ◌∷◌, ◌++◌, codes, Option, None, Some, Result, Ok, Err, IfOk, refl, sym, ap, subst, ◌∙◌, append_assoc}
use Rattle.json.specs.Token.{Token, key}
use Rattle.json_line.specs.Tokens.{text_value, member}
use Rattle.binlog_events.specs.Events.{EventView}
use Rattle.binlog_rows.specs.RowsData.{event_in}
use Rattle.binlog_rows.specs.declared.rows_event_data.RowsEventData.{RowsEventData}
use Rattle.binlog_optional_metadata.specs.declared.column_facts.ColumnFacts.{ColumnFacts}
use Rattle.binlog_json_values.specs.Written.{ShowsRows}
use Rattle.binlog_rows.specs.declared.rows_event.RowsEvent as rows_events
use Rattle.binlog_rows.specs.declared.table_map_event.TableMapEvent.{TableMapEvent}
use Rattle.binlog_images.specs.EventRows.{AreRowsOf}
use Rattle.binlog_images.specs.declared.rows.Rows.{Rows}
use Rattle.binlog_images.specs.declared.rows_error.RowsEventError.{RowsEventError}
use Rattle.column_files.specs.declared.tables.DeclaredTables.{DeclaredTables}
use Rattle.binlog_json_lines.specs.declared.row_members.ShownRows.{ShownRows}
use Rattle.binlog_json_lines.specs.RowMembers.{name_of, nothing_shown, rows_error, StatesColumns, AreReadRows, ShowsStatedRows, AreRowsMembers, AreMappedMembers, map_for, AreEventMembers, IsFlavour, AreMembersOf}
use Rattle.binlog_json_lines.specs.ItemLines.{data_member}
use Rattle.binlog_json_lines.specs.Options.{RowOptions}
use Rattle.binlog_json_lines.specs.RowsAndData.{AreRowsAndData}
use Rattle.binlog_json_lines.specs.Refusals.{refusal_value, metadata_member}
use Rattle.binlog_filters.specs.RowEvents.{rows_event_of}
use Rattle.binlog_optional_metadata.specs.declared.metadata_error.OptionalMetadataError.{OptionalMetadataError}
use Rattle.binlog_json_bodies.specs.Rows.{row_event_object}
use Rattle.binlog_json_bodies.specs.Shown.{Appended, ShowsBy}
use Rattle.binlog_json_lines.proofs.ReadRows.{data_of_rows}

-- The rows that are written are those of the event.
pub rows_value : {E : Type 0} (result : Result ShownRows E) (files : List DeclaredTables) (is_maria_log is_partial : Bool) (map : TableMapEvent) (event : rows_events.RowsEvent) (rows : Rows) (old new : List Token)
    → AreRowsOf is_partial map event rows
    → IfOk result (λ shown. ShowsStatedRows files is_maria_log map rows shown old new) → ShowsBy result old new (AreReadRows files is_maria_log is_partial map event)
rows_value (Ok shown) files is_maria_log is_partial map event rows old new all shows =
    let split = rw (all.shape, all.first, all.bytes) at shows.appended.are in
    record {
      tokens = metadata_member shows.refusal ++ member (codes "rows") shows.appended.shown.tokens;
      are = record {
        facts = shows.facts;
        refusal = shows.refusal;
        stated = shows.stated;
        items = shows.appended.items;
        split = split;
        all = shows.appended.read;
        rows = shows.appended.shown.tokens;
        rows_are = shows.appended.shown.are;
        are = refl;
      };
      is = rw shows.appended.shown.is (simp append_assoc);
    }
rows_value (Err e) files is_maria_log is_partial map event rows old new all shows = shows

-- The rows with what is stated of their columns.
pub stated_rows : (files : List DeclaredTables) (is_maria_log : Bool) (map : TableMapEvent) (facts : List ColumnFacts) (refusal : Option OptionalMetadataError) (rows : Rows) (shown : ShownRows)
    (old stated keyed new : List Token) → StatesColumns files is_maria_log map facts refusal shown.contradiction
    → stated ≡ old ++ metadata_member refusal → keyed ≡ stated ++ key (codes "rows") ∷ []
    → ShowsRows facts rows shown.all_read keyed new → ShowsStatedRows files is_maria_log map rows shown old new
stated_rows files is_maria_log map facts refusal rows shown old stated keyed new states metadata rows_key appended = record {
  facts = facts;
  refusal = refusal;
  stated = states;
  appended = subst (λ (front : List Token). ShowsRows facts rows shown.all_read front new) (rows_key ∙ ap (λ (front : List Token). front ++ key (codes "rows") ∷ []) metadata) appended;
}

-- The name of the table, and then the rows.
pub mapped_members : {E : Type 0} (result : Result ShownRows E) (files : List DeclaredTables) (is_maria_log : Bool) (body : RowsEventData) (map : TableMapEvent) (old named first new : List Token)
    → named ≡ old ++ key (codes "table") ∷ [] → first ≡ named ++ text_value (name_of map)
    → ShowsBy result first new (AreRowsMembers files is_maria_log body map (rows_error map body)) → ShowsBy result old new (AreMappedMembers files is_maria_log body map)
mapped_members (Ok shown) files is_maria_log body map old named first new name table appended = record {
  tokens = member (codes "table") (text_value (name_of map)) ++ appended.tokens;
  are = record { rows = appended.tokens; read = appended.are; are = refl };
  is = rw (appended.is, table, name) (simp append_assoc);
}
mapped_members (Err e) files is_maria_log body map old named first new name table appended = appended

-- ---- the data behind the rows

or_true : (a : Bool) → (a || true) ≡ true
or_true true = refl
or_true false = refl

-- What isn't a row event has data alone.
pub data_alone : (options : RowOptions) (event : EventView) (map : Option TableMapEvent) (old new : List Token) → rows_event_of event ≡ None → new ≡ old ++ data_member true event
    → Appended (AreRowsAndData options map event None) old new
data_alone options event map old new none added = record {
  tokens = data_member true event;
  are = record {
    shown = nothing_shown;
    rows = [];
    read = subst (λ (found : Option RowsEventData). AreMembersOf options.files event map found nothing_shown []) (sym none) (refl, refl);
    found = refl;
    is = ap (λ (has : Bool). data_member has event) (sym (or_true options.keeps_stored));
  };
  is = added;
}

-- The members of a row event, and its data behind them.
pub rows_and_data : (options : RowOptions) (event : EventView) (is_maria_log : Bool) (map : Option TableMapEvent) (body : RowsEventData) (shown : ShownRows) (has_stored_rows : Bool) (old named keyed new : List Token)
    → rows_event_of event ≡ Some body → IsFlavour event is_maria_log → has_stored_rows ≡ (options.keeps_stored || not shown.all_read)
    → Appended (AreEventMembers options.files is_maria_log body (map_for (event_in body) map) shown) old named
    → keyed ≡ named ++ key (codes "data") ∷ [] → new ≡ keyed ++ row_event_object has_stored_rows body
    → Appended (AreRowsAndData options map event shown.contradiction) old new
rows_and_data options event is_maria_log map body shown has_stored_rows old named keyed new is flavour has members keys added =
    let object : List Token = row_event_object has_stored_rows body in
    record {
      tokens = members.tokens ++ data_member has_stored_rows event;
      are = record {
        shown = shown;
        rows = members.tokens;
        read = subst (λ (found : Option RowsEventData). AreMembersOf options.files event map found shown members.tokens) (sym is) (is_maria_log, flavour, members.are);
        found = refl;
        is = ap (λ (b : Bool). members.tokens ++ data_member b event) has;
      };
      is = added ∙ ap (λ (l : List Token). l ++ object) (keys ∙ ap (λ (l : List Token). l ++ key (codes "data") ∷ []) members.is)
          ∙ append_assoc (old ++ members.tokens) (key (codes "data") ∷ []) object ∙ append_assoc old members.tokens (key (codes "data") ∷ object)
          ∙ ap (λ (l : List Token). old ++ (members.tokens ++ key (codes "data") ∷ l)) (sym (data_of_rows has_stored_rows event body is));
    }

-- The member `rows` with what is in the place of the rows.
pub refused_members : {E : Type 0} (result : Result ShownRows E) (files : List DeclaredTables) (is_maria_log : Bool) (body : RowsEventData) (map : TableMapEvent) (error : RowsEventError) (found : Option RowsEventError)
    (old new : List Token) → found ≡ Some error → IfOk result (λ shown. (shown ≡ nothing_shown) × (new ≡ old ++ member (codes "rows") (refusal_value error)))
    → ShowsBy result old new (AreRowsMembers files is_maria_log body map found)
refused_members (Ok shown) files is_maria_log body map error found old new is (nothing, added) = record {
  tokens = member (codes "rows") (refusal_value error);
  are = subst (λ (f : Option RowsEventError). AreRowsMembers files is_maria_log body map f shown (member (codes "rows") (refusal_value error))) (sym is) (nothing, refl);
  is = added;
}
refused_members (Err e) files is_maria_log body map error found old new is given = given
