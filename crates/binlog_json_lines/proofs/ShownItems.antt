-- What is shown of items, and noted of their tables.
use Rattle.std.proofs.Common.{◌≡◌, ℕ, Bool, true, false, List, Option, None, Result, Ok, Err, IfOk, refl, sym, subst}
use Rattle.binlog_consts.specs.EventTypes.{event_type_of}
use Rattle.binlog_declared_columns.specs.declared.contradictions.Contradictions.{Contradictions}
use Rattle.binlog_event_format.specs.Headers.{header_of}
use Rattle.binlog_events.specs.Events.{EventView}
use Rattle.binlog_file.specs.TableMapsInForce.{TableMaps}
use Rattle.binlog_filters.specs.RowEvents.{is_of_rows}
use Rattle.binlog_payloads.specs.Events.{payload_in}
use Rattle.binlog_rows.specs.declared.table_map_event.TableMapEvent.{TableMapEvent}
use Rattle.binlog_json_lines.specs.Contradicted.{NotesIf, ShowsItem, ShowsPart}
use Rattle.binlog_json_lines.specs.Lines.{IsRowsLine, IsLineWithoutRows, IsLineOf, map_of_event}
use Rattle.binlog_json_lines.specs.Options.{RowOptions}
use Rattle.binlog_json_lines.specs.PartLines.{IsPartEventLine}

-- The line of an event that is no row event.
pub without_rows : {T E : Type 0} (result : Result T E) (seen : T → List ℕ) (options : RowOptions) (maps : TableMaps) (index : ℕ) (event : EventView) (noted : Contradictions)
    → is_of_rows (event_type_of (header_of event.frame).event_type) ≡ false → IfOk result (λ text. IsLineWithoutRows options.keeps_stored index event (payload_in event) (seen text))
    → IfOk result (λ text. ShowsItem options maps index (Ok event) noted noted (seen text))
without_rows (Ok text) seen options maps index event noted other line = record {
  contradiction = None;
  line = subst (λ (b : Bool). IsLineOf b options (map_of_event maps event) index event None (seen text)) (sym other) (refl, line);
  noted = refl;
}
without_rows (Err e) seen options maps index event noted other line = line

-- The line of a row event, by its table map.
pub with_rows : (options : RowOptions) (maps : TableMaps) (index : ℕ) (event : EventView) (map : Option TableMapEvent) (contradiction : Option ℕ) (old new : Contradictions) (text : List ℕ)
    → is_of_rows (event_type_of (header_of event.frame).event_type) ≡ true → map ≡ map_of_event maps event → IsRowsLine options map index event contradiction text → NotesIf contradiction map old new
    → ShowsItem options maps index (Ok event) old new text
with_rows options maps index event map contradiction old new text rows is line noted = record {
  contradiction = contradiction;
  line = subst (λ (b : Bool). IsLineOf b options (map_of_event maps event) index event contradiction text) (sym rows)
      (subst (λ (m : Option TableMapEvent). IsRowsLine options m index event contradiction text) is line);
  noted = subst (λ (m : Option TableMapEvent). NotesIf contradiction m old new) is noted;
}

-- The line of an event inside, by its table map.
pub of_part : (options : RowOptions) (maps : TableMaps) (index number : ℕ) (event : EventView) (map : Option TableMapEvent) (contradiction : Option ℕ) (old new : Contradictions) (text : List ℕ)
    → map ≡ map_of_event maps event → IsPartEventLine options map index number event contradiction text → NotesIf contradiction map old new → ShowsPart options maps index number (Ok event) old new text
of_part options maps index number event map contradiction old new text is line noted = record {
  contradiction = contradiction;
  line = subst (λ (m : Option TableMapEvent). IsPartEventLine options m index number event contradiction text) is line;
  noted = subst (λ (m : Option TableMapEvent). NotesIf contradiction m old new) is noted;
}
