-- What a visitor that writes a line for each item makes of an output, and which tables it notes.
use Rattle.std.proofs.Common.{◌≡◌, ℕ, ◌+◌, ◌&&◌, Bool, true, false, ◌||◌, List, [], ◌∷◌, ◌++◌, Option, None, Some, Result, refl, sym, ap, subst, ◌∙◌, is_err, bytes_eq, unwrap_or, if◌then◌else◌}
use Rattle.std.specs.Option.{option_or}
use Rattle.std.specs.Io.KnownBytes.{Appends}
use Rattle.std.proofs.KnownBytes.{Appends-nil, Appends-trans}
use Rattle.binlog_wire.specs.declared.error.Error.{Error}
use Rattle.binlog_events.specs.Events.{EventView}
use Rattle.binlog_rows.specs.declared.table_map_event.TableMapEvent.{TableMapEvent}
use Rattle.binlog_file.specs.TableMapsInForce.{TableMaps}
use Rattle.binlog_visits.specs.TableMaps.{maps_behind}
use Rattle.binlog_visits.specs.Visits.{VisitRelation, Visits}
use Rattle.binlog_declared_columns.specs.Contradictions.{column_of}
use Rattle.binlog_declared_columns.specs.declared.contradictions.Contradictions.{Contradictions}
use Rattle.binlog_json_lines.specs.Contradicted.{NotesIf, IsFirstIn, map_of_item, own_column}
use Rattle.binlog_json_lines.specs.Lines.{WritesLine}
use Rattle.binlog_json_lines.specs.Options.{RowOptions}
use Rattle.binlog_json_lines.specs.Output.{AreLines, WritesLines, has_errors_in}
use Rattle.binlog_json_lines.specs.RowMembers.{schema_in, table_in}

-- A visit writes the line of the item, and notes an error and the table that contradicts the files. The options stay as they were.
pub record WritesOne {T : Type 0} (contents : T → Option (List ℕ)) (options : T → RowOptions) (errors : T → Bool) (noted : T → Contradictions)
    (old : T) (maps : TableMaps) (index : ℕ) (item : Result EventView Error) (new : T) : Type 0 where
  pub contradiction : Option ℕ
  pub line : WritesLine (options old) maps index item contradiction (contents old) (contents new)
  pub notes : NotesIf contradiction (map_of_item maps item) (noted old) (noted new)
  pub error : errors new ≡ errors old || is_err item
  pub kept : options new ≡ options old

-- The same as a visitor with options of its own says it, of which contracts see `meaning`.
abbrev pub VisitsLines : {T O : Type 0} (contents : T → Option (List ℕ)) (own : T → O) (meaning : O → RowOptions) (errors : T → Bool) (noted : T → Contradictions) → VisitRelation T
VisitsLines contents own meaning errors noted old maps index item new = (contradiction : Option ℕ)
    × WritesLine (meaning (own old)) maps index item contradiction (contents old) (contents new)
    × NotesIf contradiction (map_of_item maps item) (noted old) (noted new)
    × (errors new ≡ (errors old || is_err item)) × (own new ≡ own old)

pub of_options : {T O : Type 0} (contents : T → Option (List ℕ)) (own : T → O) (meaning : O → RowOptions) (errors : T → Bool) (noted : T → Contradictions)
    (old : T) (maps : TableMaps) (index : ℕ) (item : Result EventView Error) (new : T) → VisitsLines contents own meaning errors noted old maps index item new
    → WritesOne contents (λ t. meaning (own t)) errors noted old maps index item new
of_options contents own meaning errors noted old maps index item new visited =
    record { contradiction = visited.0; line = visited.1; notes = visited.2; error = visited.3; kept = ap meaning visited.4 }

pub or_more : (a b c : Bool) → (a || b) || c ≡ a || (b || c)
or_more true b c = refl
or_more false b c = refl

pub or_none : (a : Bool) → a ≡ a || false
or_none true = refl
or_none false = refl

pub or_some : (a b c : Option ℕ) → option_or (option_or a b) c ≡ option_or a (option_or b c)
or_some None b c = refl
or_some (Some x) b c = refl

pub or_nothing : (a : Option ℕ) → a ≡ option_or a None
or_nothing None = refl
or_nothing (Some x) = refl

or_column : (is_own : Bool) (was : Option ℕ) (column : ℕ) → (if is_own then Some (unwrap_or was column) else was) ≡ option_or was (if is_own then Some column else None)
or_column true None column = refl
or_column true (Some x) column = refl
or_column false was column = or_nothing was

or_own : (is_own : Bool) (was : Option ℕ) → was ≡ option_or was (if is_own then None else None)
or_own true was = or_nothing was
or_own false was = or_nothing was

or_no_column : (map : Option TableMapEvent) (schema table : List ℕ) (was : Option ℕ) → was ≡ option_or was (own_column map schema table None)
or_no_column None schema table was = or_nothing was
or_no_column (Some map) schema table was = or_own (bytes_eq (schema_in map) schema && bytes_eq (table_in map) table) was

-- What is noted of one table.
pub noted_of : (contradiction : Option ℕ) (map : Option TableMapEvent) (old new : Contradictions) (schema table : List ℕ) → NotesIf contradiction map old new
    → column_of new schema table ≡ option_or (column_of old schema table) (own_column map schema table contradiction)
noted_of None map old new schema table notes =
    ap (λ (tables : Contradictions). column_of tables schema table) notes ∙ or_no_column map schema table (column_of old schema table)
noted_of (Some column) None old new schema table notes =
    ap (λ (tables : Contradictions). column_of tables schema table) notes ∙ or_nothing (column_of old schema table)
noted_of (Some column) (Some map) old new schema table notes =
    notes schema table ∙ or_column (bytes_eq (schema_in map) schema && bytes_eq (table_in map) table) (column_of old schema table) column

-- The first column of a table that contradicts the files, and what is known of the table behind the items.
pub record NotesFirst (options : RowOptions) (maps : TableMaps) (index : ℕ) (items : List (Result EventView Error)) (schema table : List ℕ) (old new : Option ℕ) : Type 0 where
  pub found : Option ℕ
  pub first : IsFirstIn options maps index items schema table found
  pub noted : new ≡ option_or old found

module _ {T : Type 0} (contents : T → Option (List ℕ)) (options : T → RowOptions) (errors : T → Bool) (noted : T → Contradictions) (visits : VisitRelation T)
    (writes : (old : T) (maps : TableMaps) (index : ℕ) (item : Result EventView Error) (new : T) → visits old maps index item new → WritesOne contents options errors noted old maps index item new) where
  pub lines_of : (maps : TableMaps) (index : ℕ) (items : List (Result EventView Error)) (old new : T) → Visits visits maps index items old new
      → WritesLines (options old) maps index items (contents old) (contents new)
  lines_of maps index [] old new visited = record {
    text = [];
    lines = refl;
    written = subst (λ (t : T). Appends (contents old) (contents t) []) (sym visited) (Appends-nil (contents old));
  }
  lines_of maps index (item ∷ items) old new visited =
      let mid = visited.0 in
      let wrote = writes old (maps_behind maps item) index item mid visited.1 in
      let one = wrote.line in
      let rest = lines_of (maps_behind maps item) (index + 1) items mid new visited.2 in
      let others = subst (λ (kept : RowOptions). AreLines kept (maps_behind maps item) (index + 1) items rest.text) wrote.kept rest.lines in
      record {
        text = one.text ++ rest.text;
        lines = (one.text, (wrote.contradiction, one.line), rest.text, others, refl);
        written = Appends-trans (contents old) (contents mid) (contents new) one.text rest.text one.written rest.written;
      }

  pub errors_of : (maps : TableMaps) (index : ℕ) (items : List (Result EventView Error)) (old new : T) → Visits visits maps index items old new
      → errors new ≡ errors old || has_errors_in items
  errors_of maps index [] old new visited = ap errors visited ∙ or_none (errors old)
  errors_of maps index (item ∷ items) old new visited =
      let mid = visited.0 in
      let one = (writes old (maps_behind maps item) index item mid visited.1).error in
      errors_of (maps_behind maps item) (index + 1) items mid new visited.2 ∙ ap (λ (b : Bool). b || has_errors_in items) one ∙ or_more (errors old) (is_err item) (has_errors_in items)

  pub first_of : (maps : TableMaps) (index : ℕ) (items : List (Result EventView Error)) (old new : T) (schema table : List ℕ) → Visits visits maps index items old new
      → NotesFirst (options old) maps index items schema table (column_of (noted old) schema table) (column_of (noted new) schema table)
  first_of maps index [] old new schema table visited =
      record { found = None; first = refl; noted = ap (λ (t : T). column_of (noted t) schema table) visited ∙ or_nothing (column_of (noted old) schema table) }
  first_of maps index (item ∷ items) old new schema table visited =
      let mid = visited.0 in
      let wrote = writes old (maps_behind maps item) index item mid visited.1 in
      let own = own_column (map_of_item (maps_behind maps item) item) schema table wrote.contradiction in
      let one = noted_of wrote.contradiction (map_of_item (maps_behind maps item) item) (noted old) (noted mid) schema table wrote.notes in
      let rest = first_of (maps_behind maps item) (index + 1) items mid new schema table visited.2 in
      let others = subst (λ (kept : RowOptions). IsFirstIn kept (maps_behind maps item) (index + 1) items schema table rest.found) wrote.kept rest.first in
      record {
        found = option_or own rest.found;
        first = (wrote.line.text, wrote.contradiction, wrote.line.line, rest.found, others, refl);
        noted = rest.noted ∙ ap (λ (was : Option ℕ). option_or was rest.found) one ∙ or_some (column_of (noted old) schema table) own rest.found;
      }
