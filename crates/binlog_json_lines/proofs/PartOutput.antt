-- What a visitor that writes a line for each item and each part makes of an output, and which tables it notes.
use Rattle.std.proofs.Common.{◌≡◌, ℕ, ◌+◌, Bool, false, ◌||◌, List, [], ◌∷◌, ◌++◌, Option, None, Result, refl, sym, ap, subst, ◌∙◌, is_err}
use Rattle.std.specs.Option.{option_or}
use Rattle.std.specs.Io.KnownBytes.{Appends}
use Rattle.std.proofs.KnownBytes.{Appends-nil, Appends-trans}
use Rattle.binlog_wire.specs.declared.error.Error.{Error}
use Rattle.binlog_events.specs.Events.{EventView}
use Rattle.binlog_file.specs.TableMapsInForce.{TableMaps, no_table_maps}
use Rattle.binlog_visits.specs.TableMaps.{maps_behind}
use Rattle.binlog_visits.specs.Visits.{VisitRelation, Visits}
use Rattle.binlog_declared_columns.specs.Contradictions.{column_of}
use Rattle.binlog_declared_columns.specs.declared.contradictions.Contradictions.{Contradictions}
use Rattle.binlog_payload_visits.specs.Parts.{Part, AreParts, maps_behind_part}
use Rattle.binlog_payload_visits.specs.PartVisits.{PartVisitRelation, VisitsParts, VisitsSpliced}
use Rattle.binlog_payload_visits.specs.declared.spliced.Spliced.{Spliced}
use Rattle.binlog_json_lines.specs.Contradicted.{NotesIf, map_of_item, own_column}
use Rattle.binlog_json_lines.specs.Options.{RowOptions}
use Rattle.binlog_json_lines.specs.PartLines.{WritesPartLine, map_of_part}
use Rattle.binlog_json_lines.specs.PartOutput.{ArePartLines, IsTextIn, AreTexts, WritesTexts, has_part_errors, HaveErrors, IsFirstInside, IsFirstOfAll}
use Rattle.binlog_json_lines.proofs.Output.{WritesOne, or_more, or_none, or_some, or_nothing, noted_of}

-- A visit of a part writes its line, and notes an error and the table that contradicts the files. The options stay as they were.
pub record WritesPart {T : Type 0} (contents : T → Option (List ℕ)) (options : T → RowOptions) (errors : T → Bool) (noted : T → Contradictions)
    (old : T) (maps : TableMaps) (index number : ℕ) (part : Part) (new : T) : Type 0 where
  pub contradiction : Option ℕ
  pub line : WritesPartLine (options old) maps index number part contradiction (contents old) (contents new)
  pub notes : NotesIf contradiction (map_of_part maps part) (noted old) (noted new)
  pub error : errors new ≡ errors old || is_err part
  pub kept : options new ≡ options old

-- The same as a visitor with options of its own says it, of which contracts see `meaning`.
abbrev pub VisitsPartLines : {T O : Type 0} (contents : T → Option (List ℕ)) (own : T → O) (meaning : O → RowOptions) (errors : T → Bool) (noted : T → Contradictions) → PartVisitRelation T
VisitsPartLines contents own meaning errors noted old maps index number part new = (contradiction : Option ℕ)
    × WritesPartLine (meaning (own old)) maps index number part contradiction (contents old) (contents new)
    × NotesIf contradiction (map_of_part maps part) (noted old) (noted new)
    × (errors new ≡ (errors old || is_err part)) × (own new ≡ own old)

pub of_part_options : {T O : Type 0} (contents : T → Option (List ℕ)) (own : T → O) (meaning : O → RowOptions) (errors : T → Bool) (noted : T → Contradictions)
    (old : T) (maps : TableMaps) (index number : ℕ) (part : Part) (new : T) → VisitsPartLines contents own meaning errors noted old maps index number part new
    → WritesPart contents (λ t. meaning (own t)) errors noted old maps index number part new
of_part_options contents own meaning errors noted old maps index number part new visited =
    record { contradiction = visited.0; line = visited.1; notes = visited.2; error = visited.3; kept = ap meaning visited.4 }

-- What the visits of parts leave.
record Inside {T : Type 0} (contents : T → Option (List ℕ)) (options : T → RowOptions) (errors : T → Bool) (maps : TableMaps) (index number : ℕ) (parts : List Part) (old new : T) : Type 0 where
  pub text : List ℕ
  pub lines : ArePartLines (options old) maps index number parts text
  pub written : Appends (contents old) (contents new) text
  pub error : errors new ≡ errors old || has_part_errors parts
  pub kept : options new ≡ options old

record FirstInside (options : RowOptions) (maps : TableMaps) (index number : ℕ) (parts : List Part) (schema table : List ℕ) (old new : Option ℕ) : Type 0 where
  pub found : Option ℕ
  pub first : IsFirstInside options maps index number parts schema table found
  pub noted : new ≡ option_or old found

module _ {T : Type 0} (contents : T → Option (List ℕ)) (options : T → RowOptions) (errors : T → Bool) (noted : T → Contradictions) (visits_part : PartVisitRelation T)
    (writes : (old : T) (maps : TableMaps) (index number : ℕ) (part : Part) (new : T) → visits_part old maps index number part new → WritesPart contents options errors noted old maps index number part new) where
  inside_of : (maps : TableMaps) (index number : ℕ) (parts : List Part) (old new : T) → VisitsParts visits_part maps index number parts old new → Inside contents options errors maps index number parts old new
  inside_of maps index number [] old new visited = record {
    text = [];
    lines = refl;
    written = subst (λ (t : T). Appends (contents old) (contents t) []) (sym visited) (Appends-nil (contents old));
    error = ap errors visited ∙ or_none (errors old);
    kept = ap options visited;
  }
  inside_of maps index number (part ∷ parts) old new visited =
      let mid = visited.0 in
      let one = writes old (maps_behind_part maps part) index number part mid visited.1 in
      let rest = inside_of (maps_behind_part maps part) index (number + 1) parts mid new visited.2 in
      let others = subst (λ (kept : RowOptions). ArePartLines kept (maps_behind_part maps part) index (number + 1) parts rest.text) one.kept rest.lines in
      record {
        text = one.line.text ++ rest.text;
        lines = (one.line.text, (one.contradiction, one.line.line), rest.text, others, refl);
        written = Appends-trans (contents old) (contents mid) (contents new) one.line.text rest.text one.line.written rest.written;
        error = rest.error ∙ ap (λ (b : Bool). b || has_part_errors parts) one.error ∙ or_more (errors old) (is_err part) (has_part_errors parts);
        kept = rest.kept ∙ one.kept;
      }

  first_inside : (maps : TableMaps) (index number : ℕ) (parts : List Part) (old new : T) (schema table : List ℕ) → VisitsParts visits_part maps index number parts old new
      → FirstInside (options old) maps index number parts schema table (column_of (noted old) schema table) (column_of (noted new) schema table)
  first_inside maps index number [] old new schema table visited =
      record { found = None; first = refl; noted = ap (λ (t : T). column_of (noted t) schema table) visited ∙ or_nothing (column_of (noted old) schema table) }
  first_inside maps index number (part ∷ parts) old new schema table visited =
      let mid = visited.0 in
      let one = writes old (maps_behind_part maps part) index number part mid visited.1 in
      let own = own_column (map_of_part (maps_behind_part maps part) part) schema table one.contradiction in
      let column = noted_of one.contradiction (map_of_part (maps_behind_part maps part) part) (noted old) (noted mid) schema table one.notes in
      let rest = first_inside (maps_behind_part maps part) index (number + 1) parts mid new schema table visited.2 in
      let others = subst (λ (kept : RowOptions). IsFirstInside kept (maps_behind_part maps part) index (number + 1) parts schema table rest.found) one.kept rest.first in
      record {
        found = option_or own rest.found;
        first = (one.line.text, one.contradiction, one.line.line, rest.found, others, refl);
        noted = rest.noted ∙ ap (λ (was : Option ℕ). option_or was rest.found) column ∙ or_some (column_of (noted old) schema table) own rest.found;
      }

-- What the visit of an item with its parts leaves.
pub record WritesItem {T : Type 0} (contents : T → Option (List ℕ)) (options : T → RowOptions) (errors : T → Bool) (limit : ℕ) (maps : TableMaps) (index : ℕ) (item : Result EventView Error) (old new : T) : Type 0 where
  pub text : List ℕ
  pub is : IsTextIn limit (options old) maps index item text
  pub written : Appends (contents old) (contents new) text
  pub parts : List Part
  pub are : AreParts limit item parts
  pub error : errors new ≡ errors old || (is_err item || has_part_errors parts)
  pub kept : options new ≡ options old

pub record NotesAll (limit : ℕ) (options : RowOptions) (maps : TableMaps) (index : ℕ) (items : List (Result EventView Error)) (schema table : List ℕ) (old new : Option ℕ) : Type 0 where
  pub found : Option ℕ
  pub first : IsFirstOfAll limit options maps index items schema table found
  pub noted : new ≡ option_or old found

pub record NotesErrors (limit : ℕ) (items : List (Result EventView Error)) (old new : Bool) : Type 0 where
  pub found : Bool
  pub have : HaveErrors limit items found
  pub noted : new ≡ old || found

module _ {T : Type 0} (contents : T → Option (List ℕ)) (options : T → RowOptions) (errors : T → Bool) (noted : T → Contradictions) (visits : VisitRelation T) (visits_part : PartVisitRelation T)
    (writes : (old : T) (maps : TableMaps) (index : ℕ) (item : Result EventView Error) (new : T) → visits old maps index item new → WritesOne contents options errors noted old maps index item new)
    (writes_part : (old : T) (maps : TableMaps) (index number : ℕ) (part : Part) (new : T) → visits_part old maps index number part new → WritesPart contents options errors noted old maps index number part new) where
  pub item_of : (limit : ℕ) (maps : TableMaps) (index : ℕ) (item : Result EventView Error) (old new : T) → VisitsSpliced visits visits_part limit old maps index item new
      → WritesItem contents options errors limit maps index item old new
  item_of limit maps index item old new visited =
      let mid = visited.mid in
      let one = writes old maps index item mid visited.own in
      let rest = inside_of contents options errors noted visits_part writes_part no_table_maps index 0 visited.inside.parts mid new visited.inside.visited in
      record {
        text = one.line.text ++ rest.text;
        is = record {
          own = one.line.text;
          line = (one.contradiction, one.line.line);
          parts = visited.inside.parts;
          are = visited.inside.all;
          inside = rest.text;
          lines = subst (λ (kept : RowOptions). ArePartLines kept no_table_maps index 0 visited.inside.parts rest.text) one.kept rest.lines;
          whole = refl;
        };
        written = Appends-trans (contents old) (contents mid) (contents new) one.line.text rest.text one.line.written rest.written;
        parts = visited.inside.parts;
        are = visited.inside.all;
        error = rest.error ∙ ap (λ (b : Bool). b || has_part_errors visited.inside.parts) one.error ∙ or_more (errors old) (is_err item) (has_part_errors visited.inside.parts);
        kept = rest.kept ∙ one.kept;
      }

  -- The visits of items with their parts.
  abbrev pub SplicesEach : VisitRelation (Spliced T)
  SplicesEach old maps index item new = VisitsSpliced visits visits_part old.limit old.visitor maps index item new.visitor × (new.limit ≡ old.limit)

  pub texts_of : (maps : TableMaps) (index : ℕ) (items : List (Result EventView Error)) (old new : Spliced T) → Visits SplicesEach maps index items old new
      → WritesTexts old.limit (options old.visitor) maps index items (contents old.visitor) (contents new.visitor)
  texts_of maps index [] old new visited = record {
    text = [];
    texts = refl;
    written = subst (λ (t : Spliced T). Appends (contents old.visitor) (contents t.visitor) []) (sym visited) (Appends-nil (contents old.visitor));
  }
  texts_of maps index (item ∷ items) old new visited =
      let mid = visited.0 in
      let one = item_of old.limit (maps_behind maps item) index item old.visitor mid.visitor visited.1.0 in
      let rest = texts_of (maps_behind maps item) (index + 1) items mid new visited.2 in
      let kept = subst (λ (o : RowOptions). AreTexts mid.limit o (maps_behind maps item) (index + 1) items rest.text) one.kept rest.texts in
      let others = subst (λ (l : ℕ). AreTexts l (options old.visitor) (maps_behind maps item) (index + 1) items rest.text) visited.1.1 kept in
      record {
        text = one.text ++ rest.text;
        texts = (one.text, one.is, rest.text, others, refl);
        written = Appends-trans (contents old.visitor) (contents mid.visitor) (contents new.visitor) one.text rest.text one.written rest.written;
      }

  pub all_errors_of : (maps : TableMaps) (index : ℕ) (items : List (Result EventView Error)) (old new : Spliced T) → Visits SplicesEach maps index items old new
      → NotesErrors old.limit items (errors old.visitor) (errors new.visitor)
  all_errors_of maps index [] old new visited = record { found = false; have = refl; noted = ap (λ (t : Spliced T). errors t.visitor) visited ∙ or_none (errors old.visitor) }
  all_errors_of maps index (item ∷ items) old new visited =
      let mid = visited.0 in
      let one = item_of old.limit (maps_behind maps item) index item old.visitor mid.visitor visited.1.0 in
      let rest = all_errors_of (maps_behind maps item) (index + 1) items mid new visited.2 in
      let own = is_err item || has_part_errors one.parts in
      record {
        found = own || rest.found;
        have = (one.parts, one.are, rest.found, subst (λ (l : ℕ). HaveErrors l items rest.found) visited.1.1 rest.have, refl);
        noted = rest.noted ∙ ap (λ (b : Bool). b || rest.found) one.error ∙ or_more (errors old.visitor) own rest.found;
      }

  pub all_first_of : (maps : TableMaps) (index : ℕ) (items : List (Result EventView Error)) (old new : Spliced T) (schema table : List ℕ) → Visits SplicesEach maps index items old new
      → NotesAll old.limit (options old.visitor) maps index items schema table (column_of (noted old.visitor) schema table) (column_of (noted new.visitor) schema table)
  all_first_of maps index [] old new schema table visited =
      record { found = None; first = refl; noted = ap (λ (t : Spliced T). column_of (noted t.visitor) schema table) visited ∙ or_nothing (column_of (noted old.visitor) schema table) }
  all_first_of maps index (item ∷ items) old new schema table visited =
      let mid = visited.0 in
      let both = visited.1.0 in
      let wrote = writes old.visitor (maps_behind maps item) index item both.mid both.own in
      let own = own_column (map_of_item (maps_behind maps item) item) schema table wrote.contradiction in
      let one = noted_of wrote.contradiction (map_of_item (maps_behind maps item) item) (noted old.visitor) (noted both.mid) schema table wrote.notes in
      let parts = first_inside contents options errors noted visits_part writes_part no_table_maps index 0 both.inside.parts both.mid mid.visitor schema table both.inside.visited in
      let inside = subst (λ (o : RowOptions). IsFirstInside o no_table_maps index 0 both.inside.parts schema table parts.found) wrote.kept parts.first in
      let kept = (item_of old.limit (maps_behind maps item) index item old.visitor mid.visitor both).kept in
      let rest = all_first_of (maps_behind maps item) (index + 1) items mid new schema table visited.2 in
      let named = subst (λ (o : RowOptions). IsFirstOfAll mid.limit o (maps_behind maps item) (index + 1) items schema table rest.found) kept rest.first in
      let others = subst (λ (l : ℕ). IsFirstOfAll l (options old.visitor) (maps_behind maps item) (index + 1) items schema table rest.found) visited.1.1 named in
      let was = column_of (noted old.visitor) schema table in
      record {
        found = option_or own (option_or parts.found rest.found);
        first = (wrote.line.text, wrote.contradiction, wrote.line.line, both.inside.parts, both.inside.all, parts.found, inside, rest.found, others, refl);
        noted = rest.noted ∙ ap (λ (c : Option ℕ). option_or c rest.found) parts.noted ∙ ap (λ (c : Option ℕ). option_or (option_or c parts.found) rest.found) one
            ∙ or_some (option_or was own) parts.found rest.found ∙ or_some was own (option_or parts.found rest.found);
      }

-- The limit of contents, and the options of lines.
abbrev pub settings : {T : Type 0} (options : T → RowOptions) → Spliced T → ℕ × RowOptions
settings options spliced = (spliced.limit, options spliced.visitor)

pub same_settings : {T : Type 0} (options : T → RowOptions) (old new : Spliced T) → new.limit ≡ old.limit → options new.visitor ≡ options old.visitor → settings options new ≡ settings options old
same_settings options old new limit kept = ap (λ (l : ℕ). (l, options new.visitor)) limit ∙ ap (λ (o : RowOptions). (old.limit, o)) kept
