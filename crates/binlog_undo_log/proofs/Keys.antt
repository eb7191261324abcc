-- The last field of the optional metadata that states the primary key.
use Rattle.std.proofs.Common.{◌≡◌, ℕ, Bool, List, [], ◌∷◌, ◌++◌, None, Some, Option, Result, Ok, Err, inl, inr, refl, sym, ap, subst, ◌∙◌}
use Rattle.std.proofs.lemmas.List.{reverse-append}
use Rattle.std.specs.Iterator.{Yields}
use Rattle.binlog_optional_metadata.specs.AllFields.{AreFields, contents_of, last_field}
use Rattle.binlog_optional_metadata.specs.Fields.{Content}
use Rattle.binlog_optional_metadata.specs.FieldStates.{GivesField}
use Rattle.binlog_optional_metadata.specs.FieldsLeft.{FieldContent, first_field, answer_field_content}
use Rattle.binlog_optional_metadata.specs.declared.class_counts.ClassCounts.{ClassCounts}
use Rattle.binlog_optional_metadata.specs.declared.field.OptionalMetadataField.{OptionalMetadataField}
use Rattle.binlog_optional_metadata.specs.declared.metadata_error.OptionalMetadataError.{OptionalMetadataError}
use Rattle.binlog_optional_metadata.specs.declared.optional_metadata.OptionalMetadata.{OptionalMetadata}
use Rattle.binlog_columns.specs.Metadata.{Typed}
use Rattle.binlog_consts.specs.declared.event_type.EventType.{EventType}
use Rattle.binlog_rows.specs.declared.rows_event_data.RowsEventData.{RowsEventData}
use Rattle.binlog_rows.specs.declared.table_map_event.TableMapEvent.{TableMapEvent}
use Rattle.binlog_undo.specs.InverseEvents.{GivesInverse, ChecksInverse}
use Rattle.binlog_undo.specs.declared.inverse_event.ForeignKeyChecks.{ForeignKeyChecks}
use Rattle.binlog_undo.specs.declared.inverse_event.InverseEvent.{InverseEvent}
use Rattle.binlog_undo.specs.declared.undo_error.UndoError.{UndoError}
use Rattle.binlog_undo.specs.declared.undo_error.UndoError.TheVariants as undo_errors
use Rattle.binlog_undo_log.specs.Keys.{states_key, newer_key, LeavesKey, GivesAtOnce, GivesByKey, ChecksByKey}

abbrev Items : Type 0
Items = List (Result OptionalMetadataField OptionalMetadataError)

-- The fields that were given.
abbrev pub fields_of : Items → List FieldContent
fields_of [] = []
fields_of (item ∷ items) = answer_field_content item ∷ fields_of items

-- The last one of them that states the primary key.
abbrev pub key_in : List FieldContent → Option Content
key_in fields = last_field states_key (contents_of fields)

given_by : (items : Items) (metadata end : OptionalMetadata) → Yields GivesField metadata items end → end.rest.now ≡ [] → AreFields metadata.counts metadata.rest.now (fields_of items)
given_by [] metadata end same none = subst (λ (m : OptionalMetadata). m.rest.now ≡ []) (sym same) none
given_by (item ∷ items) metadata end h none =
    let counts : h.0.counts ≡ metadata.counts = h.1.2 in
    let rest : h.0.rest.now ≡ (first_field metadata.counts metadata.rest.now).1 = ap (λ (x : FieldContent × List ℕ). x.1) h.1.1 in
    let others : AreFields metadata.counts h.0.rest.now (fields_of items) = subst (λ (c : ClassCounts). AreFields c h.0.rest.now (fields_of items)) counts (given_by items h.0 end h.2 none) in (
      h.1.0,
      ap (λ (x : FieldContent × List ℕ). x.0) h.1.1,
      subst (λ (s : List ℕ). AreFields metadata.counts s (fields_of items)) rest others,
    )

-- What an iteration gave up to the end are the fields of its bytes.
pub given_to_end : (metadata end after : OptionalMetadata) (items : Items) (key : Option Content) → Yields GivesField metadata items end → GivesField end None after
    → key ≡ key_in (fields_of items) → LeavesKey metadata.counts metadata.rest.now key
given_to_end metadata end after items key given ends is = record { fields = fields_of items; are = given_by items metadata end given ends.0; last = is }

fields_more : (items : Items) (item : Result OptionalMetadataField OptionalMetadataError) → fields_of (items ++ item ∷ []) ≡ fields_of items ++ answer_field_content item ∷ []
fields_more [] item = refl
fields_more (first ∷ items) item = ap (λ (fields : List FieldContent). answer_field_content first ∷ fields) (fields_more items item)

content_more : (fields : List FieldContent) (content : Content) → contents_of (fields ++ Ok content ∷ []) ≡ contents_of fields ++ content ∷ []
content_more [] content = refl
content_more (Ok first ∷ fields) content = ap (λ (contents : List Content). first ∷ contents) (content_more fields content)
content_more (Err e ∷ fields) content = content_more fields content

no_content_more : (fields : List FieldContent) (e : OptionalMetadataError) → contents_of (fields ++ Err e ∷ []) ≡ contents_of fields
no_content_more [] e = refl
no_content_more (Ok first ∷ fields) e = ap (λ (contents : List Content). first ∷ contents) (no_content_more fields e)
no_content_more (Err other ∷ fields) e = no_content_more fields e

key_more : (contents : List Content) (content : Content) → newer_key (last_field states_key contents) (Ok content) ≡ last_field states_key (contents ++ content ∷ [])
key_more contents content = rw (reverse-append contents (content ∷ [])) refl

keys_more : (fields : List FieldContent) (field : FieldContent) → newer_key (key_in fields) field ≡ key_in (fields ++ field ∷ [])
keys_more fields (Ok content) = key_more (contents_of fields) content ∙ ap (λ (contents : List Content). last_field states_key contents) (sym (content_more fields content))
keys_more fields (Err e) = ap (λ (contents : List Content). last_field states_key contents) (sym (no_content_more fields e))

-- One more item of the iteration.
pub item_taken : (items : Items) (item : Result OptionalMetadataField OptionalMetadataError) (old new : Option Content) → old ≡ key_in (fields_of items)
    → new ≡ newer_key old (answer_field_content item) → new ≡ key_in (fields_of (items ++ item ∷ []))
item_taken items item old new so_far is =
    is ∙ ap (λ (found : Option Content). newer_key found (answer_field_content item)) so_far ∙ keys_more (fields_of items) (answer_field_content item)
    ∙ ap (λ (fields : List FieldContent). key_in fields) (sym (fields_more items item))

-- ---- rows that are undone by a key

pub at_once : (columns : List Typed) (checks : ForeignKeyChecks) (rows : RowsEventData) (answer : Result InverseEvent UndoError) → ¬ (answer ≡ Err undo_errors.Image)
    → GivesInverse [] columns checks rows answer → GivesAtOnce columns checks rows answer
at_once columns checks rows (Ok inverse) not h = h
at_once columns checks rows (Err (undo_errors.Event error)) not h = h
at_once columns checks rows (Err (undo_errors.Rows error)) not h = h
at_once columns checks rows (Err undo_errors.Image) not h = absurd (not refl)
at_once columns checks rows (Err (undo_errors.PartialJson row)) not h = h
at_once columns checks rows (Err undo_errors.Memory) not h = h

-- The rows are undone with some primary key, or none.
pub some_key : (is_maria_log : Bool) (map : TableMapEvent) (columns : List Typed) (checks : ForeignKeyChecks) (rows : RowsEventData) (inverse : InverseEvent)
    → GivesByKey is_maria_log map columns checks rows (Ok inverse) → (key : List ℕ) × GivesInverse key columns checks rows (Ok inverse)
some_key is_maria_log map columns checks rows inverse (inl h) = (h.key, h.gives)
some_key is_maria_log map columns checks rows inverse (inr h) = ([], h)

-- The same of a check.
pub some_checked : (is_maria_log : Bool) (map : TableMapEvent) (columns : List Typed) (rows : RowsEventData) (event_type : EventType)
    → ChecksByKey is_maria_log map columns rows (Ok event_type) → (key : List ℕ) × ChecksInverse key columns rows (Ok event_type)
some_checked is_maria_log map columns rows event_type (inl h) = (h.key, h.gives)
some_checked is_maria_log map columns rows event_type (inr h) = ([], h)

-- What a check refuses isn't undone, for the same reason.
pub refused_alike : (is_maria_log : Bool) (map : TableMapEvent) (columns : List Typed) (checks : ForeignKeyChecks) (rows : RowsEventData) (error : UndoError)
    → ChecksByKey is_maria_log map columns rows (Err error) → GivesByKey is_maria_log map columns checks rows (Err error)
refused_alike is_maria_log map columns checks rows error (inl h) = inl (record { lacks = h.lacks; key = h.key; is_key = h.is_key; gives = h.gives })
refused_alike is_maria_log map columns checks rows (undo_errors.Event error) (inr h) = inr h
refused_alike is_maria_log map columns checks rows (undo_errors.Rows error) (inr h) = inr h
refused_alike is_maria_log map columns checks rows undo_errors.Image (inr h) = absurd h
refused_alike is_maria_log map columns checks rows (undo_errors.PartialJson row) (inr h) = inr h
refused_alike is_maria_log map columns checks rows undo_errors.Memory (inr h) = inr h
