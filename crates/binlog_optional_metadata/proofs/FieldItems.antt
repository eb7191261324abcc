-- An iteration gives the fields of the bytes.
use Rattle.std.proofs.Common.{◌≡◌, ℕ, List, [], ◌∷◌, ◌++◌, None, Some, Option, Result, Ok, Err, refl, sym, ap, subst, ◌∙◌}
use Rattle.std.proofs.lemmas.List.{reverse-append}
use Rattle.std.specs.Iterator.{Yields}
use Rattle.binlog_optional_metadata.specs.Fields.{Content}
use Rattle.binlog_optional_metadata.specs.FieldStates.{GivesField}
use Rattle.binlog_optional_metadata.specs.FieldValues.{content_of}
use Rattle.binlog_optional_metadata.specs.FieldsLeft.{FieldContent, first_field, answer_field_content}
use Rattle.binlog_optional_metadata.specs.declared.class_counts.ClassCounts.{ClassCounts}
use Rattle.binlog_optional_metadata.specs.declared.field.OptionalMetadataField.{OptionalMetadataField}
use Rattle.binlog_optional_metadata.specs.declared.metadata_error.OptionalMetadataError.{OptionalMetadataError}
use Rattle.binlog_optional_metadata.specs.declared.optional_metadata.OptionalMetadata.{OptionalMetadata}
use Rattle.binlog_optional_metadata.specs.AllFields.{AreFields, contents_of, first_refusal}
use Rattle.binlog_optional_metadata.specs.Stated.{Stated, stated_in}
use Rattle.binlog_optional_metadata.specs.StatedFields.{with_field, with_content, with_refusal, LeavesFields}

abbrev Items : Type 0
Items = List (Result OptionalMetadataField OptionalMetadataError)

-- The fields that were given.
abbrev pub fields_of : Items → List FieldContent
fields_of [] = []
fields_of (item ∷ items) = answer_field_content item ∷ fields_of items

-- What was taken of the fields so far: those that count, and why the first is refused that is.
pub record Taken (items : Items) (stated : Stated) (refusal : Option OptionalMetadataError) : Type 0 where
  pub last : stated ≡ stated_in (contents_of (fields_of items))
  pub first : refusal ≡ first_refusal (fields_of items)

-- ---- all that were given are the fields

given_by : (items : Items) (metadata end : OptionalMetadata) → Yields GivesField metadata items end → end.rest.now ≡ [] → AreFields metadata.counts metadata.rest.now (fields_of items)
given_by [] metadata end same none = subst (λ (m : OptionalMetadata). m.rest.now ≡ []) (sym same) none
given_by (item ∷ items) metadata end h none =
    let counts : h.0.counts ≡ metadata.counts = h.1.2 in
    let rest : h.0.rest.now ≡ (first_field metadata.counts metadata.rest.now).1 = ap (λ (x : FieldContent × List ℕ). x.1) h.1.1 in
    let others : AreFields metadata.counts h.0.rest.now (fields_of items) = subst (λ (c : ClassCounts). AreFields c h.0.rest.now (fields_of items)) counts (given_by items h.0 end h.2 none) in (
      h.1.0,
      ap (λ (x : FieldContent × List ℕ). x.0) h.1.1,
      subst (λ (s : List ℕ). AreFields metadata.counts s (fields_of items)) rest others,
    )

-- What an iteration gave up to the end are the fields of its bytes.
pub given_to_end : (metadata end after : OptionalMetadata) (items : Items) (stated : Stated) (refusal : Option OptionalMetadataError) → Yields GivesField metadata items end
    → GivesField end None after → Taken items stated refusal → LeavesFields metadata.counts metadata.rest.now stated refusal
given_to_end metadata end after items stated refusal given ends taken =
    record { fields = fields_of items; are = given_by items metadata end given ends.0; last = taken.last; first = taken.first }

-- ---- one at a time

fields_more : (items : Items) (item : Result OptionalMetadataField OptionalMetadataError) → fields_of (items ++ item ∷ []) ≡ fields_of items ++ answer_field_content item ∷ []
fields_more [] item = refl
fields_more (first ∷ items) item = ap (λ (fields : List FieldContent). answer_field_content first ∷ fields) (fields_more items item)

content_more : (fields : List FieldContent) (content : Content) → contents_of (fields ++ Ok content ∷ []) ≡ contents_of fields ++ content ∷ []
content_more [] content = refl
content_more (Ok first ∷ fields) content = ap (λ (contents : List Content). first ∷ contents) (content_more fields content)
content_more (Err e ∷ fields) content = content_more fields content

no_content_more : (fields : List FieldContent) (e : OptionalMetadataError) → contents_of (fields ++ Err e ∷ []) ≡ contents_of fields
no_content_more [] e = refl
no_content_more (Ok first ∷ fields) e = ap (λ (contents : List Content). first ∷ contents) (no_content_more fields e)
no_content_more (Err other ∷ fields) e = no_content_more fields e

refusal_more : (fields : List FieldContent) (field : FieldContent) → with_refusal (first_refusal fields) field ≡ first_refusal (fields ++ field ∷ [])
refusal_more [] (Ok content) = refl
refusal_more [] (Err e) = refl
refusal_more (Ok first ∷ fields) field = refusal_more fields field
refusal_more (Err other ∷ fields) (Ok content) = refl
refusal_more (Err other ∷ fields) (Err e) = refl

stated_more : (fields : List Content) (field : Content) → with_field (stated_in fields) field ≡ stated_in (fields ++ field ∷ [])
stated_more fields field = rw (reverse-append fields (field ∷ [])) refl

contents_more : (fields : List FieldContent) (field : FieldContent) → with_content (stated_in (contents_of fields)) field ≡ stated_in (contents_of (fields ++ field ∷ []))
contents_more fields (Ok content) = stated_more (contents_of fields) content ∙ ap (λ (contents : List Content). stated_in contents) (sym (content_more fields content))
contents_more fields (Err e) = ap (λ (contents : List Content). stated_in contents) (sym (no_content_more fields e))

-- One more item of the iteration.
pub item_taken : (items : Items) (item : Result OptionalMetadataField OptionalMetadataError) (old new : Stated) (before refusal : Option OptionalMetadataError) → Taken items old before
    → new ≡ with_content old (answer_field_content item) → refusal ≡ with_refusal before (answer_field_content item) → Taken (items ++ item ∷ []) new refusal
item_taken items item old new before refusal so_far is first = record {
  last = is ∙ ap (λ (stated : Stated). with_content stated (answer_field_content item)) so_far.last ∙ contents_more (fields_of items) (answer_field_content item)
      ∙ ap (λ (fields : List FieldContent). stated_in (contents_of fields)) (sym (fields_more items item));
  first = first ∙ ap (λ (earlier : Option OptionalMetadataError). with_refusal earlier (answer_field_content item)) so_far.first ∙ refusal_more (fields_of items) (answer_field_content item)
      ∙ ap (λ (fields : List FieldContent). first_refusal fields) (sym (fields_more items item));
}
