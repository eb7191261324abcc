-- Whether the fields of optional metadata state signs, field by field.
use Rattle.std.proofs.Common.{◌≡◌, ℕ, Bool, true, false, ◌||◌, List, [], ◌∷◌, None, Some, Result, refl, sym, ap, subst, ◌∙◌}
use Rattle.binlog_optional_metadata.specs.AllFields.{AreFields}
use Rattle.binlog_optional_metadata.specs.FieldStates.{GivesField}
use Rattle.binlog_optional_metadata.specs.FieldsLeft.{FieldContent, first_field, answer_field_content}
use Rattle.binlog_optional_metadata.specs.declared.class_counts.ClassCounts.{ClassCounts}
use Rattle.binlog_optional_metadata.specs.declared.field.OptionalMetadataField.{OptionalMetadataField}
use Rattle.binlog_optional_metadata.specs.declared.metadata_error.OptionalMetadataError.{OptionalMetadataError}
use Rattle.binlog_optional_metadata.specs.declared.optional_metadata.OptionalMetadata.{OptionalMetadata}
use Rattle.binlog_declared_columns.specs.Signs.{is_sign_field, states_signs, IsStated}

-- All fields state signs exactly if those before do, or those that are left.
pub record IsRest (now : OptionalMetadata) (before : Bool) (fields : List FieldContent) : Type 0 where
  pub left : List FieldContent
  pub are : AreFields now.counts now.rest.now left
  pub same : states_signs fields ≡ before || states_signs left

abbrev pub IsLeft : (start now : OptionalMetadata) → Bool → Type 0
IsLeft start now before = (fields : List FieldContent) → AreFields start.counts start.rest.now fields → IsRest now before fields

pub all_left : (start : OptionalMetadata) → IsLeft start start false
all_left start = λ fields are. record { left = fields; are = are; same = refl }

or_more : (a b c : Bool) → a || (b || c) ≡ (a || b) || c
or_more true b c = refl
or_more false b c = refl

or_none : (a : Bool) → a || false ≡ a
or_none true = refl
or_none false = refl

one_less : (now next : OptionalMetadata) (item : Result OptionalMetadataField OptionalMetadataError) (before : Bool) (fields left : List FieldContent) → AreFields now.counts now.rest.now left
    → states_signs fields ≡ before || states_signs left → GivesField now (Some item) next → IsRest next (before || is_sign_field (answer_field_content item)) fields
one_less now next item before fields [] are same gives = absurd (gives.0 are)
one_less now next item before fields (first ∷ left) are same gives =
    let is_first : answer_field_content item ≡ first = ap (λ (x : FieldContent × List ℕ). x.0) gives.1 ∙ sym are.1 in
    let rest : next.rest.now ≡ (first_field now.counts now.rest.now).1 = ap (λ (x : FieldContent × List ℕ). x.1) gives.1 in
    record {
      left = left;
      are = subst (λ (c : ClassCounts). AreFields c next.rest.now left) (sym gives.2) (subst (λ (s : List ℕ). AreFields now.counts s left) (sym rest) are.2);
      same = same ∙ or_more before (is_sign_field first) (states_signs left) ∙ ap (λ (field : FieldContent). (before || is_sign_field field) || states_signs left) (sym is_first);
    }

-- A field was given.
pub left_behind : (start now next : OptionalMetadata) (item : Result OptionalMetadataField OptionalMetadataError) (before after : Bool) → IsLeft start now before → GivesField now (Some item) next
    → after ≡ before || is_sign_field (answer_field_content item) → IsLeft start next after
left_behind start now next item before after so_far gives is = λ fields are.
    let rest = so_far fields are in
    subst (λ (b : Bool). IsRest next b fields) (sym is) (one_less now next item before fields rest.left rest.are rest.same gives)

none_left : (now next : OptionalMetadata) (before : Bool) (fields left : List FieldContent) → AreFields now.counts now.rest.now left → states_signs fields ≡ before || states_signs left → GivesField now None next
    → before ≡ states_signs fields
none_left now next before fields [] are same gives = sym (or_none before) ∙ sym same
none_left now next before fields (first ∷ left) are same gives = absurd (are.0 gives.0)

-- No field is left.
pub ended : (start now next : OptionalMetadata) (before : Bool) → IsLeft start now before → GivesField now None next → IsStated start false before
ended start now next before so_far gives = λ fields are.
    let rest = so_far fields are in
    none_left now next before fields rest.left rest.are rest.same gives

-- What is stated before stays so, and else the field says it.
pub stays : (before field : Bool) → before ≡ true → before ≡ before || field
stays true field is = refl
stays false field is = absurd cc

pub turns : (before field after : Bool) → before ≡ false → after ≡ field → after ≡ before || field
turns true field after is says = absurd cc
turns false field after is says = says
