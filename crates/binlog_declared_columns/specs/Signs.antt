-- Whether optional metadata states which columns are UNSIGNED.
use Rattle.std.specs.Prelude.{◌≡◌, ◌||◌, Bool, false, List, [], ◌∷◌, Ok, Err}
use Rattle.binlog_optional_metadata.specs.AllFields.{AreFields, states_signedness}
use Rattle.binlog_optional_metadata.specs.FieldsLeft.{FieldContent}
use Rattle.binlog_optional_metadata.specs.declared.optional_metadata.OptionalMetadata.{OptionalMetadata}

-- The field states it.
abbrev pub is_sign_field : FieldContent → Bool
is_sign_field (Ok content) = states_signedness content
is_sign_field (Err e) = false

-- A field that is read states it.
abbrev pub states_signs : List FieldContent → Bool
states_signs [] = false
states_signs (field ∷ fields) = is_sign_field field || states_signs fields

-- So the fields that are left say, if it isn't known before.
abbrev pub IsStated : OptionalMetadata → Bool → Bool → Type 0
IsStated metadata before result = (fields : List FieldContent) → AreFields metadata.counts metadata.rest.now fields → result ≡ (before || states_signs fields)
