-- Fields that count for nothing.
use Rattle.std.proofs.Common.{◌≡◌, refl}
use Rattle.binlog_optional_metadata.specs.FieldValues.{content_of}
use Rattle.binlog_optional_metadata.specs.declared.default_charset.DefaultCharset.{DefaultCharset}
use Rattle.binlog_optional_metadata.specs.declared.field.OptionalMetadataField.{OptionalMetadataField}
use Rattle.binlog_optional_metadata.specs.declared.field.OptionalMetadataField.TheVariants as fields
use Rattle.binlog_optional_metadata.specs.declared.member_lists.MemberLists.{MemberLists}
use Rattle.binlog_optional_metadata.specs.declared.metadata_bits.MetadataBits.{MetadataBits}
use Rattle.binlog_optional_metadata.specs.declared.names.Names.{Names}
use Rattle.binlog_optional_metadata.specs.declared.numbers.Numbers.{Numbers}
use Rattle.binlog_optional_metadata.specs.Stated.{Stated}
use Rattle.binlog_optional_metadata.specs.StatedFields.{with_field}

-- A field of none of these kinds changes nothing.
pub other_field : (stated : Stated) (field : OptionalMetadataField)
    → ((x : MetadataBits) → field ≡ fields.Signedness x → ⊥) → ((x : DefaultCharset) → field ≡ fields.DefaultCharset x → ⊥) → ((x : Numbers) → field ≡ fields.ColumnCharset x → ⊥)
    → ((x : Names) → field ≡ fields.ColumnName x → ⊥) → ((x : MemberLists) → field ≡ fields.EnumStrValue x → ⊥) → ((x : MemberLists) → field ≡ fields.SetStrValue x → ⊥)
    → ((x : DefaultCharset) → field ≡ fields.EnumAndSetDefaultCharset x → ⊥) → ((x : Numbers) → field ≡ fields.EnumAndSetColumnCharset x → ⊥)
    → stated ≡ with_field stated (content_of field)
other_field stated (fields.Signedness x) a b c d e f g h = absurd (a x refl)
other_field stated (fields.DefaultCharset x) a b c d e f g h = absurd (b x refl)
other_field stated (fields.ColumnCharset x) a b c d e f g h = absurd (c x refl)
other_field stated (fields.ColumnName x) a b c d e f g h = absurd (d x refl)
other_field stated (fields.EnumStrValue x) a b c d e f g h = absurd (e x refl)
other_field stated (fields.SetStrValue x) a b c d e f g h = absurd (f x refl)
other_field stated (fields.GeometryType x) a b c d e f g h = refl
other_field stated (fields.SimplePrimaryKey x) a b c d e f g h = refl
other_field stated (fields.PrimaryKeyWithPrefix x) a b c d e f g h = refl
other_field stated (fields.EnumAndSetDefaultCharset x) a b c d e f g h = absurd (g x refl)
other_field stated (fields.EnumAndSetColumnCharset x) a b c d e f g h = absurd (h x refl)
other_field stated (fields.ColumnVisibility x) a b c d e f g h = refl
other_field stated (fields.VectorDimensionality x) a b c d e f g h = refl
other_field stated (fields.Other n x) a b c d e f g h = refl
