-- The fields of a GTID with a tag: a field id and a value, which is a number or bytes.
-- Source: MySQL's source documentation, `Gtid_event`, and the documentation of its serialization library.
use Rattle.std.proofs.Common.{ℕ, suc, ltb, refl, ◌*◌, ◌^◌, ◌<◌, inl, inr, List, eqb, [], ◌∷◌}
use Rattle.binlog_wire.specs.Formats.{anywhere, Format, made, then}
use Rattle.binlog_wire.specs.declared.error.Invalid.TheVariants as kinds
use Rattle.binlog_variable_fields.specs.Formats.{varlen, tested, chosen, times}
use Rattle.binlog_variable_fields.specs.Chosen.{choose}
use Rattle.binlog_variable_fields.specs.Tags.{is_tag}
use Rattle.binlog_variable_fields.specs.VarlenTexts.{varlen_text}
use Rattle.binlog_gtids.specs.FieldIds.{flags_id, sid_id, gno_id, tag_id, last_committed_id, sequence_number_id, immediate_server_version_id, original_server_version_id, last_known_id}
use Rattle.binlog_gtids.specs.TaggedValues.{halved, Value, number_in, bytes_in, is_any, known}
use Rattle.binlog_gtids.specs.Laws.TaggedValues.{halved_choice, known_choice}

-- ---- values

-- A number of at most `max`.
abbrev pub at_most : ℕ → ℕ → Format anywhere ℕ
at_most id max = tested varlen (λ n. refl) (λ n. ltb n (suc max)) (kinds.FieldRange id)

-- A signed number that isn't negative.
abbrev pub not_negative : ℕ → Format anywhere ℕ
not_negative id = chosen (halved id) (λ y. 2 * y) (λ y. y) (λ y. y < 2 ^ 63) varlen (halved_choice id)

-- ---- fields

-- A format whose value is a number.
abbrev pub as_number : Format anywhere ℕ → Format anywhere Value
as_number f = made (λ n. inl n) number_in f (λ s a r h. refl) (λ b. refl)

-- A format whose value is bytes.
abbrev pub as_bytes : Format anywhere (List ℕ) → Format anywhere Value
as_bytes f = made (λ s. inr s) bytes_in f (λ s a r h. refl) (λ b. refl)

-- The format of the value of the field with this id.
abbrev pub value_of_id : ℕ → Format anywhere Value
value_of_id id =
    choose (eqb id flags_id) (as_number (at_most id 255))
    (choose (eqb id sid_id) (as_bytes (times 16 (at_most id 255)))
    (choose (eqb id tag_id) (as_bytes (tested varlen_text (λ t. refl) is_tag kinds.Tag))
    (choose (is_any (gno_id ∷ last_committed_id ∷ sequence_number_id ∷ []) id) (as_number (not_negative id))
    (choose (is_any (immediate_server_version_id ∷ original_server_version_id ∷ []) id) (as_number (at_most id 4294967295))
    (as_number varlen)))))

-- A field id and a value.
abbrev pub Entry : Type 0
Entry = ℕ × Value

-- A known field id and its value.
abbrev pub entry : Format anywhere Entry
entry = then (chosen known (λ id. id) (λ id. id) (λ id. id < suc last_known_id) varlen known_choice) value_of_id
