-- Fields, one at a time.
use Rattle.std.proofs.Common.{◌≡◌, ℕ, ◌<◌, List, [], ◌∷◌, length, Some, None, Ok, Err, refl, arith}
use Rattle.binlog_wire.specs.declared.error.Error.{Error}
use Rattle.binlog_wire.specs.Fields.{IsBytes}
use Rattle.binlog_wire.specs.Reading.{Refusal, Read, ends, invalid, other_type, Refuses}
use Rattle.binlog_columns.specs.RefusalLaws.{error_as, same_kind}
use Rattle.binlog_optional_metadata.specs.Fields.{Content, content, field}
use Rattle.binlog_optional_metadata.specs.FieldsLeft.{FieldContent, whole_content, field_taken}
use Rattle.binlog_optional_metadata.specs.Kinds.{kind_as, kind_of}
use Rattle.binlog_optional_metadata.specs.declared.class_counts.ClassCounts.{ClassCounts}
use Rattle.binlog_optional_metadata.specs.declared.metadata_error.OptionalMetadataErrorKind.TheVariants.{LeftOver}

kind_of_error : (d : Refusal) → kind_of (error_as d) ≡ kind_as d
kind_of_error ends = refl
kind_of_error (invalid why) = refl
kind_of_error (other_type number) = refl

-- An error is of the kind of its refusal.
pub kind_is : {V : Type 0} (e : Error) (read : Read V) → Refuses ⊥ e read → (d : Refusal) × (read ≡ Err d) × (kind_of e ≡ kind_as d)
kind_is e read h = same_kind kind_of kind_as kind_of_error e read h

-- A content is refused.
pub content_refused : (number : ℕ) (read : Read Content) (e : Error) → Refuses ⊥ e read
    → whole_content number read ≡ Err (record { kind = kind_of e; field_type = Some number })
content_refused number read e h =
    let d = kind_is e read h in
    rw (d.1, d.2) refl

some_left : (number : ℕ) (c : Content) (rest : List ℕ) → 0 < length rest
    → whole_content number (Ok (c, rest)) ≡ Err (record { kind = LeftOver; field_type = Some number })
some_left number c [] h = absurd (omega arith)
some_left number c (byte ∷ rest) h = refl

-- Bytes are left after a content.
pub content_left_over : (number : ℕ) (read : Read Content) (c : Content) (rest : List ℕ) → read ≡ Ok (c, rest) → 0 < length rest
    → whole_content number read ≡ Err (record { kind = LeftOver; field_type = Some number })
content_left_over number read c rest is some = rw is (some_left number c rest some)

nothing_left : (number : ℕ) (c : Content) (rest : List ℕ) → length rest ≡ 0 → whole_content number (Ok (c, rest)) ≡ Ok c
nothing_left number c [] h = refl
nothing_left number c (byte ∷ rest) h = absurd (omega (arith, h))

-- A content is all of the bytes.
pub content_taken : (number : ℕ) (read : Read Content) (c : Content) (rest : List ℕ) → read ≡ Ok (c, rest) → length rest ≡ 0
    → whole_content number read ≡ Ok c
content_taken number read c rest is none = rw is (nothing_left number c rest none)

-- A field is taken, and its content is read or refused.
pub field_given : (counts : ClassCounts) (read : Read (ℕ × List ℕ)) (number : ℕ) (bytes rest : List ℕ) (c : FieldContent) → read ≡ Ok ((number, bytes), rest)
    → c ≡ whole_content number ((content counts number).reads bytes) → (c, rest) ≡ field_taken counts read
field_given counts read number bytes rest c is same = rw (is, same) refl

-- The type or the length of a field is refused.
pub field_refused : (counts : ClassCounts) (read : Read (ℕ × List ℕ)) (e : Error) → Refuses ⊥ e read
    → field_taken counts read ≡ (Err (record { kind = kind_of e; field_type = None }), [])
field_refused counts read e h =
    let d = kind_is e read h in
    rw (d.1, d.2) refl

-- A field takes two bytes at least.
pub shorter_field : (s m : List ℕ) (x : ℕ × List ℕ) → IsBytes s → field.reads s ≡ Ok (x, m) → length m < length s
shorter_field s m x fits read = omega (arith, field.long s x m (field.keeps.sound s (x, m) fits read).0)
