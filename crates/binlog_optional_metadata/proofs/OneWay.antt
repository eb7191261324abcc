-- The bytes have one list of fields.
use Rattle.std.proofs.Common.{◌≡◌, ℕ, zero, suc, ◌<◌, ◌≤◌, List, [], ◌∷◌, length, Ok, Err, refl, sym, ap, ◌∙◌, arith}
use Rattle.binlog_wire.specs.Fields.{IsBytes}
use Rattle.binlog_wire.specs.Reading.{Read}
use Rattle.binlog_optional_metadata.proofs.Fields.{shorter_field}
use Rattle.binlog_optional_metadata.specs.Fields.{field}
use Rattle.binlog_optional_metadata.specs.FieldsLeft.{FieldContent, field_taken, first_field}
use Rattle.binlog_optional_metadata.specs.declared.class_counts.ClassCounts.{ClassCounts}
use Rattle.binlog_optional_metadata.specs.AllFields.{AreFields}

-- ---- one way

-- Two lists of fields of the same bytes are the same list.
pub one_way : (xs ys : List FieldContent) (counts : ClassCounts) (s : List ℕ) → AreFields counts s xs → AreFields counts s ys → xs ≡ ys
one_way [] [] counts s p q = refl
one_way [] (y ∷ ys) counts s p q = absurd (q.0 p)
one_way (x ∷ xs) [] counts s p q = absurd (p.0 q)
one_way (x ∷ xs) (y ∷ ys) counts s p q =
    let here : x ≡ y = p.1 ∙ sym q.1 in
    let others : xs ≡ ys = one_way xs ys counts (first_field counts s).1 p.2 q.2 in
    cc

-- ---- some way

-- The bytes after a field are fewer.
rest_within : (counts : ClassCounts) (byte : ℕ) (s : List ℕ) (read : Read (ℕ × List ℕ)) → field.reads (byte ∷ s) ≡ read → IsBytes (byte ∷ s)
    → (length (field_taken counts read).1 < length (byte ∷ s)) × IsBytes (field_taken counts read).1
rest_within counts byte s (Ok x) is bytes = (shorter_field (byte ∷ s) x.1 x.0 bytes is, (field.keeps.sound (byte ∷ s) x bytes is).1)
rest_within counts byte s (Err d) is bytes = (omega arith, λ i. omega arith)

some_within : (n : ℕ) (counts : ClassCounts) (s : List ℕ) → length s ≤ n → IsBytes s → (fields : List FieldContent) × AreFields counts s fields
some_within n counts [] most bytes = ([], refl)
some_within zero counts (byte ∷ s) most bytes = absurd (omega (arith, most))
some_within (suc n) counts (byte ∷ s) most bytes =
    let within = rest_within counts byte s (field.reads (byte ∷ s)) refl bytes in
    let more = some_within n counts (first_field counts (byte ∷ s)).1 (omega (arith, most, within.0)) within.1 in
    ((first_field counts (byte ∷ s)).0 ∷ more.0, (λ none. cc, refl, more.1))

-- All bytes have fields.
pub some_way : (counts : ClassCounts) (s : List ℕ) → IsBytes s → (fields : List FieldContent) × AreFields counts s fields
some_way counts s bytes = some_within (length s) counts s (omega arith) bytes
