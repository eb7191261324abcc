-- What is written of an event are its data.
use Rattle.std.proofs.Common.{◌≡◌, ℕ, ◌^◌, ◌<◌, List, [], ◌∷◌, ◌++◌, length, Option, Some, None, refl, sym, subst, append_assoc, arith}
use Rattle.std.specs.Prelude.{◌≢◌}
use Rattle.std.proofs.lemmas.List.{append-nil}
use Rattle.binlog_variable_fields.specs.LenEnc.{IsLenEnc, lenenc_written}
use Rattle.binlog_variable_fields.specs.Laws.LenEnc.{lenenc_writes, lenenc_most}
use Rattle.binlog_payloads.specs.declared.compression.TransactionPayloadCompressionType.{TransactionPayloadCompressionType}
use Rattle.binlog_payloads.specs.declared.compression.TransactionPayloadCompressionType.TheVariants as kinds
use Rattle.binlog_payloads.specs.Fields.{Payload, Field, AreFields, IsPayloadEvent, number_of}
use Rattle.binlog_payloads.specs.Writing.{field_written, fields_written, written, Fits}

abbrev number_field : ℕ → ℕ → Field
number_field type n = record { type = type; value = lenenc_written n }

-- A field that is written in front of others.
field_spelled : (type n : ℕ) (fs : List Field) (others rest : List ℕ) → type ≢ 0 → type < 256 ^ 8 → n < 256 ^ 8 → AreFields others fs rest → AreFields (field_written type n ++ others) (number_field type n ∷ fs) rest
field_spelled type n fs others rest known small fits are =
    let w = lenenc_written n in
    let len = lenenc_written (length w) in
    let few : length w < 256 ^ 8 = omega (arith, lenenc_most n) in
    let front : field_written type n ++ others ≡ lenenc_written type ++ ((len ++ w) ++ others) = append_assoc (lenenc_written type) (len ++ w) others in
    let back : (len ++ w) ++ others ≡ len ++ (w ++ others) = append_assoc len w others in (
      known,
      (len ++ w) ++ others,
      subst (λ (s : List ℕ). IsLenEnc s type ((len ++ w) ++ others)) (sym front) (lenenc_writes type ((len ++ w) ++ others) small),
      others,
      subst (λ (s : List ℕ). IsLenEnc s (length w) (w ++ others)) (sym back) (lenenc_writes (length w) (w ++ others) few),
      are,
    )

whole_written : (n : ℕ) → n < 256 ^ 8 → IsLenEnc (lenenc_written n) n []
whole_written n fits = subst (λ (s : List ℕ). IsLenEnc s n []) (append-nil (lenenc_written n)) (lenenc_writes n [] fits)

small_kind : (a : TransactionPayloadCompressionType) → number_of a < 256 ^ 8
small_kind kinds.ZSTD = omega arith
small_kind kinds.NONE = omega arith

last_spelled : (n : ℕ) (payload : List ℕ) → n < 256 ^ 8 → AreFields (field_written 1 n ++ (lenenc_written 0 ++ payload)) (number_field 1 n ∷ []) payload
last_spelled n payload fits = field_spelled 1 n [] (lenenc_written 0 ++ payload) payload (λ e. absurd (omega arith)) (omega arith) fits (lenenc_writes 0 payload (omega arith))

-- Four parts and a payload.
parts : (a s b e payload : List ℕ) → (a ++ (s ++ (b ++ e))) ++ payload ≡ a ++ (s ++ (b ++ (e ++ payload)))
parts a s b e payload = simp append_assoc

written_by : (a : TransactionPayloadCompressionType) (size : Option ℕ) (payload : List ℕ) → Fits (record { algorithm = a; uncompressed_size = size; payload = payload })
    → IsPayloadEvent (fields_written (record { algorithm = a; uncompressed_size = size; payload = payload }) ++ payload) (record { algorithm = a; uncompressed_size = size; payload = payload })
written_by a None payload fits =
    let n = length payload in
    let whole : fields_written (record { algorithm = a; uncompressed_size = None; payload = payload }) ++ payload ≡ field_written 2 (number_of a) ++ (field_written 1 n ++ (lenenc_written 0 ++ payload)) =
    parts (field_written 2 (number_of a)) [] (field_written 1 n) (lenenc_written 0) payload in
    record {
      fields = number_field 2 (number_of a) ∷ number_field 1 n ∷ [];
      spelled = subst (λ (s : List ℕ). AreFields s (number_field 2 (number_of a) ∷ number_field 1 n ∷ []) payload) (sym whole)
          (field_spelled 2 (number_of a) (number_field 1 n ∷ []) (field_written 1 n ++ (lenenc_written 0 ++ payload)) payload (λ e. absurd (omega arith)) (omega arith) (small_kind a) (last_spelled n payload fits.payload));
      payload_size = (lenenc_written n, refl, whole_written n fits.payload);
      algorithm = (lenenc_written (number_of a), refl, whole_written (number_of a) (small_kind a));
      uncompressed_size = refl;
    }
written_by a (Some size) payload fits =
    let n = length payload in
    let whole : fields_written (record { algorithm = a; uncompressed_size = Some size; payload = payload }) ++ payload ≡ field_written 2 (number_of a) ++ (field_written 3 size ++ (field_written 1 n ++ (lenenc_written 0 ++ payload))) =
    parts (field_written 2 (number_of a)) (field_written 3 size) (field_written 1 n) (lenenc_written 0) payload in
    record {
      fields = number_field 2 (number_of a) ∷ number_field 3 size ∷ number_field 1 n ∷ [];
      spelled = subst (λ (s : List ℕ). AreFields s (number_field 2 (number_of a) ∷ number_field 3 size ∷ number_field 1 n ∷ []) payload) (sym whole)
          (field_spelled 2 (number_of a) (number_field 3 size ∷ number_field 1 n ∷ []) (field_written 3 size ++ (field_written 1 n ++ (lenenc_written 0 ++ payload))) payload (λ e. absurd (omega arith)) (omega arith) (small_kind a)
          (field_spelled 3 size (number_field 1 n ∷ []) (field_written 1 n ++ (lenenc_written 0 ++ payload)) payload (λ e. absurd (omega arith)) (omega arith) fits.size (last_spelled n payload fits.payload)));
      payload_size = (lenenc_written n, refl, whole_written n fits.payload);
      algorithm = (lenenc_written (number_of a), refl, whole_written (number_of a) (small_kind a));
      uncompressed_size = (lenenc_written size, refl, whole_written size fits.size);
    }

pub written_spelled : (event : Payload) → Fits event → IsPayloadEvent (written event) event
unfolding written
written_spelled event fits = written_by event.algorithm event.uncompressed_size event.payload fits
