-- Documents that were written.
use Rattle.std.proofs.Common.{◌≡◌, ℕ, ◌^◌, ◌<◌, ◌≤◌, true, List, [], ◌∷◌, ◌++◌, length, refl, sym, ap, subst, ◌∙◌, arith}
use Rattle.std.specs.Prelude.{ℤ, pos, negsuc}
use mir.Val.{hbits, SFits}
use Rattle.std.specs.Int.{Width, cast_signed, cast_unsigned}
use Rattle.std.proofs.lemmas.Int.{to_z-of_z}
use Rattle.byteorder.specs.Endian.{little_bytes}
use Rattle.std.proofs.lemmas.Bool.{lt-ltb}
use Rattle.binary_json.specs.Values.{opaque, Json, nesting}
use Rattle.binary_json.specs.Opaques.{is_opaque}
use Rattle.binary_json.specs.Grammar.{IsDocument}
use Rattle.binary_json.specs.Decoding.{document_value}
use Rattle.binary_json.proofs.Documents.{accepted}
use Rattle.binary_json_writing.specs.Written.{counted_bytes, written, written_scalar}
use Rattle.binary_json_writing.specs.Writable.{is_signed, is_writable, is_writable_scalar}
use Rattle.binary_json_writing.proofs.Values.{document_reads}

pub value_back : (v : Json) (s : List ℕ) → s ≡ written v → is_writable v ≡ true → nesting v ≤ 100 → document_value s ≡ v
value_back v s e fits deep = ap document_value e ∙ (accepted (written v) v (document_reads v fits deep)).1

-- What a document of these bytes keeps.
pub record IsKept (s : List ℕ) (v : Json) : Type 0 where
  pub value : document_value s ≡ v
  pub exact : written (document_value s) ≡ s
  pub possible : is_writable (document_value s) ≡ true
  pub deep : nesting v ≡ nesting (document_value s)

pub kept : (v : Json) (s : List ℕ) → s ≡ written v → is_writable v ≡ true → nesting v ≤ 100 → IsKept s v
kept v s e fits deep =
    let back = value_back v s e fits deep in
    record { value = back; exact = ap written back ∙ sym e; possible = ap is_writable back ∙ fits; deep = ap nesting (sym back) }

pub is_document : (s : List ℕ) (n : ℕ) → written (document_value s) ≡ s → is_writable (document_value s) ≡ true → n ≡ nesting (document_value s) → n ≤ 100 → IsDocument s (document_value s)
is_document s n exact fits e few = subst (λ (r : List ℕ). IsDocument r (document_value s)) exact (document_reads (document_value s) fits (omega (arith, e, few)))

pub signed_fits : (w : Width) (z : ℤ) (limit : ℕ) → SFits w z → 2 ^ hbits w ≡ limit → is_signed limit z ≡ true
signed_fits w (pos n) limit fits e = lt-ltb n limit (omega (arith, e, fits.sfits))
signed_fits w (negsuc n) limit fits e = lt-ltb n limit (omega (arith, e, fits.sfits))

pub opaque_is : (column k : ℕ) (s text bytes new : List ℕ) → k ≡ column → text ≡ s → bytes ≡ 15 ∷ (k ∷ []) → new ≡ bytes ++ counted_bytes text → new ≡ written_scalar (opaque column s)
opaque_is column k s text bytes new kind same front whole =
    whole ∙ ap (λ (l : List ℕ). l ++ counted_bytes text) front ∙ ap (λ (j : ℕ). 15 ∷ (j ∷ counted_bytes text)) kind ∙ ap (λ (l : List ℕ). 15 ∷ (column ∷ counted_bytes l)) same

pub opaque_fits : (column : ℕ) (s text : List ℕ) → text ≡ s → length text < 2 ^ 32 → is_opaque column s ≡ true → is_writable_scalar (opaque column s) ≡ true
opaque_fits column s text same few is = rw (← same) (let less = lt-ltb (length text) (2 ^ 32) few in let is_too : is_opaque column text ≡ true = ap (is_opaque column) same ∙ is in rw (less, is_too) refl)

-- What is given of a signed number reads back as it.
pub signed_bytes : (w : Width) (n : ℕ) (z : ℤ) (r : List ℕ) → SFits w z → r ≡ little_bytes n (cast_unsigned w (cast_signed w (cast_unsigned w z))) → r ≡ little_bytes n (cast_unsigned w z)
signed_bytes w n z r fits e = e ∙ ap (λ (y : ℤ). little_bytes n (cast_unsigned w y)) (to_z-of_z w z fits)
