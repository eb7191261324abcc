-- Scalars: what is written reads back, whatever stands behind it.
use Rattle.std.proofs.Common.{◌≡◌, ℕ, zero, suc, ◌+◌, ◌*◌, ◌/◌, ◌%◌, ◌^◌, ◌<◌, ◌≤◌, Bool, true, false, cond, List, [], ◌∷◌, ◌++◌, length, drop, refl, sym, ap, subst, ◌∙◌, inl, inr, append_assoc, arith}
use Rattle.std.specs.Prelude.{ℤ, pos, negsuc, nat_lt, slice_index}
use Rattle.std.specs.Int.{Width, w16, w32, w64, cast_signed, cast_unsigned}
use mir.Val.{bits, hbits, SFits}
use Rattle.std.proofs.lemmas.Bool.{ltb-true, cases_Bool}
use Rattle.std.proofs.lemmas.Int.{to_z-of_z}
use Rattle.std.proofs.Math.Facts.{Fits-of_z}
use Rattle.std.proofs.lemmas.List.{length-append}
use Rattle.byteorder.specs.Endian.{little_bytes, little_number}
use Rattle.byteorder.specs.Numbers.{little_number-reads_back}
use Rattle.binary_json.specs.Values.{Scalar, null, boolean, int16, uint16, int32, uint32, int64, uint64, double, string, opaque}
use Rattle.binary_json.specs.Layout.{fixed_len, fixed}
use Rattle.binary_json.specs.Grammar.{IsVariable, IsText, IsString, IsOpaque, IsScalar}
use Rattle.binary_json_writing.specs.Written.{variable_bytes, counted_bytes, written_scalar}
use Rattle.binary_json_writing.specs.Writable.{is_signed, is_writable_scalar}
use Rattle.binary_json_writing.proofs.Seams.{word_len, both_true}

-- ---- lengths

pub record IsSpelled (s : List ℕ) (n most : ℕ) : Type 0 where
  pub is : IsVariable s n
  pub few : length s ≤ most

-- One byte more in front of the others.
longer : (s : List ℕ) (n high low most : ℕ) → n + 128 ≡ low + 128 * high → 128 ≤ low → IsSpelled s high most → IsSpelled (low ∷ s) n (suc most)
longer [] n high low most e big is = absurd is.is
longer (c ∷ s) n high low most e big is = record { is = (big, (high, e, is.is)); few = omega (arith, is.few) }

pub spelled : (most n : ℕ) → n < 128 ^ suc most → IsSpelled (variable_bytes most n) n (suc most)
unfolding variable_bytes
spelled zero n less = record { is = (omega arith, omega arith); few = omega arith }
spelled (suc most) n less =
    let P : List ℕ → Type 0 = λ s. IsSpelled s n (suc (suc most)) in
    let high : n / 128 < 128 ^ suc most = omega arith in
    elim (cases_Bool (nat_lt n 128)) [
      | inl x ↦ subst (λ (b : Bool). P (cond b (n ∷ []) ((n % 128 + 128) ∷ variable_bytes most (n / 128)))) (sym x) (record { is = (ltb-true n 128 x, refl); few = omega arith })
      | inr x ↦ subst (λ (b : Bool). P (cond b (n ∷ []) ((n % 128 + 128) ∷ variable_bytes most (n / 128)))) (sym x) (longer (variable_bytes most (n / 128)) n (n / 128) (n % 128 + 128) (suc most) (omega arith) (omega arith) (spelled most (n / 128) high))
    ]

pub counted : (s rest : List ℕ) → length s < 2 ^ 32 → IsText s (counted_bytes s ++ rest) (length (counted_bytes s))
counted s rest less =
    let is = spelled 4 (length s) (omega arith) in
    record {
      front = variable_bytes 4 (length s);
      rest = rest;
      parts = append_assoc (variable_bytes 4 (length s)) s rest;
      length_is = is.is;
      short = is.few;
      small = less;
      cost_is = length-append (variable_bytes 4 (length s)) s;
    }

-- ---- numbers

in_range : (w : Width) (z : ℤ) (limit : ℕ) → is_signed limit z ≡ true → limit ≡ 2 ^ hbits w → SFits w z
in_range w (pos n) limit fits e = record { sfits = omega (arith, ltb-true n limit fits) }
in_range w (negsuc n) limit fits e = record { sfits = omega (arith, ltb-true n limit fits) }

signed_back : (w : Width) (z : ℤ) (limit n : ℕ) (rest : List ℕ) → is_signed limit z ≡ true → limit ≡ 2 ^ hbits w → 2 ^ bits w ≡ 256 ^ n → cast_signed w (little_number n (little_bytes n (cast_unsigned w z) ++ rest)) ≡ z
signed_back w z limit n rest fits e size =
    let within = in_range w z limit fits e in
    let less : cast_unsigned w z < 256 ^ n = omega (arith, size, Fits-of_z within) in
    ap (cast_signed w) (little_number-reads_back n (cast_unsigned w z) rest less) ∙ to_z-of_z w z within

unsigned_back : (x limit n : ℕ) (rest : List ℕ) → nat_lt x limit ≡ true → limit ≡ 256 ^ n → little_number n (little_bytes n x ++ rest) ≡ x
unsigned_back x limit n rest fits e = little_number-reads_back n x rest (omega (arith, ltb-true x limit fits))

-- ---- all scalars

-- The type, and the bytes.
abbrev pub kind_in : List ℕ → ℕ
kind_in s = slice_index s 0

abbrev pub payload : List ℕ → List ℕ
payload s = drop 1 s

-- A number of so many bytes.
number : (x : Scalar) (t n v : ℕ) (rest : List ℕ) → 5 ≤ t → t ≤ 11 → fixed_len t ≡ n → x ≡ fixed t (little_bytes n v ++ rest) → IsScalar x t (little_bytes n v ++ rest) (length (little_bytes n v))
number x t n v rest low high len is =
    let count : length (little_bytes n v) ≡ n = word_len n v in
    inl (record { low = omega arith; high = high; enough = omega (arith, length-append (little_bytes n v) rest); known = λ e. absurd (omega arith); is = is }, omega arith)

literal_reads : (x : Scalar) (n : ℕ) (rest : List ℕ) → n ≤ 2 → x ≡ fixed 4 (n ∷ rest) → IsScalar x 4 (n ∷ rest) 1
literal_reads x n rest few is = inl (record { low = omega arith; high = omega arith; enough = omega arith; known = λ e. few; is = is }, refl)

pub scalar_reads : (x : Scalar) (rest : List ℕ) → is_writable_scalar x ≡ true → IsScalar x (kind_in (written_scalar x)) (payload (written_scalar x) ++ rest) (length (payload (written_scalar x)))
unfolding fixed
scalar_reads null rest fits = literal_reads null 0 rest (omega arith) refl
scalar_reads (boolean true) rest fits = literal_reads (boolean true) 1 rest (omega arith) refl
scalar_reads (boolean false) rest fits = literal_reads (boolean false) 2 rest (omega arith) refl
scalar_reads (int16 n) rest fits = number (int16 n) 5 2 (cast_unsigned w16 n) rest (omega arith) (omega arith) refl (ap (λ (z : ℤ). int16 z) (sym (signed_back w16 n (2 ^ 15) 2 rest fits refl refl)))
scalar_reads (uint16 n) rest fits = number (uint16 n) 6 2 n rest (omega arith) (omega arith) refl (ap (λ (z : ℕ). uint16 z) (sym (unsigned_back n (2 ^ 16) 2 rest fits refl)))
scalar_reads (int32 n) rest fits = number (int32 n) 7 4 (cast_unsigned w32 n) rest (omega arith) (omega arith) refl (ap (λ (z : ℤ). int32 z) (sym (signed_back w32 n (2 ^ 31) 4 rest fits refl refl)))
scalar_reads (uint32 n) rest fits = number (uint32 n) 8 4 n rest (omega arith) (omega arith) refl (ap (λ (z : ℕ). uint32 z) (sym (unsigned_back n (2 ^ 32) 4 rest fits refl)))
scalar_reads (int64 n) rest fits = number (int64 n) 9 8 (cast_unsigned w64 n) rest (omega arith) (omega arith) refl (ap (λ (z : ℤ). int64 z) (sym (signed_back w64 n (2 ^ 63) 8 rest fits refl refl)))
scalar_reads (uint64 n) rest fits = number (uint64 n) 10 8 n rest (omega arith) (omega arith) refl (ap (λ (z : ℕ). uint64 z) (sym (unsigned_back n (2 ^ 64) 8 rest fits refl)))
scalar_reads (double n) rest fits = number (double n) 11 8 n rest (omega arith) (omega arith) refl (ap (λ (z : ℕ). double z) (sym (unsigned_back n (2 ^ 64) 8 rest fits refl)))
scalar_reads (string s) rest fits =
    let is : IsString (string s) 12 (counted_bytes s ++ rest) (length (counted_bytes s)) = record { kind_is = refl; bytes = s; text = counted s rest (ltb-true _ _ fits); is = refl } in
    inr (inl is)
scalar_reads (opaque column s) rest fits =
    let both = both_true _ _ fits in
    let is : IsOpaque (opaque column s) 15 (column ∷ (counted_bytes s ++ rest)) (suc (length (counted_bytes s))) = record {
      kind_is = refl;
      column = column;
      rest = counted_bytes s ++ rest;
      parts = refl;
      bytes = s;
      text_cost = length (counted_bytes s);
      text = counted s rest (ltb-true _ _ both.0);
      fits = both.1;
      is = refl;
      cost_is = refl;
    } in
    inr (inr is)
