-- What stands at a place of a list that is put together of parts.
use Rattle.std.proofs.Common.{◌≡◌, ℕ, ◌+◌, ◌-◌, ◌^◌, ◌<◌, Bool, true, false, List, ◌∷◌, ◌++◌, length, take, drop, refl, sym, ap, ◌∙◌, append_assoc, arith}
use Rattle.std.specs.Prelude.{◌&&◌, slice_index, slice_range}
use Rattle.std.proofs.Math.Seq.{take-append_seam, drop-append_seam, get_or-append_seam}
use Rattle.byteorder.specs.Endian.{little_bytes, little_number}
use Rattle.byteorder.specs.Numbers.{length-bytes_low_first, little_number-reads_back}

pub drop_at : (a b s : List ℕ) (n : ℕ) → s ≡ a ++ b → length a ≡ n → drop n s ≡ b
drop_at a b s n e len = rw (e, ← len) (drop-append_seam a b)

pub index_at : (a b s : List ℕ) (x n : ℕ) → s ≡ a ++ (x ∷ b) → length a ≡ n → slice_index s n ≡ x
index_at a b s x n e len = rw (e, ← len) (get_or-append_seam a x b 0)

pub range_at : (a b c s : List ℕ) (n m : ℕ) → s ≡ a ++ (b ++ c) → length a ≡ n → n + length b ≡ m → slice_range s n m ≡ b
range_at a b c s n m e len end =
    let count : m - n ≡ length b = omega arith in
    ap (λ (r : List ℕ). take (m - n) r) (drop_at a (b ++ c) s n e len) ∙ ap (λ (k : ℕ). take k (b ++ c)) count ∙ take-append_seam b c

pub word_at : (a c s : List ℕ) (w x n : ℕ) → s ≡ a ++ (little_bytes w x ++ c) → length a ≡ n → x < 256 ^ w → little_number w (drop n s) ≡ x
word_at a c s w x n e len less = ap (λ (r : List ℕ). little_number w r) (drop_at a (little_bytes w x ++ c) s n e len) ∙ little_number-reads_back w x c less

pub word_len : (w x : ℕ) → length (little_bytes w x) ≡ w
word_len w x = length-bytes_low_first 0 w x

-- A front that takes one more part.
pub longer_front : (a h t b s : List ℕ) → s ≡ a ++ ((h ++ t) ++ b) → s ≡ (a ++ h) ++ (t ++ b)
longer_front a h t b s e = e ∙ ap (λ (r : List ℕ). a ++ r) (append_assoc h t b) ∙ sym (append_assoc a h (t ++ b))

pub first_part : (a h t b s : List ℕ) → s ≡ a ++ ((h ++ t) ++ b) → s ≡ a ++ (h ++ (t ++ b))
first_part a h t b s e = e ∙ ap (λ (r : List ℕ). a ++ r) (append_assoc h t b)

pub both_true : (a b : Bool) → (a && b) ≡ true → (a ≡ true) × (b ≡ true)
both_true true b e = (refl, e)
both_true false b e = absurd cc
