-- The bytes of numbers, at the front of a buffer.
use Rattle.std.proofs.Common.{◌≡◌, ℕ, List, ◌++◌, ◌+◌, length, take, subst, arith}
use Rattle.std.proofs.lemmas.List.{length-append}
use Rattle.std.proofs.Math.Seq.{take-append_seam}
use Rattle.byteorder.specs.Endian.{little_bytes, big_bytes}
use Rattle.byteorder.specs.Numbers.{length-bytes_high_first, length-bytes_low_first}

pub little_len : (k n : ℕ) → length (little_bytes k n) ≡ k
little_len k n = length-bytes_low_first 0 k n

pub big_len : (k n : ℕ) → length (big_bytes k n) ≡ k
big_len k n = length-bytes_high_first k n

pub little_front : (k n : ℕ) (s : List ℕ) → take k (little_bytes k n ++ s) ≡ little_bytes k n
little_front k n s = subst (λ (m : ℕ). take m (little_bytes k n ++ s) ≡ little_bytes k n) (little_len k n) (take-append_seam (little_bytes k n) s)

pub big_front : (k n : ℕ) (s : List ℕ) → take k (big_bytes k n ++ s) ≡ big_bytes k n
big_front k n s = subst (λ (m : ℕ). take m (big_bytes k n ++ s) ≡ big_bytes k n) (big_len k n) (take-append_seam (big_bytes k n) s)

pub counted_len : (k n : ℕ) (s : List ℕ) → length (little_bytes k n ++ s) ≡ k + length s
counted_len k n s = omega (arith, length-append (little_bytes k n) s, little_len k n)
