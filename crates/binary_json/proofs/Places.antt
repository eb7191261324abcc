-- The entries stand in the header.
use Rattle.std.proofs.Common.{ℕ, suc, ◌+◌, ◌*◌, ◌^◌, ◌<◌, ◌≤◌, List, arith}
use Rattle.std.proofs.lemmas.Nat.{mul-le}
use Rattle.std.proofs.Math.Nat.{mul-le-mul_right}
use Rattle.binary_json.specs.Layout.{width, key_len, value_len, entry_count, header_len, key_place, value_place}

-- Entries of at most 11 bytes each.
pub few_entries : (n k : ℕ) → n < 2 ^ 32 → k ≤ 11 → n * k ≤ 47244640256
few_entries n k few short = omega (arith, mul-le n k 4294967296 11 (omega arith) short)

key_fits : (w n k v i : ℕ) → i < n → 2 * w + i * k + k ≤ 2 * w + n * (k + v)
key_fits w n k v i less = let h : suc i * k ≤ n * k = mul-le-mul_right k less in omega (arith, h)

value_fits : (w n k v i : ℕ) → i < n → 2 * w + n * k + i * v + v ≤ 2 * w + n * (k + v)
value_fits w n k v i less = let h : suc i * v ≤ n * v = mul-le-mul_right v less in omega (arith, h)

pub key_within : (t : ℕ) (s : List ℕ) (i : ℕ) → i < entry_count t s → key_place t i + key_len t ≤ header_len t s
unfolding key_place header_len
key_within t s i less = key_fits (width t) (entry_count t s) (key_len t) (value_len t) i less

pub value_within : (t : ℕ) (s : List ℕ) (i : ℕ) → i < entry_count t s → value_place t s i + value_len t ≤ header_len t s
unfolding value_place header_len
value_within t s i less = value_fits (width t) (entry_count t s) (key_len t) (value_len t) i less
