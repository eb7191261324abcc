-- Bitmaps whose bits are all alike.
use Rattle.std.proofs.Common.{◌≡◌, ℕ, zero, suc, ◌+◌, ◌<◌, ◌≤◌, Bool, true, false, List, refl, sym, subst, ◌∙◌, arith}
use Rattle.std.specs.Prelude.{nat_eq, nat_lt, if◌then◌else◌}
use Rattle.std.proofs.lemmas.Bool.Decides.{nat_tests}
use Rattle.binlog_rows.specs.Columns.{Bitmap}
use Rattle.binlog_images.specs.Bits.{is_set, set_count}

-- ---- all are set

set_by : (len : ℕ) (s : List ℕ) (index : ℕ) (below : Bool) → nat_lt index len ≡ below → ((k : ℕ) → k < len → is_set (len, s) k ≡ true) → below ≡ is_set (len, s) index
set_by len s index true is each = sym (each index (grind (arith, nat_tests)))
set_by len s index false is each = rw is refl

-- Then the bit at an index is set exactly if there is one.
pub all_set : (bits : Bitmap) (index : ℕ) → ((k : ℕ) → k < bits.0 → is_set bits k ≡ true) → nat_lt index bits.0 ≡ is_set bits index
all_set bits index each = set_by bits.0 bits.1 index (nat_lt index bits.0) refl each

count_by : (b : Bool) (n count : ℕ) → count ≤ n → (if b then 1 else 0) + count ≤ suc n
count_by true n count most = omega (arith, most)
count_by false n count most = omega (arith, most)

-- No more bits are counted than there are.
counted_most : (n i : ℕ) (bits : Bitmap) → set_count n i bits ≤ n
counted_most zero i bits = omega arith
counted_most (suc n) i bits = count_by (is_set bits i) n (set_count n (i + 1) bits) (counted_most n (i + 1) bits)

first_by : (b : Bool) (n count : ℕ) → count ≤ n → (if b then 1 else 0) + count ≡ suc n → (b ≡ true) × (count ≡ n)
first_by true n count most is = (refl, omega (arith, is))
first_by false n count most is = absurd (omega (arith, is, most))

at_by : (i k : ℕ) (same : Bool) (bits : Bitmap) → nat_eq i k ≡ same → i ≤ k → is_set bits i ≡ true → (i + 1 ≤ k → is_set bits k ≡ true) → is_set bits k ≡ true
at_by i k true bits is low here behind =
    let same : i ≡ k = grind (arith, nat_tests) in
    subst (λ (n : ℕ). is_set bits n ≡ true) same here
at_by i k false bits is low here behind = behind (grind (arith, nat_tests))

counted_each : (n i : ℕ) (bits : Bitmap) → set_count n i bits ≡ n → (k : ℕ) → i ≤ k → k < i + n → is_set bits k ≡ true
counted_each zero i bits is k low high = absurd (omega (arith, low, high))
counted_each (suc n) i bits is k low high =
    let first = first_by (is_set bits i) n (set_count n (i + 1) bits) (counted_most n (i + 1) bits) is in
    at_by i k (nat_eq i k) bits refl low first.0 (λ more. counted_each n (i + 1) bits first.1 k more (omega (arith, high)))

-- Each bit is set if as many are counted as there are.
pub all_counted : (len count there : ℕ) (bits : Bitmap) → count ≡ set_count len 0 bits → there ≡ len → nat_eq count there ≡ true → (k : ℕ) → k < len → is_set bits k ≡ true
all_counted len count there bits counted is same k below =
    let equal : count ≡ there = grind (arith, nat_tests) in
    counted_each len 0 bits (sym counted ∙ equal ∙ is) k (omega arith) (omega (arith, below))
