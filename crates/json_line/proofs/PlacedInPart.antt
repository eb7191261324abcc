-- A write in a part of memory is one in the memory.
use Rattle.std.proofs.Common.{◌≡◌, ℕ, ◌+◌, ◌-◌, ◌≤◌, List, ◌++◌, length, take, drop, ap, subst, ◌∙◌, arith, length-append, length-drop, length-take, length-take-le, take_at}
use borrow.Rule.Slice.PartMut.{mid_of, put_mid}
use Rattle.json.specs.Filled.{Placed}
use Rattle.json.proofs.Printed.Places.{Placed-put_mid}

-- A write that begins at the beginning ends within the memory.
within : {a b xs : List ℕ} {end : ℕ} → Placed a b 0 xs end → end ≤ length a
within {a} {b} {xs} {end} p = omega (arith, p.moved, p.len, ap length p.bytes, length-append (take 0 a) xs, length-take 0 a, length-take end b)

placed_in : {part xs : List ℕ} {end : ℕ} (a : List ℕ) (i k : ℕ) → i + k ≤ length a → Placed (mid_of i k a) part 0 xs end → Placed a (put_mid i k a part) i xs (i + end)
placed_in {part} {xs} {end} a i k fits p =
    let long : length (mid_of i k a) ≡ k = length-take-le k (drop i a) (omega (arith, length-drop i a)) in
    let few : end ≤ k = omega (arith, within p, long) in
    subst (λ (l : List ℕ). Placed a (put_mid i k a part) i l (i + end)) p.bytes (Placed-put_mid a part i k end fits (p.len ∙ long) few)

-- The bytes of a vector, in which a part of n bytes was written behind the first `len`. It has as many bytes as before.
module _ {part xs : List ℕ} {end : ℕ} (items memory : List ℕ) (len n count : ℕ) (same : memory ≡ items) (whole : length memory ≡ count) (fits : len + n ≤ length items)
    (p : Placed (mid_of len (len + n - len) memory) part 0 xs end) where
  placed : Placed memory (put_mid len (len + n - len) memory part) len xs (len + end)
  placed = placed_in memory len (len + n - len) (omega (arith, fits, ap length same)) p

  kept : take count (put_mid len (len + n - len) memory part ++ drop (length (put_mid len (len + n - len) memory part)) items) ≡ put_mid len (len + n - len) memory part
  kept = take_at (put_mid len (len + n - len) memory part) (drop (length (put_mid len (len + n - len) memory part)) items) count (placed.len ∙ whole)

  pub ends_within : len + end ≤ length memory
  ends_within =
      let long : length (mid_of len (len + n - len) memory) ≡ len + n - len = length-take-le (len + n - len) (drop len memory) (omega (arith, fits, ap length same, length-drop len memory)) in
      omega (arith, within p, long, fits, ap length same)

  pub put_within : len + end ≤ length (take count (put_mid len (len + n - len) memory part ++ drop (length (put_mid len (len + n - len) memory part)) items))
  put_within = omega (arith, ends_within, placed.len, ap length kept)

  -- What was written is appended to the first `len` bytes.
  pub put_behind : (text : List ℕ) → take len items ≡ text
      → take (len + end) (take count (put_mid len (len + n - len) memory part ++ drop (length (put_mid len (len + n - len) memory part)) items)) ≡ text ++ xs
  put_behind text is =
      ap (λ (l : List ℕ). take (len + end) l) kept ∙ placed.bytes ∙ ap (λ (l : List ℕ). take len l ++ xs) same ∙ ap (λ (l : List ℕ). l ++ xs) is
