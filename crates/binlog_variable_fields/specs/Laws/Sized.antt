-- The least size of a whole that includes its own size field is a solution, and the least.
use Rattle.std.proofs.Common.{◌≡◌, ℕ, ◌+◌, ◌-◌, ◌*◌, ◌^◌, ◌<◌, true, ltb, length, arith, ◌≤◌, false, Bool, cond, refl, suc, inl, inr, List, [], sym, ap, subst, ◌∙◌}
use Rattle.std.proofs.lemmas.Bool.{lt-ltb, le-ltb, ltb-true, ltb-false}
use Rattle.std.proofs.lemmas.List.{length-append}
use Rattle.byteorder.specs.Endian.{little_bytes}
use Rattle.binlog_wire.specs.Laws.Numbers.{length-little_bytes, length-number}
use Rattle.binlog_variable_fields.specs.Varlen.{varlen_written, IsVarlen}
use Rattle.binlog_variable_fields.specs.Sized.{Solves, least_size}
use Rattle.binlog_variable_fields.specs.Laws.VarlenWriting.{varlen_long}

pub one_byte : (size : ℕ) → size < 128 → length (varlen_written size) ≡ 1
unfolding varlen_written
one_byte size small =
    let h : ltb size (2 ^ (7 * 1)) ≡ true = lt-ltb _ _ (omega arith) in
    rw h (length-little_bytes 1 (size * 2 ^ 1 + 2 ^ (1 - 1) - 1))

pub two_bytes : (size : ℕ) → 128 ≤ size → size < 16384 → length (varlen_written size) ≡ 2
unfolding varlen_written
two_bytes size big small =
    let h : ltb size (2 ^ (7 * 1)) ≡ false = le-ltb _ _ (omega arith) in
    let g : ltb size (2 ^ (7 * 2)) ≡ true = lt-ltb _ _ (omega arith) in
    rw (h, g) (length-little_bytes 2 (size * 2 ^ 2 + 2 ^ (2 - 1) - 1))

solves_by : (n : ℕ) → n + 2 < 16384 → (t : Bool) → ltb (n + 1) 128 ≡ t → Solves n (cond t (n + 1) (n + 2))
solves_by n small true h = let lt : n + 1 < 128 = ltb-true _ _ h in omega (arith, one_byte (n + 1) lt)
solves_by n small false h = let le : 128 ≤ n + 1 = ltb-false _ _ h in omega (arith, two_bytes (n + 2) (omega arith) small)

pub least_size_solves : (n : ℕ) → n + 2 < 16384 → Solves n (least_size n)
least_size_solves n small = solves_by n small _ refl

-- A size in one byte is below 128.
one_byte_spells : (s : List ℕ) (size : ℕ) → IsVarlen s size [] → length s ≡ 1 → size < 128
one_byte_spells s size (inl (k, low, high, small, e)) one =
    let whole : length s ≡ k = ap length e ∙ length-append (little_bytes k (size * 2 ^ k + 2 ^ (k - 1) - 1)) [] ∙ omega (arith, length-little_bytes k (size * 2 ^ k + 2 ^ (k - 1) - 1)) in
    let is : k ≡ 1 = sym whole ∙ one in
    let less : size < 2 ^ (7 * 1) = subst (λ (j : ℕ). size < 2 ^ (7 * j)) is small in
    omega (arith, less)
one_byte_spells s size (inr (m, e, h)) one =
    let whole : length s ≡ suc (length m) = ap length e in
    absurd (omega (arith, whole, one, length-number 8 m size [] h))

least_by : (n : ℕ) (s : List ℕ) (size : ℕ) → IsVarlen s size [] → size ≡ n + length s → (t : Bool) → ltb (n + 1) 128 ≡ t → (u : Bool) → ltb (length s) 2 ≡ u → cond t (n + 1) (n + 2) ≤ size
least_by n s size h e true ht u hu = omega (arith, varlen_long s size [] h, e)
least_by n s size h e false ht false hu = let two : 2 ≤ length s = ltb-false _ _ hu in omega (arith, e)
least_by n s size h e false ht true hu =
    let one : length s < 2 = ltb-true _ _ hu in
    let is : length s ≡ 1 = omega (arith, varlen_long s size [] h) in
    let less : size < 128 = one_byte_spells s size h is in
    let big : 128 ≤ n + 1 = ltb-false _ _ ht in
    absurd (omega (arith, e))

-- No size is less, in whatever encoding.
pub least_size_is_least : (n : ℕ) (s : List ℕ) (size : ℕ) → IsVarlen s size [] → size ≡ n + length s → least_size n ≤ size
least_size_is_least n s size h e = least_by n s size h e _ refl _ refl
