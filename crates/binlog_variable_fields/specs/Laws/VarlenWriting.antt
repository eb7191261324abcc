-- Variable-length integers: the written encoding is one of their grammar, and none is shorter.
use Rattle.std.proofs.Common.{◌≡◌, ℕ, suc, ◌+◌, ◌-◌, ◌*◌, ◌^◌, ◌≤◌, inl, Bool, true, false, cond, ltb, List, ◌++◌, refl, zero, ◌<◌, inr, arith, length, sym, subst, ap, ◌∙◌, ◌⊎◌, ◌∷◌, take}
use Rattle.std.proofs.lemmas.Bool.{ltb-true, ltb-false, cases_lt, lt-ltb, le-ltb}
use Rattle.std.proofs.lemmas.List.{length-append}
use Rattle.std.proofs.lemmas.Nat.{pow_below}
use Rattle.std.specs.Int.{byte_at, bytes_low_first}
use Rattle.std.proofs.Math.Nat.{pow-le-pow_right}
use Rattle.byteorder.specs.Endian.{little_bytes}
use Rattle.binlog_wire.specs.Laws.Numbers.{length-number, length-little_bytes}
use Rattle.binlog_variable_fields.specs.Varlen.{IsVarlen, written_from, varlen_written}
use Rattle.binlog_variable_fields.specs.Laws.Varlen.{held}

spelled_by : (t k n : ℕ) (r : List ℕ) (b : Bool) → ltb n (2 ^ (7 * k)) ≡ b → 1 ≤ k → k ≤ 8
    → IsVarlen (written_from t (suc k) n ++ r) n r
    → IsVarlen (cond b (little_bytes k (n * 2 ^ k + 2 ^ (k - 1) - 1)) (written_from t (suc k) n) ++ r) n r
spelled_by t k n r true h low high other = inl (k, low, high, ltb-true _ _ h, refl)
spelled_by t k n r false h low high other = other

pub varlen_spelled : (t k n : ℕ) (r : List ℕ) → 1 ≤ k → k + t ≡ 9 → n < 256 ^ 8 → IsVarlen (written_from t k n ++ r) n r
varlen_spelled zero k n r low all fits = inr (little_bytes 8 n ++ r, refl, (fits, refl))
varlen_spelled (suc t) k n r low all fits = spelled_by t k n r _ refl low (omega (arith, all)) (varlen_spelled t (suc k) n r (omega arith) (omega (arith, all)) fits)

pub varlen_long : (s : List ℕ) (n : ℕ) (r : List ℕ) → IsVarlen s n r → 1 + length r ≤ length s
varlen_long s n r (inl (k, low, high, small, e)) = rw e (omega (arith, length-append (little_bytes k (n * 2 ^ k + 2 ^ (k - 1) - 1)) r, length-little_bytes k (n * 2 ^ k + 2 ^ (k - 1) - 1)))
varlen_long s n r (inr (m, e, h)) = rw e (omega (arith, length-number 8 m n r h))

pub varlen_writes : (n : ℕ) (r : List ℕ) → n < 256 ^ 8 → IsVarlen (varlen_written n ++ r) n r
unfolding varlen_written
varlen_writes n r fits = varlen_spelled 8 1 n r (omega arith) refl fits

-- ---- no encoding is shorter

width_by : (t k n : ℕ) (b : Bool) → ltb n (2 ^ (7 * k)) ≡ b → (j : ℕ) → k ≤ j → n < 2 ^ (7 * j)
    → (suc k ≤ j → length (written_from t (suc k) n) ≤ j)
    → length (cond b (little_bytes k (n * 2 ^ k + 2 ^ (k - 1) - 1)) (written_from t (suc k) n)) ≤ j
width_by t k n true h j le small other = omega (arith, length-little_bytes k (n * 2 ^ k + 2 ^ (k - 1) - 1))
width_by t k n false h j le small other =
    let big : 2 ^ (7 * k) ≤ n = ltb-false _ _ h in
    let ne : (k ≡ j → ⊥) = λ e. let s : n < 2 ^ (7 * k) = subst (λ (i : ℕ). n < 2 ^ (7 * i)) (sym e) small in omega (arith, s, big) in
    other (omega arith)

width_least : (t k n j : ℕ) → k + t ≡ 9 → k ≤ j → j ≤ 8 → n < 2 ^ (7 * j) → length (written_from t k n) ≤ j
width_least zero k n j all le high small = absurd (omega (arith, all))
width_least (suc t) k n j all le high small = width_by t k n _ refl j le small (λ more. width_least t (suc k) n j (omega (arith, all)) more high small)

nine_by : (t k n : ℕ) (b : Bool) → k ≤ 8 → length (written_from t (suc k) n) ≤ 9
    → length (cond b (little_bytes k (n * 2 ^ k + 2 ^ (k - 1) - 1)) (written_from t (suc k) n)) ≤ 9
nine_by t k n true high other = omega (arith, length-little_bytes k (n * 2 ^ k + 2 ^ (k - 1) - 1))
nine_by t k n false high other = other

pub nine : (t k n : ℕ) → k + t ≡ 9 → length (written_from t k n) ≤ 9
nine zero k n all = omega (arith, length-little_bytes 8 n)
nine (suc t) k n all = nine_by t k n (ltb n (2 ^ (7 * k))) (omega (arith, all)) (nine t (suc k) n (omega (arith, all)))

-- No encoding is shorter than the written one.
pub varlen_shortest : (s : List ℕ) (n : ℕ) (r : List ℕ) → IsVarlen s n r → length (varlen_written n) + length r ≤ length s
unfolding varlen_written
varlen_shortest s n r (inl (k, low, high, small, e)) =
    let l : length (little_bytes k (n * 2 ^ k + 2 ^ (k - 1) - 1) ++ r) ≡ k + length r = length-append (little_bytes k (n * 2 ^ k + 2 ^ (k - 1) - 1)) r ∙ ap (λ (m : ℕ). m + length r) (length-little_bytes k (n * 2 ^ k + 2 ^ (k - 1) - 1)) in
    let w : length (varlen_written n) ≤ k = width_least 8 1 n k refl low high small in
    let whole : length s ≡ k + length r = ap length e ∙ l in
    omega (arith, w, whole)
varlen_shortest s n r (inr (m, e, h)) =
    let w : length (varlen_written n) ≤ 9 = nine 8 1 n refl in
    let whole : length s ≡ suc (length m) = ap length e in
    omega (arith, w, whole, length-number 8 m n r h)

-- The written encoding has at most 9 bytes.
pub varlen_most : (n : ℕ) → length (varlen_written n) ≤ 9
unfolding varlen_written
varlen_most n = nine 8 1 n refl

-- ---- the number of bytes written

-- The number doesn't fit j - 1 bytes, or j is 1.
abbrev pub NeedsBytes : ℕ → ℕ → Type 0
NeedsBytes j n = (j ≡ 1) ⊎ (2 ^ (7 * (j - 1)) ≤ n)

from_below : (k j n : ℕ) → 1 ≤ k → k < j → NeedsBytes j n → 2 ^ (7 * k) ≤ n
from_below k j n some less (inl e) = absurd (omega arith)
from_below k j n some less (inr low) =
    elim (cases_lt (7 * k) (7 * (j - 1))) [
      | inl below ↦ omega (arith, pow_below (7 * k) (7 * (j - 1)) below, low)
      | inr above ↦ let e : 7 * k ≡ 7 * (j - 1) = omega arith in rw e low
    ]

written_at : (t k n j : ℕ) → 1 ≤ k → k + t ≡ 9 → k ≤ j → j ≤ 8 → NeedsBytes j n → n < 2 ^ (7 * j)
    → written_from t k n ≡ little_bytes j (n * 2 ^ j + 2 ^ (j - 1) - 1)
written_at zero k n j some all le high low small = absurd (omega (arith, all))
written_at (suc t) k n j some all le high low small =
    elim (cases_lt k j) [
      | inl below ↦
          let big : ltb n (2 ^ (7 * k)) ≡ false = le-ltb _ _ (from_below k j n some below low) in
          rw big (written_at t (suc k) n j (omega arith) (omega (arith, all)) below high low small)
      | inr above ↦
          let e : k ≡ j = omega arith in
          let fits : ltb n (2 ^ (7 * j)) ≡ true = lt-ltb _ _ small in
          rw (e, fits) refl
    ]

written_nine : (t k n : ℕ) → 1 ≤ k → k + t ≡ 9 → 2 ^ 56 ≤ n → written_from t k n ≡ 255 ∷ little_bytes 8 n
written_nine zero k n some all big = refl
written_nine (suc t) k n some all big =
    let small : 2 ^ (7 * k) ≤ n = from_below k 9 n some (omega (arith, all)) (inr big) in
    let goes : ltb n (2 ^ (7 * k)) ≡ false = le-ltb _ _ small in
    rw goes (written_nine t (suc k) n (omega arith) (omega (arith, all)) big)

-- A number that fits j bytes and no fewer is written in j.
pub varlen_in : (j n : ℕ) → 1 ≤ j → j ≤ 8 → NeedsBytes j n → n < 2 ^ (7 * j) → varlen_written n ≡ little_bytes j (n * 2 ^ j + 2 ^ (j - 1) - 1)
unfolding varlen_written
varlen_in j n some high low small = written_at 8 1 n j (omega arith) refl some high low small

-- A number of 2^56 or more is written in nine bytes.
pub varlen_in_nine : (n : ℕ) → 2 ^ 56 ≤ n → varlen_written n ≡ 255 ∷ little_bytes 8 n
unfolding varlen_written
varlen_in_nine n big = written_nine 8 1 n (omega arith) refl big

pub varlen_size : (j n : ℕ) → 1 ≤ j → j ≤ 8 → NeedsBytes j n → n < 2 ^ (7 * j) → j ≡ length (varlen_written n)
varlen_size j n some high low small =
    sym (ap length (varlen_in j n some high low small) ∙ length-little_bytes j (n * 2 ^ j + 2 ^ (j - 1) - 1))

pub varlen_size_nine : (n : ℕ) → 2 ^ 56 ≤ n → 9 ≡ length (varlen_written n)
varlen_size_nine n big = sym (ap length (varlen_in_nine n big) ∙ ap suc (length-little_bytes 8 n))

-- The encoding in j bytes, 1 to 8.
abbrev pub IsWrittenIn : ℕ → ℕ → List ℕ → Type 0
IsWrittenIn j n s = (1 ≤ j) × (j ≤ 8) × (n < 2 ^ (7 * j)) × (s ≡ little_bytes j (n * 2 ^ j + 2 ^ (j - 1) - 1))

-- The encoding in nine bytes.
abbrev pub IsWrittenInNine : ℕ → List ℕ → Type 0
IsWrittenInNine n s = s ≡ 255 ∷ little_bytes 8 n

cases_by : (t k n : ℕ) (b : Bool) → ltb n (2 ^ (7 * k)) ≡ b → 1 ≤ k → k ≤ 8
    → ((j : ℕ) × IsWrittenIn j n (written_from t (suc k) n)) ⊎ IsWrittenInNine n (written_from t (suc k) n)
    → ((j : ℕ) × IsWrittenIn j n (cond b (little_bytes k (n * 2 ^ k + 2 ^ (k - 1) - 1)) (written_from t (suc k) n)))
    ⊎ IsWrittenInNine n (cond b (little_bytes k (n * 2 ^ k + 2 ^ (k - 1) - 1)) (written_from t (suc k) n))
cases_by t k n true h low high other = inl (k, (low, high, ltb-true _ _ h, refl))
cases_by t k n false h low high other = other

cases : (t k n : ℕ) → 1 ≤ k → k + t ≡ 9 → ((j : ℕ) × IsWrittenIn j n (written_from t k n)) ⊎ IsWrittenInNine n (written_from t k n)
cases zero k n low all = inr refl
cases (suc t) k n low all = cases_by t k n _ refl low (omega (arith, all)) (cases t (suc k) n (omega arith) (omega (arith, all)))

few_of : (n width : ℕ) (s : List ℕ) → width ≡ length s → width < 9 → ((j : ℕ) × IsWrittenIn j n s) ⊎ IsWrittenInNine n s → IsWrittenIn width n s
few_of n width s is less (inl (j, (low, high, small, e))) =
    let l : length s ≡ j = ap length e ∙ length-little_bytes j (n * 2 ^ j + 2 ^ (j - 1) - 1) in
    let same : j ≡ width = sym (is ∙ l) in
    subst (λ (k : ℕ). IsWrittenIn k n s) same (low, high, small, e)
few_of n width s is less (inr e) =
    let l : length s ≡ 9 = ap length e ∙ ap suc (length-little_bytes 8 n) in
    absurd (omega (arith, is, l))

nine_of : (n width : ℕ) (s : List ℕ) → width ≡ length s → 9 ≤ width → ((j : ℕ) × IsWrittenIn j n s) ⊎ IsWrittenInNine n s → s ≡ 255 ∷ little_bytes 8 n
nine_of n width s is more (inl (j, (low, high, small, e))) =
    let l : length s ≡ j = ap length e ∙ length-little_bytes j (n * 2 ^ j + 2 ^ (j - 1) - 1) in
    absurd (omega (arith, is, l))
nine_of n width s is more (inr e) = e

-- The encoding in fewer than nine bytes.
pub varlen_few : (n width : ℕ) → width ≡ length (varlen_written n) → width < 9 → IsWrittenIn width n (varlen_written n)
unfolding varlen_written
varlen_few n width is less = few_of n width (varlen_written n) is less (cases 8 1 n (omega arith) refl)

pub varlen_many : (n width : ℕ) → width ≡ length (varlen_written n) → 9 ≤ width → varlen_written n ≡ 255 ∷ little_bytes 8 n
unfolding varlen_written
varlen_many n width is more = nine_of n width (varlen_written n) is more (cases 8 1 n (omega arith) refl)

-- The low bytes of a number are its encoding in fewer bytes.
take_low : (i k n x : ℕ) → k ≤ n → take k (bytes_low_first i n x) ≡ bytes_low_first i k x
take_low i zero n x le = refl
take_low i (suc k) zero x le = absurd (omega arith)
take_low i (suc k) (suc n) x le = ap (λ (s : List ℕ). byte_at i x ∷ s) (take_low (suc i) k n x (omega arith))

pub take_little_bytes : (k n x : ℕ) → k ≤ n → take k (little_bytes n x) ≡ little_bytes k x
take_little_bytes k n x le = take_low 0 k n x le

-- A number that fits j bytes leaves space for its mark.
pub varlen_room : (n j : ℕ) → 1 ≤ j → j ≤ 8 → n < 2 ^ (7 * j) → n * 2 ^ j + 2 ^ j ≤ 2 ^ 64
varlen_room n zero some high small = absurd (omega arith)
varlen_room n (suc i) some high small =
    let h : n * 2 ^ suc i + 2 ^ suc i ≤ 256 ^ suc i = held n i small in
    let p : 256 ^ suc i ≤ 256 ^ 8 = pow-le-pow_right (omega arith) high in
    omega (arith, h, p)
