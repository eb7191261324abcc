-- Numbers of k bytes, most significant byte first.
use Rattle.std.proofs.Common.{◌≡◌, ℕ, zero, suc, ◌+◌, ◌*◌, ◌/◌, ◌^◌, ◌<◌, ◌≤◌, false, cond, ltb, List, [], ◌∷◌, ◌++◌, length, take, drop, Ok, Err, refl, sym, ap, subst, ◌∙◌, arith}
use Rattle.std.proofs.lemmas.Bool.{ltb-false, le-ltb}
use Rattle.std.proofs.lemmas.List.{drop_at, take-append-drop, length-append, length-take, append-nil}
use Rattle.std.proofs.lemmas.Nat.{div-mul-add}
use Rattle.std.specs.Int.{byte_at}
use Rattle.byteorder.specs.Endian.{big_from, big_number, big_bytes}
use Rattle.byteorder.specs.Numbers.{big_from-cons, big_from-take, big_from-lt, big_number-reads_back, length-bytes_high_first}
use Rattle.binlog_wire.specs.Reading.{ends, Read}
use Rattle.binlog_wire.specs.Fields.{IsBytes}
use Rattle.binlog_wire.specs.Laws.{KeepsTo, IsBytes-take, IsBytes-drop, guard_ok}
use Rattle.binlog_wire.specs.Formats.{Place, Format}

-- A number of k bytes, most significant byte first.
abbrev pub IsBig : ℕ → List ℕ → ℕ → List ℕ → Type 0
IsBig k s n r = (n < 256 ^ k) × (s ≡ big_bytes k n ++ r)

-- The number of the first k bytes, most significant byte first.
abbrev pub big_at : ℕ → List ℕ → Read ℕ
big_at k s = cond (ltb (length s) k) (Err ends) (Ok (big_number k s, drop k s))

-- Bytes of equal lengths that make the same number are the same.
same_bytes : (k : ℕ) (a b : List ℕ) → IsBytes a → IsBytes b → length a ≡ k → length b ≡ k → big_number k a ≡ big_number k b → a ≡ b
same_bytes zero [] [] fa fb la lb e = refl
same_bytes zero (x ∷ a) b fa fb la lb e = absurd (omega arith)
same_bytes zero [] (y ∷ b) fa fb la lb e = absurd (omega arith)
same_bytes (suc k) [] b fa fb la lb e = absurd (omega arith)
same_bytes (suc k) (x ∷ a) [] fa fb la lb e = absurd (omega arith)
same_bytes (suc k) (x ∷ a) (y ∷ b) fa fb la lb e =
    let ga : IsBytes a = λ i. fa (suc i) in
    let gb : IsBytes b = λ i. fb (suc i) in
    let p : ℕ = 256 ^ k in
    let m : ℕ = big_number k a in
    let n : ℕ = big_number k b in
    let sum : x * p + m ≡ y * p + n = ap (λ (r : ℕ). x * p + r) (sym (big_from-cons 0 k x a)) ∙ e ∙ ap (λ (r : ℕ). y * p + r) (big_from-cons 0 k y b) in
    let small_m : m < p = big_from-lt 0 k a ga in
    let small_n : n < p = big_from-lt 0 k b gb in
    let heads : x ≡ y = sym (div-mul-add x p m small_m) ∙ ap (λ (r : ℕ). r / p) sum ∙ div-mul-add y p n small_n in
    let product : x * p ≡ y * p = ap (λ (r : ℕ). r * p) heads in
    let tails : m ≡ n = omega (arith, sum, product) in
    let rest : a ≡ b = same_bytes k a b ga gb (omega (arith, la)) (omega (arith, lb)) tails in
    ap (λ (h : ℕ). h ∷ a) heads ∙ ap (λ (t : List ℕ). y ∷ t) rest

byte_small : (k n : ℕ) → byte_at k n < 256
byte_small zero n = omega arith
byte_small (suc k) n = omega arith

-- The bytes of a number are bytes.
pub bytes_of_big : (k n : ℕ) → IsBytes (big_bytes k n)
bytes_of_big zero n i = omega arith
bytes_of_big (suc k) n zero = byte_small k n
bytes_of_big (suc k) n (suc i) = bytes_of_big k n i

-- The number that k bytes make is encoded as these bytes.
pub big_bytes-big_number : (k : ℕ) (s : List ℕ) → IsBytes s → k ≤ length s → big_bytes k (big_number k s) ≡ take k s
big_bytes-big_number k s fits h =
    let n : ℕ = big_number k s in
    let less : n < 256 ^ k = big_from-lt 0 k s fits in
    let back : big_number k (big_bytes k n) ≡ n = ap (λ (t : List ℕ). big_from 0 k t) (sym (append-nil (big_bytes k n))) ∙ big_number-reads_back k n [] less in
    let front : big_number k (take k s) ≡ n = big_from-take 0 k k s (omega arith) in
    same_bytes k (big_bytes k n) (take k s) (bytes_of_big k n) (IsBytes-take k s fits) (length-bytes_high_first k n) (omega (arith, length-take k s)) (back ∙ sym front)

pub length-big : (k : ℕ) (s : List ℕ) (n : ℕ) (r : List ℕ) → IsBig k s n r → length s ≡ k + length r
length-big k s n r h = ap length h.1 ∙ length-append (big_bytes k n) r ∙ ap (λ (m : ℕ). m + length r) (length-bytes_high_first k n)

pub keeps_big : (k : ℕ) → KeepsTo (IsBig k) (big_at k)
keeps_big k = record {
  sound = λ s x fits e.
      let g = guard_ok (ltb (length s) k) ends (Ok (big_number k s, drop k s)) x e in
      let long : k ≤ length s = ltb-false _ _ g.0 in
      let same : ◌≡◌ {A = ℕ × List ℕ} (big_number k s, drop k s) x = cc in
      subst (λ (y : ℕ × List ℕ). IsBig k s y.0 y.1 × IsBytes y.1) same
      ((big_from-lt 0 k s fits, rw (big_bytes-big_number k s fits long) (sym (take-append-drop k s))), IsBytes-drop k s fits);
  complete = λ s n r h.
      let long : ltb (length (big_bytes k n ++ r)) k ≡ false = le-ltb _ _ (omega (arith, length-append (big_bytes k n) r, length-bytes_high_first k n)) in
      rw (h.1, long, big_number-reads_back k n r h.0, drop_at (big_bytes k n) r k (length-bytes_high_first k n)) refl;
}

-- A number of k bytes, most significant byte first.
abbrev pub big : {place : Place} (k : ℕ) → Format place ℕ
big k = record {
  spells = IsBig k;
  reads = big_at k;
  written = big_bytes k;
  normal = λ n. n;
  Fits = λ n. n < 256 ^ k;
  least = k;
  keeps = keeps_big k;
  writes = λ n r fits follows. (fits, refl);
  settled = λ s n r h. refl;
  twice = λ n. refl;
  again = λ n fits. refl;
  long = λ s n r h. omega (arith, length-big k s n r h);
}
