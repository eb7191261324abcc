-- Numbers of k bytes: any, allowed ones, and codes.
use Rattle.std.proofs.Common.{◌≡◌, ℕ, zero, suc, ◌+◌, ◌*◌, ◌/◌, ◌%◌, ◌^◌, ◌<◌, ◌≤◌, Bool, false, ltb, List, [], ◌∷◌, ◌++◌, length, take, drop, Result, Ok, Err, refl, sym, ap, subst, ◌∙◌, arith}
use Rattle.std.proofs.Math.Nat.{div-div-eq-div-mul, pow-succ'}
use Rattle.std.specs.Int.{bytes_low_first}
use Rattle.std.proofs.lemmas.Bool.{ltb-false, le-ltb}
use Rattle.std.proofs.lemmas.List.{drop_at, take-append-drop, length-append}
use Rattle.byteorder.specs.Endian.{little_number, little_bytes}
use Rattle.byteorder.specs.Numbers.{little_from-cons, little_from-lt, little_number-reads_back, length-bytes_low_first}
use Rattle.binlog_wire.specs.declared.error.Invalid.{Invalid}
use Rattle.binlog_wire.specs.Reading.{ends, invalid}
use Rattle.binlog_wire.specs.Fields.{IsBytes, IsNumber, number_at, IsAllowed, allow, allowed_at, IsCoded, meant, coded_at}
use Rattle.binlog_wire.specs.Laws.{KeepsTo, IsBytes-drop, bind_ok, guard_ok, allow_ok}

-- The bytes of a number from its second on are those of the number divided by 256.
bytes_low_first-shift : (i k n : ℕ) → bytes_low_first (suc i) k n ≡ bytes_low_first i k (n / 256)
bytes_low_first-shift i zero n = refl
bytes_low_first-shift zero (suc k) n = ap (λ (t : List ℕ). n / 256 % 256 ∷ t) (bytes_low_first-shift 1 k n)
bytes_low_first-shift (suc i) (suc k) n =
    let e : n / 256 ^ suc (suc i) ≡ n / 256 / 256 ^ suc i = ap (λ (p : ℕ). n / p) (pow-succ' 256 (suc i)) ∙ sym (div-div-eq-div-mul n 256 (256 ^ suc i)) in
    rw (e, bytes_low_first-shift (suc (suc i)) k n) refl

-- Encoding the number that k bytes make gives these bytes.
pub little_bytes-little_number : (k : ℕ) (s : List ℕ) → IsBytes s → k ≤ length s → little_bytes k (little_number k s) ≡ take k s
little_bytes-little_number zero s fits h = refl
little_bytes-little_number (suc k) [] fits h = absurd (omega arith)
little_bytes-little_number (suc k) (b ∷ s) fits h =
    let moved = little_from-cons 0 k b s in
    let ih = little_bytes-little_number k s (λ i. fits (suc i)) (omega arith) in
    let byte : b < 256 = fits 0 in
    let low : (b + 256 * little_number k s) % 256 ≡ b = omega arith in
    let high : (b + 256 * little_number k s) / 256 ≡ little_number k s = omega arith in
    rw (moved, low, bytes_low_first-shift 0 k (b + 256 * little_number k s), high, ih) refl

-- The encoding of a number in k bytes has k bytes.
pub length-little_bytes : (k n : ℕ) → length (little_bytes k n) ≡ k
length-little_bytes k n = length-bytes_low_first 0 k n

-- Bytes that encode a number of k bytes are k bytes longer than the rest.
pub length-number : (k : ℕ) (s : List ℕ) (n : ℕ) (r : List ℕ) → IsNumber k s n r → length s ≡ k + length r
length-number k s n r h = ap length h.1 ∙ length-append (little_bytes k n) r ∙ ap (λ (m : ℕ). m + length r) (length-little_bytes k n)

pub keeps_number : (k : ℕ) → KeepsTo (IsNumber k) (number_at k)
keeps_number k = record {
  sound = λ s x fits e.
      let g = guard_ok (ltb (length s) k) ends (Ok (little_number k s, drop k s)) x e in
      let long : k ≤ length s = ltb-false _ _ g.0 in
      let same : ◌≡◌ {A = ℕ × List ℕ} (little_number k s, drop k s) x = cc in
      subst (λ (y : ℕ × List ℕ). IsNumber k s y.0 y.1 × IsBytes y.1) same
      ((little_from-lt 0 k s fits, rw (little_bytes-little_number k s fits long) (sym (take-append-drop k s))), IsBytes-drop k s fits);
  complete = λ s n r h.
      let long : ltb (length (little_bytes k n ++ r)) k ≡ false = le-ltb _ _ (omega (arith, length-append (little_bytes k n) r, length-little_bytes k n)) in
      rw (h.1, long, little_number-reads_back k n r h.0, drop_at (little_bytes k n) r k (length-little_bytes k n)) refl;
}

pub keeps_allowed : (k : ℕ) (allowed : ℕ → Bool) (why : ℕ → Invalid) → KeepsTo (IsAllowed k allowed) (allowed_at k allowed why)
keeps_allowed k allowed why = record {
  sound = λ s x fits e.
      let b = bind_ok (number_at k s) (allow allowed why) x e in
      let n = (keeps_number k).sound s b.0 fits b.1 in
      let g = allow_ok (allowed b.0.0) (invalid (why b.0.0)) (Ok b.0) x b.2 in
      let same : b.0 ≡ x = cc in
      subst (λ (y : ℕ × List ℕ). IsAllowed k allowed s y.0 y.1 × IsBytes y.1) same ((n.0, g.0), n.1);
  complete = λ s n r h. rw ((keeps_number k).complete s n r h.0, h.1) refl;
}

-- The law of a table of codes: decoding inverts `code`, and decodes nothing else.
pub record IsCode {E W : Type 0} (k : ℕ) (code : E → ℕ) (decoded : ℕ → Result E W) : Type 0 where
  -- Each code fits in k bytes.
  pub fits : (e : E) → code e < 256 ^ k
  -- A code decodes to its value.
  pub again : (e : E) → decoded (code e) ≡ Ok e
  -- Only the code of a value decodes to it.
  pub only : (n : ℕ) (e : E) → decoded n ≡ Ok e → n ≡ code e

meant_ok : {E : Type 0} (d : Result E Invalid) (rest : List ℕ) (x : E × List ℕ) → meant d rest ≡ Ok x → (d ≡ Ok x.0) × (rest ≡ x.1)
meant_ok {E} (Ok e) rest x h = let same : ◌≡◌ {A = E × List ℕ} (e, rest) x = cc in (ap (λ (y : E × List ℕ). Ok y.0) same, ap (λ (y : E × List ℕ). y.1) same)
meant_ok {E} (Err why) rest x h = absurd cc

pub keeps_coded : {E : Type 0} (k : ℕ) (code : E → ℕ) (decoded : ℕ → Result E Invalid) → IsCode k code decoded → KeepsTo (IsCoded k code) (coded_at k decoded)
keeps_coded {E} k code decoded law = record {
  sound = λ s x fits e.
      let b = bind_ok (number_at k s) (λ n. meant (decoded n.0) n.1) x e in
      let n = (keeps_number k).sound s b.0 fits b.1 in
      let m = meant_ok (decoded b.0.0) b.0.1 x b.2 in (
        subst (λ (y : List ℕ). IsNumber k s (code x.0) y) m.1 (subst (λ (z : ℕ). IsNumber k s z b.0.1) (law.only b.0.0 x.0 m.0) n.0),
        subst (λ (y : List ℕ). IsBytes y) m.1 n.1,
      );
  complete = λ s v r h. rw ((keeps_number k).complete s (code v) r h, law.again v) refl;
}
