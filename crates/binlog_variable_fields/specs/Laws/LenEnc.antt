-- Length-encoded integers: reading and writing keep to their grammar, and no encoding is shorter than the written one.
use Rattle.std.proofs.Common.{◌≡◌, ℕ, suc, true, eqb, List, ◌∷◌, Ok, ap, inl, inr, Bool, false, cond, ltb, Err, refl, subst, [], ◌+◌, ◌^◌, ◌<◌, ◌++◌, ◌≤◌, length, arith, drop}
use Rattle.std.proofs.lemmas.Bool.{eqb-true, ltb-true, lt-ltb}
use Rattle.std.proofs.lemmas.List.{length-drop}
use Rattle.byteorder.specs.Endian.{little_bytes}
use Rattle.binlog_wire.specs.Fields.{IsBytes, number_at, little_number}
use Rattle.binlog_wire.specs.Laws.Numbers.{keeps_number, length-number, length-little_bytes}
use Rattle.binlog_wire.specs.Reading.{invalid, ends}
use Rattle.binlog_wire.specs.Laws.{KeepsTo, guard_ok}
use Rattle.binlog_wire.specs.declared.error.Invalid.TheVariants as kinds
use Rattle.binlog_variable_fields.specs.LenEnc.{IsMarked, IsLenEnc, lenenc_at, lenenc_written}

marked_sound : (mark k b : ℕ) (s : List ℕ) (x : ℕ × List ℕ) → IsBytes (b ∷ s) → eqb b mark ≡ true → number_at k s ≡ Ok x → IsMarked mark k (b ∷ s) x.0 x.1 × IsBytes x.1
marked_sound mark k b s x fits h e =
    let p = (keeps_number k).sound s x (λ i. fits (suc i)) e in
    ((s, ap (λ (c : ℕ). c ∷ s) (eqb-true _ _ h), p.0), p.1)

sound_by : (b : ℕ) (s : List ℕ) (x : ℕ × List ℕ) → IsBytes (b ∷ s) → (t u v w : Bool) → ltb b 251 ≡ t → eqb b 252 ≡ u → eqb b 253 ≡ v → eqb b 254 ≡ w
    → cond t (Ok (b, s)) (cond u (number_at 2 s) (cond v (number_at 3 s) (cond w (number_at 8 s) (Err (invalid (kinds.LenEnc b)))))) ≡ Ok x
    → IsLenEnc (b ∷ s) x.0 x.1 × IsBytes x.1
sound_by b s x fits true u v w ht hu hv hw e =
    let same : ◌≡◌ {A = ℕ × List ℕ} (b, s) x = cc in
    subst (λ (y : ℕ × List ℕ). IsLenEnc (b ∷ s) y.0 y.1 × IsBytes y.1) same (inl (refl, ltb-true _ _ ht), λ i. fits (suc i))
sound_by b s x fits false true v w ht hu hv hw e = let p = marked_sound 252 2 b s x fits hu e in (inr (inl p.0), p.1)
sound_by b s x fits false false true w ht hu hv hw e = let p = marked_sound 253 3 b s x fits hv e in (inr (inr (inl p.0)), p.1)
sound_by b s x fits false false false true ht hu hv hw e = let p = marked_sound 254 8 b s x fits hw e in (inr (inr (inr p.0)), p.1)
sound_by b s x fits false false false false ht hu hv hw e = absurd cc

sound : (s : List ℕ) (x : ℕ × List ℕ) → IsBytes s → lenenc_at s ≡ Ok x → IsLenEnc s x.0 x.1 × IsBytes x.1
sound [] x fits e = absurd cc
sound (b ∷ s) x fits e = sound_by b s x fits _ _ _ _ refl refl refl refl e

complete : (s : List ℕ) (n : ℕ) (r : List ℕ) → IsLenEnc s n r → lenenc_at s ≡ Ok (n, r)
complete s n r (inl h) = rw (h.0, lt-ltb n 251 h.1) refl
complete s n r (inr (inl h)) = rw h.1 ((keeps_number 2).complete h.0 n r h.2)
complete s n r (inr (inr (inl h))) = rw h.1 ((keeps_number 3).complete h.0 n r h.2)
complete s n r (inr (inr (inr h))) = rw h.1 ((keeps_number 8).complete h.0 n r h.2)

pub keeps_lenenc : KeepsTo IsLenEnc lenenc_at
keeps_lenenc = record { sound = sound; complete = complete }

writes_by : (n : ℕ) (r : List ℕ) (t u v : Bool) → ltb n 251 ≡ t → ltb n (256 ^ 2) ≡ u → ltb n (256 ^ 3) ≡ v → n < 256 ^ 8
    → IsLenEnc (cond t (n ∷ []) (cond u (252 ∷ little_bytes 2 n) (cond v (253 ∷ little_bytes 3 n) (254 ∷ little_bytes 8 n))) ++ r) n r
writes_by n r true u v ht hu hv fits = inl (refl, ltb-true _ _ ht)
writes_by n r false true v ht hu hv fits = inr (inl (little_bytes 2 n ++ r, refl, (ltb-true _ _ hu, refl)))
writes_by n r false false true ht hu hv fits = inr (inr (inl (little_bytes 3 n ++ r, refl, (ltb-true _ _ hv, refl))))
writes_by n r false false false ht hu hv fits = inr (inr (inr (little_bytes 8 n ++ r, refl, (fits, refl))))

pub lenenc_long : (s : List ℕ) (n : ℕ) (r : List ℕ) → IsLenEnc s n r → 1 + length r ≤ length s
lenenc_long s n r (inl h) = rw h.0 (omega arith)
lenenc_long s n r (inr (inl h)) = rw h.1 (omega (arith, length-number 2 h.0 n r h.2))
lenenc_long s n r (inr (inr (inl h))) = rw h.1 (omega (arith, length-number 3 h.0 n r h.2))
lenenc_long s n r (inr (inr (inr h))) = rw h.1 (omega (arith, length-number 8 h.0 n r h.2))

pub lenenc_writes : (n : ℕ) (r : List ℕ) → n < 256 ^ 8 → IsLenEnc (lenenc_written n ++ r) n r
unfolding lenenc_written
lenenc_writes n r fits = writes_by n r _ _ _ refl refl refl fits

most_three : (n : ℕ) (t v : Bool) → length (cond t (n ∷ []) (cond true (252 ∷ little_bytes 2 n) (cond v (253 ∷ little_bytes 3 n) (254 ∷ little_bytes 8 n)))) ≤ 3
most_three n true v = omega arith
most_three n false v = omega (arith, length-little_bytes 2 n)

most_four : (n : ℕ) (t u : Bool) → length (cond t (n ∷ []) (cond u (252 ∷ little_bytes 2 n) (cond true (253 ∷ little_bytes 3 n) (254 ∷ little_bytes 8 n)))) ≤ 4
most_four n true u = omega arith
most_four n false true = omega (arith, length-little_bytes 2 n)
most_four n false false = omega (arith, length-little_bytes 3 n)

most_nine : (n : ℕ) (t u v : Bool) → length (cond t (n ∷ []) (cond u (252 ∷ little_bytes 2 n) (cond v (253 ∷ little_bytes 3 n) (254 ∷ little_bytes 8 n)))) ≤ 9
most_nine n true u v = omega arith
most_nine n false true v = omega (arith, length-little_bytes 2 n)
most_nine n false false true = omega (arith, length-little_bytes 3 n)
most_nine n false false false = omega (arith, length-little_bytes 8 n)

pub lenenc_most : (n : ℕ) → length (lenenc_written n) ≤ 9
unfolding lenenc_written
lenenc_most n = most_nine n (ltb n 251) (ltb n (256 ^ 2)) (ltb n (256 ^ 3))

-- No encoding is shorter than the written one.
pub lenenc_shortest : (s : List ℕ) (n : ℕ) (r : List ℕ) → IsLenEnc s n r → length (lenenc_written n) + length r ≤ length s
unfolding lenenc_written
lenenc_shortest s n r (inl h) = rw (h.0, lt-ltb n 251 h.1) (omega arith)
lenenc_shortest s n r (inr (inl h)) =
    let w : length (cond (ltb n 251) (n ∷ []) (cond true (252 ∷ little_bytes 2 n) (cond (ltb n (256 ^ 3)) (253 ∷ little_bytes 3 n) (254 ∷ little_bytes 8 n)))) ≤ 3 = most_three n (ltb n 251) (ltb n (256 ^ 3)) in
    let fits : ltb n (256 ^ 2) ≡ true = lt-ltb _ _ h.2.0 in
    let whole : length s ≡ suc (length h.0) = ap length h.1 in
    rw fits (omega (arith, w, whole, length-number 2 h.0 n r h.2))
lenenc_shortest s n r (inr (inr (inl h))) =
    let w : length (cond (ltb n 251) (n ∷ []) (cond (ltb n (256 ^ 2)) (252 ∷ little_bytes 2 n) (cond true (253 ∷ little_bytes 3 n) (254 ∷ little_bytes 8 n)))) ≤ 4 = most_four n (ltb n 251) (ltb n (256 ^ 2)) in
    let fits : ltb n (256 ^ 3) ≡ true = lt-ltb _ _ h.2.0 in
    let whole : length s ≡ suc (length h.0) = ap length h.1 in
    rw fits (omega (arith, w, whole, length-number 3 h.0 n r h.2))
lenenc_shortest s n r (inr (inr (inr h))) =
    let whole : length s ≡ suc (length h.0) = ap length h.1 in
    omega (arith, most_nine n (ltb n 251) (ltb n (256 ^ 2)) (ltb n (256 ^ 3)), whole, length-number 8 h.0 n r h.2)

-- ---- what was read isn't longer than the input

number_left : (k : ℕ) (s : List ℕ) (x : ℕ × List ℕ) → number_at k s ≡ Ok x → length x.1 ≤ length s
number_left k s x e =
    let g = guard_ok (ltb (length s) k) ends (Ok (little_number k s, drop k s)) x e in
    let same : ◌≡◌ {A = ℕ × List ℕ} (little_number k s, drop k s) x = cc in
    subst (λ (y : ℕ × List ℕ). length y.1 ≤ length s) same (omega (arith, length-drop k s))

lenenc_left_by : (b : ℕ) (s : List ℕ) (x : ℕ × List ℕ) (t u v w : Bool)
    → cond t (Ok (b, s)) (cond u (number_at 2 s) (cond v (number_at 3 s) (cond w (number_at 8 s) (Err (invalid (kinds.LenEnc b)))))) ≡ Ok x
    → length x.1 ≤ length s
lenenc_left_by b s x true u v w e =
    let same : ◌≡◌ {A = ℕ × List ℕ} (b, s) x = cc in
    subst (λ (y : ℕ × List ℕ). length y.1 ≤ length s) same (omega arith)
lenenc_left_by b s x false true v w e = number_left 2 s x e
lenenc_left_by b s x false false true w e = number_left 3 s x e
lenenc_left_by b s x false false false true e = number_left 8 s x e
lenenc_left_by b s x false false false false e = absurd cc

-- Reading a number leaves at most as many bytes as there were.
pub lenenc_left : (s : List ℕ) (x : ℕ × List ℕ) → lenenc_at s ≡ Ok x → length x.1 ≤ length s
lenenc_left [] x e = absurd cc
lenenc_left (b ∷ s) x e =
    let h : length x.1 ≤ length s = lenenc_left_by b s x (ltb b 251) (eqb b 252) (eqb b 253) (eqb b 254) e in
    omega (arith, h)
