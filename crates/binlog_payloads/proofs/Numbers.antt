-- Numbers and values of fields: what is read is what the bytes spell.
use Rattle.std.proofs.Common.{◌≡◌, inl, inr, ℕ, ◌+◌, ◌<◌, ◌≤◌, Bool, true, false, cond, ltb, eqb, List, [], ◌∷◌, ◌++◌, length, take, drop, get_or, Option, Some, None, Result, Ok, Err, refl, sym, ap, subst, ◌∙◌, arith}
use Rattle.std.specs.Prelude.{is_some}
use Rattle.std.proofs.lemmas.Bool.{eqb-true, ne_eqb, eq-eqb, ltb-false, le-ltb}
use Rattle.std.proofs.lemmas.List.{length-append, length-take-le, take-append-drop}
use Rattle.std.proofs.Math.Seq.{take-append_seam, drop-append_seam}
use Rattle.binlog_wire.specs.Fields.{IsBytes}
use Rattle.binlog_wire.specs.Laws.{IsBytes-take, IsBytes-drop}
use Rattle.binlog_wire.specs.Laws.Numbers.{length-number}
use Rattle.binlog_wire.specs.Reading.{Read, ends, invalid, other_type}
use Rattle.binlog_variable_fields.specs.LenEnc.{IsLenEnc, lenenc_at}
use Rattle.binlog_variable_fields.specs.Laws.LenEnc.{keeps_lenenc}
use Rattle.binlog_payloads.specs.declared.error.PayloadError.{PayloadError}
use Rattle.binlog_payloads.specs.declared.error.PayloadError.TheVariants as errors
use Rattle.binlog_payloads.specs.Results.{step}
use Rattle.binlog_payloads.specs.Fields.{number, number_read, value, width, whole_number, number_once}

-- ---- steps

pub step_ok : {A B : Type 0} (r : Result A PayloadError) (f : A → Result B PayloadError) (y : B) → step r f ≡ Ok y → (x : A) × (r ≡ Ok x) × (f x ≡ Ok y)
step_ok (Ok x) f y e = (x, refl, e)
step_ok (Err d) f y e = absurd cc

pub refused_unless : {A : Type 0} (b : Bool) (d : PayloadError) (x : Result A PayloadError) (y : A) → cond b (Err d) x ≡ Ok y → (b ≡ false) × (x ≡ Ok y)
refused_unless true d x y e = absurd cc
refused_unless false d x y e = (refl, e)

pub allowed_if : {A : Type 0} (b : Bool) (d : PayloadError) (x : Result A PayloadError) (y : A) → cond b x (Err d) ≡ Ok y → (b ≡ true) × (x ≡ Ok y)
allowed_if true d x y e = (refl, e)
allowed_if false d x y e = absurd cc

pub same_parts : {A B : Type 0} (x y : A × B) → ◌≡◌ {A = Result (A × B) PayloadError} (Ok x) (Ok y) → (x.0 ≡ y.0) × (x.1 ≡ y.1)
same_parts {A} {B} x y e = let same : x ≡ y = cc in (ap (λ (p : A × B). p.0) same, ap (λ (p : A × B). p.1) same)

-- ---- numbers

read_ok : (read : Read ℕ) (x : ℕ × List ℕ) → number_read read ≡ Ok x → read ≡ Ok x
read_ok (Ok found) x e = let same : found ≡ x = cc in ap Ok same
read_ok (Err ends) x e = absurd cc
read_ok (Err (invalid why)) x e = absurd cc
read_ok (Err (other_type n)) x e = absurd cc

pub number_complete : (s : List ℕ) (n : ℕ) (r : List ℕ) → IsLenEnc s n r → number s ≡ Ok (n, r)
unfolding number
number_complete s n r h = ap number_read (keeps_lenenc.complete s n r h)

pub number_sound : (s : List ℕ) (x : ℕ × List ℕ) → IsBytes s → number s ≡ Ok x → IsLenEnc s x.0 x.1 × IsBytes x.1
unfolding number
number_sound s x fits e = keeps_lenenc.sound s x fits (read_ok (lenenc_at s) x e)

-- ---- values

pub value_complete : (s v others : List ℕ) → IsLenEnc s (length v) (v ++ others) → value s ≡ Ok (v, others)
unfolding value
value_complete s v others h =
    let e : number s ≡ Ok (length v, v ++ others) = number_complete s (length v) (v ++ others) h in
    let enough : ltb (length (v ++ others)) (length v) ≡ false = le-ltb _ _ (omega (arith, length-append v others)) in
    rw (e, enough, take-append_seam v others, drop-append_seam v others) refl

pub value_sound : (s v others : List ℕ) → IsBytes s → value s ≡ Ok (v, others) → IsLenEnc s (length v) (v ++ others) × IsBytes v × IsBytes others
unfolding value
value_sound s v others fits e =
    let p = step_ok (number s) (λ (size : ℕ × List ℕ). cond (ltb (length size.1) size.0) (Err errors.EventTruncated) (Ok (take size.0 size.1, drop size.0 size.1))) (v, others) e in
    let n = p.0.0 in
    let r = p.0.1 in
    let g = refused_unless (ltb (length r) n) errors.EventTruncated (Ok (take n r, drop n r)) (v, others) p.2 in
    let enough : n ≤ length r = ltb-false _ _ g.0 in
    let here = number_sound s p.0 fits p.1 in
    let same = same_parts (take n r, drop n r) (v, others) g.1 in
    let front : take n r ≡ v = same.0 in
    let back : drop n r ≡ others = same.1 in
    let long : length v ≡ n = sym (ap length front) ∙ length-take-le n r enough in
    let whole : v ++ others ≡ r = ap (λ (t : List ℕ). t ++ others) (sym front) ∙ ap (λ (t : List ℕ). take n r ++ t) (sym back) ∙ take-append-drop n r in (
      subst (λ (k : ℕ). IsLenEnc s k (v ++ others)) (sym long) (subst (λ (t : List ℕ). IsLenEnc s n t) (sym whole) here.0),
      subst IsBytes front (IsBytes-take n r here.1),
      subst IsBytes back (IsBytes-drop n r here.1),
    )

-- ---- numbers that are all of a value

width_small : (n : ℕ) → n < 251 → width n ≡ 1
width_small n h = rw (ne_eqb n 252 (λ e. absurd (omega arith)), ne_eqb n 253 (λ e. absurd (omega arith)), ne_eqb n 254 (λ e. absurd (omega arith))) refl

-- A number takes as many bytes as its first one says.
pub width_of : (s : List ℕ) (n : ℕ) (r : List ℕ) → IsLenEnc s n r → length s ≡ width (get_or s 0 0) + length r
width_of s n r (inl h) = rw h.0 (omega (arith, width_small n h.1))
width_of s n r (inr (inl h)) = rw h.1 (omega (arith, length-number 2 h.0 n r h.2))
width_of s n r (inr (inr (inl h))) = rw h.1 (omega (arith, length-number 3 h.0 n r h.2))
width_of s n r (inr (inr (inr h))) = rw h.1 (omega (arith, length-number 8 h.0 n r h.2))

no_bytes : (r : List ℕ) (a b : ℕ) → a ≡ b → a ≡ b + length r → r ≡ []
no_bytes [] a b e h = refl
no_bytes (x ∷ r) a b e h = absurd (omega arith)

pub whole_complete : (v : List ℕ) (n : ℕ) → IsLenEnc v n [] → whole_number v ≡ Ok n
unfolding whole_number
whole_complete v n h =
    let wide : eqb (length v) (width (get_or v 0 0)) ≡ true = eq-eqb _ _ (omega (arith, width_of v n [] h)) in
    let e : number v ≡ Ok (n, []) = number_complete v n [] h in
    rw (wide, e) refl

pub whole_sound : (v : List ℕ) (n : ℕ) → IsBytes v → whole_number v ≡ Ok n → IsLenEnc v n []
unfolding whole_number
whole_sound v n fits e =
    let g = allowed_if (eqb (length v) (width (get_or v 0 0))) errors.FieldLength (step (number v) (λ (found : ℕ × List ℕ). Ok found.0)) n e in
    let p = step_ok (number v) (λ (found : ℕ × List ℕ). Ok found.0) n g.1 in
    let here = number_sound v p.0 fits p.1 in
    let same : p.0.0 ≡ n = cc in
    let none : p.0.1 ≡ [] = no_bytes p.0.1 (length v) (width (get_or v 0 0)) (eqb-true _ _ g.0) (width_of v p.0.0 p.0.1 here.0) in
    subst (λ (k : ℕ). IsLenEnc v k []) same (subst (λ (t : List ℕ). IsLenEnc v p.0.0 t) none here.0)

-- ---- fields that may be there once

pub once_complete : {A : Type 0} (given : Option A) (v : List ℕ) (n : ℕ) → given ≡ None → IsLenEnc v n [] → number_once (is_some given) v ≡ Ok n
unfolding number_once
once_complete None v n none h = whole_complete v n h
once_complete (Some x) v n none h = absurd cc

pub once_sound : {A : Type 0} (given : Option A) (v : List ℕ) (n : ℕ) → IsBytes v → number_once (is_some given) v ≡ Ok n → (given ≡ None) × IsLenEnc v n []
unfolding number_once
once_sound None v n fits e = (refl, whole_sound v n fits e)
once_sound (Some x) v n fits e = absurd cc
