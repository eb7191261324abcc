-- What the readers at the start of a text give.
use Rattle.std.proofs.Common.{◌≡◌, ℕ, suc, ◌+◌, ◌^◌, ◌<◌, ◌≤◌, ◌↔◌, Bool, true, false, cond, eqb, ◌&&◌, inl, inr, List, [], ◌∷◌, length, take, drop, Option, Some, None, Result, Ok, Err, refl, sym, ap, ◌∙◌, lit≤, length-take, length-take-le, arith}
use Rattle.std.specs.Char.{is_ascii_digit}
use Rattle.std.specs.List.{prefix_len}
use Rattle.std.specs.Result.{IsOk}
use Rattle.std.specs.Str.{all_ascii_digits, IsUtf8}
use Rattle.std.specs.Str.Parse.{digits_value, ParsesUnsigned}
use Rattle.std.proofs.lemmas.Bool.{cases_lt, ne_eqb, le-ltb}
use Rattle.std.proofs.lemmas.Fmt.{IsAscii-from_digits}
use Rattle.std.proofs.lemmas.Result.{OkIff-at_ok, OkIff-at_err}
use Rattle.std.proofs.lemmas.Str.{IsUtf8-from_ascii}
use Rattle.std.proofs.lemmas.Str.Parse.{IsNumeralModel, numerals_by_value, tells_all_ascii_digits, parse_digits}
use Rattle.uuid.specs.Text.{parsed, parsed_hyphenated, parsed_simple, parsed_braced, parsed_urn, has_hyphens, digits_of}
use Rattle.binlog_gtid_text.specs.declared.error.Fault.{Fault}
use Rattle.binlog_gtid_text.specs.declared.piece.Piece.TheVariants as pieces
use Rattle.binlog_gtid_text.specs.declared.error.GtidTextFault.TheVariants as faults
use Rattle.binlog_gtid_text.specs.Faults.{fault}
use Rattle.binlog_gtid_text.specs.Reading.{◌>>=◌, skip, value_in, uuid_by, uuid_at, source_at}

-- ---- numbers

digits_front_by : (b n : ℕ) (s : List ℕ) (v : Bool) → is_ascii_digit b ≡ v → all_ascii_digits (take n s) ≡ true → all_ascii_digits (take (cond v (1 + n) 0) (b ∷ s)) ≡ true
digits_front_by b n s true f h = let more : 1 + n ≡ suc n = omega arith in rw (more, f, h) refl
digits_front_by b n s false f h = refl

-- the digits at the start are digits
pub digits_front : (s : List ℕ) → all_ascii_digits (take (prefix_len is_ascii_digit s) s) ≡ true
digits_front [] = refl
digits_front (b ∷ s) = digits_front_by b (prefix_len is_ascii_digit s) s (is_ascii_digit b) refl (digits_front s)

own : IsNumeralModel (λ ds. all_ascii_digits ds ≡ true) (digits_value 10)
own = numerals_by_value (λ ds. all_ascii_digits ds ≡ true) tells_all_ascii_digits

pub digits_text : (ds : List ℕ) → all_ascii_digits ds ≡ true → IsUtf8 ds
digits_text ds h = IsUtf8-from_ascii ds (IsAscii-from_digits ds (own.to ds h))

below_less : (v m n : ℕ) → m ≤ n → (v < n → ⊥) → m ≤ v
below_less v m n le above = elim (cases_lt v n) [ inl less ↦ absurd (above less) | inr more ↦ omega arith ]

module _ {E : Type 0} (ds : List ℕ) (r : Result ℕ E) (gives : ParsesUnsigned 64 10 ds r) (all : all_ascii_digits ds ≡ true) (some : 0 < length ds) where
  pub parsed_value : (n : ℕ) → r ≡ Ok n → n ≡ digits_value 10 ds
  parsed_value n is = (OkIff-at_ok r _ (digits_value 10 ds) n (parse_digits own 64 ds r gives all) is).1

  pub no_value : (e : E) → r ≡ Err e → value_in ds ≡ None
  no_value e is =
      let large = OkIff-at_err r _ (digits_value 10 ds) e (parse_digits own 64 ds r gives all) is in
      let above : 2 ^ 63 ≤ digits_value 10 ds = below_less (digits_value 10 ds) (2 ^ 63) (2 ^ 64) (lit≤ tt) (λ less. large (some, less)) in
      ap (λ (b : Bool). cond b (Some (digits_value 10 ds)) None) (le-ltb (digits_value 10 ds) (2 ^ 63) above)

-- ---- UUIDs

no_uuid_by : (t : List ℕ) → (length t ≡ 36 → ⊥) → parsed_hyphenated t ≡ None
no_uuid_by t not = ap (λ (b : Bool). cond (b && has_hyphens t) (parsed_simple (digits_of t)) None) (ne_eqb (length t) 36 not)

-- fewer than 36 bytes
pub short_text : (s : List ℕ) → length s < 36 → parsed_hyphenated (take 36 s) ≡ None
short_text s short = no_uuid_by (take 36 s) (λ same. omega (arith, length-take 36 s, same))

parsed_of_36_by : (t : List ℕ) (n : ℕ) → n ≡ 36 → cond (eqb n 32) (parsed_simple t) (cond (eqb n 36) (parsed_hyphenated t) (cond (eqb n 38) (parsed_braced t) (cond (eqb n 45) (parsed_urn t) None))) ≡ parsed_hyphenated t
parsed_of_36_by t n long = rw long refl

-- of the forms that are read, only that with hyphens has 36 bytes
pub parsed_of_36 : (t : List ℕ) → length t ≡ 36 → parsed t ≡ parsed_hyphenated t
parsed_of_36 t long = parsed_of_36_by t (length t) long

pub uuid_short : (s : List ℕ) → length s < 36 → uuid_at s ≡ Err (fault faults.Uuid s)
unfolding uuid_at
uuid_short s short = ap (uuid_by s) (short_text s short)

module _ (s : List ℕ) (long : 36 ≤ length s) where
  parsed_front : parsed (take 36 s) ≡ parsed_hyphenated (take 36 s)
  parsed_front = parsed_of_36 (take 36 s) (length-take-le 36 s long)

  pub uuid_read : (sid : List ℕ) → Some sid ≡ parsed (take 36 s) → uuid_at s ≡ Ok (sid, skip (drop 36 s))
  unfolding uuid_at
  uuid_read sid is = ap (uuid_by s) (sym parsed_front ∙ sym is)

  none_parsed : {E : Type 0} (o : Option (List ℕ)) (r : Result (List ℕ) E) (e : E) → r ≡ Err e → (((u : List ℕ) × (o ≡ Some u)) → IsOk r) → o ≡ None
  none_parsed None r e is ok = refl
  none_parsed (Some u) (Ok x) e is ok = absurd cc
  none_parsed (Some u) (Err d) e is ok = absurd (let not : false ≡ true = ok (u, refl) in cc)

  pub uuid_refused : {E : Type 0} (r : Result (List ℕ) E) (e : E) → r ≡ Err e → (IsOk r ↔ ((u : List ℕ) × (parsed (take 36 s) ≡ Some u))) → uuid_at s ≡ Err (fault faults.Uuid s)
  unfolding uuid_at
  uuid_refused r e is ok = ap (uuid_by s) (sym parsed_front ∙ none_parsed (parsed (take 36 s)) r e is ok.1)

-- ---- the first piece

pub source_ok : (s sid rest : List ℕ) → uuid_at s ≡ Ok (sid, rest) → source_at s ≡ Ok (pieces.Source sid, rest)
unfolding source_at
source_ok s sid rest h = ap (λ (r : Result (List ℕ × List ℕ) Fault). r >>= λ sid. Ok (pieces.Source sid.0, sid.1)) h

pub source_err : (s : List ℕ) (f : Fault) → uuid_at s ≡ Err f → source_at s ≡ Err f
unfolding source_at
source_err s f h = ap (λ (r : Result (List ℕ × List ℕ) Fault). r >>= λ sid. Ok (pieces.Source sid.0, sid.1)) h
