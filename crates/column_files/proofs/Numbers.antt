-- Decimal digits and their value.
use Rattle.std.proofs.Common.{◌≡◌, ℕ, ◌^◌, ◌<◌, ◌≤◌, Bool, true, false, cond, ◌&&◌, inl, inr, List, [], ◌∷◌, length, Some, None, Result, Ok, Err, refl, sym, ap, ◌∙◌, arith}
use Rattle.std.specs.Prelude.{not, ◌==◌}
use Rattle.std.specs.Char.{is_ascii_digit}
use Rattle.std.specs.List.{list_all}
use Rattle.std.specs.Result.{result_ok}
use Rattle.std.specs.Str.{all_ascii_digits, IsUtf8}
use Rattle.std.specs.Str.Parse.{digits_value, ParsesUnsigned}
use Rattle.std.proofs.lemmas.Bool.{cases_lt, lt-ltb, le-ltb}
use Rattle.std.proofs.lemmas.Fmt.{IsAscii-from_digits}
use Rattle.std.proofs.lemmas.Result.{OkIff-at_ok, OkIff-at_err}
use Rattle.std.proofs.lemmas.Str.{IsUtf8-from_ascii}
use Rattle.std.proofs.lemmas.Str.Parse.{IsNumeralModel, numerals_by_value, tells_all_ascii_digits, parse_digits}
use Rattle.column_files.specs.Reading.{value_in, is_number}
use Rattle.column_files.specs.TypeNumbers.{is_digits}

second_of : (a b : Bool) → (a && b) ≡ true → b ≡ true
second_of true b e = e
second_of false b e = absurd cc

same_test : (s : List ℕ) → all_ascii_digits s ≡ list_all is_ascii_digit s
same_test [] = refl
same_test (b ∷ s) = ap (λ (rest : Bool). is_ascii_digit b && rest) (same_test s)

-- Digits that don't begin with a 0 are a number.
pub number_of_digits : (s rest : List ℕ) (b : ℕ) (digits : Bool) → s ≡ b ∷ rest → (b == 48) ≡ false → digits ≡ list_all is_ascii_digit s → digits ≡ is_number s
number_of_digits s rest b digits front other is =
    is ∙ ap (λ (t : List ℕ). list_all is_ascii_digit t) front ∙ sym (ap (λ (zero : Bool). not zero && list_all is_ascii_digit (b ∷ rest)) other) ∙ sym (ap is_number front)

-- A number has digits alone.
pub has_digits : (s : List ℕ) → is_number s ≡ true → all_ascii_digits s ≡ true
has_digits [] is = absurd cc
has_digits (b ∷ s) is = same_test (b ∷ s) ∙ second_of (not (b == 48)) (list_all is_ascii_digit (b ∷ s)) is

-- A number has some.
pub has_some : (s : List ℕ) → is_number s ≡ true → 0 < length s
has_some [] is = absurd cc
has_some (b ∷ s) is = omega arith

-- The same of the digits of a type.
pub all_digits : (s : List ℕ) → is_digits s ≡ true → all_ascii_digits s ≡ true
all_digits [] is = absurd cc
all_digits (b ∷ s) is = same_test (b ∷ s) ∙ is

pub some_digits : (s : List ℕ) → is_digits s ≡ true → 0 < length s
some_digits [] is = absurd cc
some_digits (b ∷ s) is = omega arith

own : IsNumeralModel (λ ds. all_ascii_digits ds ≡ true) (digits_value 10)
own = numerals_by_value (λ ds. all_ascii_digits ds ≡ true) tells_all_ascii_digits

-- Digits are a text.
pub digits_text : (ds : List ℕ) → all_ascii_digits ds ≡ true → IsUtf8 ds
digits_text ds h = IsUtf8-from_ascii ds (IsAscii-from_digits ds (own.to ds h))

not_less : (v n : ℕ) → (v < n → ⊥) → n ≤ v
not_less v n above = elim (cases_lt v n) [ inl less ↦ absurd (above less) | inr more ↦ omega arith ]

-- What is parsed of digits is their value, if that has 32 bits.
module _ {E : Type 0} (ds : List ℕ) (r : Result ℕ E) (gives : ParsesUnsigned 32 10 ds r) (all : all_ascii_digits ds ≡ true) (some : 0 < length ds) where
  parsed : (n : ℕ) → r ≡ Ok n → Some n ≡ value_in ds
  parsed n is =
      let found = OkIff-at_ok r _ (digits_value 10 ds) n (parse_digits own 32 ds r gives all) is in
      ap (λ (v : ℕ). Some v) found.1 ∙ sym (ap (λ (b : Bool). cond b (Some (digits_value 10 ds)) None) (lt-ltb (digits_value 10 ds) (2 ^ 32) found.0.1))

  unparsed : (e : E) → r ≡ Err e → None ≡ value_in ds
  unparsed e is =
      let large = OkIff-at_err r _ (digits_value 10 ds) e (parse_digits own 32 ds r gives all) is in
      sym (ap (λ (b : Bool). cond b (Some (digits_value 10 ds)) None) (le-ltb (digits_value 10 ds) (2 ^ 32) (not_less (digits_value 10 ds) (2 ^ 32) (λ less. large (some, less)))))

pub value_is : {E : Type 0} (ds : List ℕ) (r : Result ℕ E) → ParsesUnsigned 32 10 ds r → all_ascii_digits ds ≡ true → 0 < length ds → result_ok r ≡ value_in ds
value_is {E = E} ds (Ok n) gives all some = parsed {E = E} ds (Ok n) gives all some n refl
value_is {E = E} ds (Err e) gives all some = unparsed {E = E} ds (Err e) gives all some e refl
