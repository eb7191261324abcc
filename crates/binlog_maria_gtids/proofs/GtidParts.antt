-- The parts of the text of a list of GTIDs, and the list as a grammar.
use Rattle.std.proofs.Common.{rules, Bor, ◌≡◌, inl, inr, ℕ, ◌+◌, ◌^◌, ◌<◌, ◌≤◌, Bool, true, false, cond, ltb, ◌&&◌, List, [], ◌∷◌, ◌++◌, length, take, get_or, map, Result, Ok, Err, refl, sym, ap, ◌∙◌, arith}
use Rattle.std.specs.Char.{is_ascii_digit}
use Rattle.std.specs.List.{list_all}
use Rattle.std.specs.Str.Parse.{digits_value, ParsesUnsigned}
use Rattle.std.proofs.lemmas.Bool.{cases_lt, ltb-true, le-ltb}
use Rattle.std.proofs.lemmas.Bool.Decides.{nat_tests}
use Rattle.std.proofs.lemmas.List.{map-append, take_more, get_or-map, length-map}
use Rattle.std.proofs.lemmas.Result.{OkIff-at_ok, OkIff-at_err}
use Rattle.std.proofs.lemmas.Str.Parse.{IsNumeralModel, IsDigitsTest, numerals_by_value, parse_digits}
use Rattle.binlog_mariadb.specs.declared.maria_gtid.MariaGtid.{MariaGtid}
use Rattle.binlog_maria_gtids.specs.declared.gtid_text_error.MariaGtidFault.{MariaGtidFault}
use Rattle.binlog_maria_gtids.specs.declared.gtid_text_error.MariaGtidFault.TheVariants.{Range}
use Rattle.binlog_maria_gtids.specs.GtidReading.{has_digits_alone, number_in, gtid_in, AreRead}

-- ---- numbers

tells : IsDigitsTest (λ ds. list_all is_ascii_digit ds ≡ true)
tells = search rules

own : IsNumeralModel (λ ds. list_all is_ascii_digit ds ≡ true) (digits_value 10)
own = numerals_by_value (λ ds. list_all is_ascii_digit ds ≡ true) tells

pub both_parts : (a b : Bool) → (a && b) ≡ true → (a ≡ true) × (b ≡ true)
both_parts true true h = (refl, refl)
both_parts true false h = absurd cc
both_parts false b h = absurd cc

module _ {E : Type 0} (ds : List ℕ) (r : Result ℕ E) (gives : ParsesUnsigned 64 10 ds r) (alone : has_digits_alone ds ≡ true) where
  some : 0 < length ds
  some = ltb-true 0 (length ds) (both_parts (ltb 0 (length ds)) (list_all is_ascii_digit ds) alone).0

  digits : list_all is_ascii_digit ds ≡ true
  digits = (both_parts (ltb 0 (length ds)) (list_all is_ascii_digit ds) alone).1

  pub parsed_number : (n : ℕ) → r ≡ Ok n → Ok n ≡ number_in 64 ds
  parsed_number n is =
      let value = OkIff-at_ok r _ (digits_value 10 ds) n (parse_digits own 64 ds r gives digits) is in
      rw alone (grind (arith, nat_tests, value.0.1, value.1))

  pub no_number : (e : E) → r ≡ Err e → Err Range ≡ number_in 64 ds
  no_number e is =
      let large = OkIff-at_err r _ (digits_value 10 ds) e (parse_digits own 64 ds r gives digits) is in
      let above : 2 ^ 64 ≤ digits_value 10 ds = elim (cases_lt (digits_value 10 ds) (2 ^ 64)) [ inl less ↦ absurd (large (some, less)) | inr more ↦ more ] in
      rw alone (sym (ap (λ (b : Bool). cond b (Ok (digits_value 10 ds)) (Err Range)) (le-ltb (digits_value 10 ds) (2 ^ 64) above)))

-- ---- one part more

pub read_more : (parts : List (List ℕ)) (gs : List MariaGtid) (k : ℕ) (g : MariaGtid) → k < length parts → AreRead (take k parts) gs → gtid_in (get_or parts k []) ≡ Ok g → AreRead (take (k + 1) parts) (gs ++ g ∷ [])
read_more parts gs k g within read one =
    ap (map gtid_in) (take_more parts k [] within)
    ∙ map-append gtid_in (take k parts) (get_or parts k [] ∷ [])
    ∙ ap (λ (rs : List (Result MariaGtid MariaGtidFault)). rs ++ gtid_in (get_or parts k []) ∷ []) read
    ∙ ap (λ (r : Result MariaGtid MariaGtidFault). map Ok gs ++ r ∷ []) one
    ∙ sym (map-append Ok gs (g ∷ []))

pub read_part : (parts : List (Bor (List ℕ))) (gs : List MariaGtid) (k : ℕ) (none : Bor (List ℕ)) (g : MariaGtid) → k < length parts
    → AreRead (take k (map (λ (part : Bor (List ℕ)). part.now) parts)) gs → gtid_in (get_or parts k none).now ≡ Ok g
    → AreRead (take (k + 1) (map (λ (part : Bor (List ℕ)). part.now) parts)) (gs ++ g ∷ [])
read_part parts gs k none g within read one =
    let texts : List (List ℕ) = map (λ (part : Bor (List ℕ)). part.now) parts in
    let text : get_or texts k [] ≡ (get_or parts k none).now = get_or-map (λ (part : Bor (List ℕ)). part.now) parts k none [] within in
    read_more texts gs k g (omega (arith, length-map parts (λ (part : Bor (List ℕ)). part.now), within)) read (ap gtid_in text ∙ one)
