-- Decimal numbers by groups, as a line writes them.
use Rattle.std.proofs.Common.{◌≡◌, ℕ, zero, suc, ◌+◌, ◌/◌, ◌%◌, ◌^◌, Bool, cond, List, [], ◌∷◌, ◌++◌, refl, ap}
use Rattle.std.specs.Prelude.{◌==◌}
use Rattle.std.specs.Fmt.{decimal}
use Rattle.json_line.specs.Decimals as decimals
use Rattle.binlog_values.specs.DecimalGroups.{groups_text, point_text, parts_text}
use Rattle.binlog_values.specs.Texts.{last_digits, digits_codes, sign_text}

codes_same : (count n : ℕ) → decimals.last_codes count n ≡ digits_codes (last_digits count n)
unfolding decimals.last_codes last_digits
codes_same zero n = refl
codes_same (suc count) n = ap (λ (l : List ℕ). (48 + n / 10 ^ count % 10) ∷ l) (codes_same count n)

nines_same : (groups : List ℕ) → decimals.nines_text groups ≡ groups_text groups
nines_same [] = refl
nines_same (group ∷ groups) = λ i. codes_same 9 group i ++ nines_same groups i

-- The text of groups is that of a line.
pub parts_same : (is_negative : Bool) (first : ℕ) (whole : List ℕ) (scale : ℕ) (part : List ℕ) (last : ℕ)
    → decimals.decimal_text is_negative first whole scale part last ≡ parts_text is_negative first whole scale part last
unfolding decimals.scale_text decimals.decimal_text point_text parts_text
parts_same is_negative first whole scale part last =
    λ i. sign_text is_negative ++ (decimal first ++ (nines_same whole i ++ cond (scale == 0) [] (46 ∷ (nines_same part i ++ codes_same (scale % 9) last i))))
