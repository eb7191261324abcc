-- The lookup tables have the entries that they are to have, by computation.
use Rattle.std.specs.Prelude.{◌==◌, ◌&&◌}
use Rattle.std.proofs.Common.{◌≡◌, ℕ, zero, suc, ◌+◌, ◌*◌, ◌/◌, ◌%◌, ◌<◌, Bool, true, false, List, [], ◌∷◌, length, get_or, refl, ap, ◌∙◌, arith}
use Rattle.std.proofs.lemmas.Bool.Decides.{nat_tests}
use Rattle.crc32_ieee.specs.Crc32.{after_bit, after_bits, AreEntries}
use Rattle.crc32_ieee.specs.declared.tables.TheConstants.{TABLES}

-- The entry at an index.
abbrev entry : ℕ → ℕ
entry index = after_bits (8 * (index / 256 + 1)) (index % 256)

-- Whether these are the entries from an index on.
unfoldable are_entries_from : ℕ → List ℕ → Bool
are_entries_from index [] = true
are_entries_from index (x ∷ xs) = (x == entry index) && are_entries_from (index + 1) xs

all : are_entries_from 0 TABLES ≡ true
unfolding are_entries_from after_bits after_bit
all = refl

both : (a b : Bool) → (a && b) ≡ true → (a ≡ true) × (b ≡ true)
both true true is = (refl, refl)
both true false is = absurd cc
both false b is = absurd cc

equal : (a b : ℕ) → (a == b) ≡ true → a ≡ b
equal a b is = grind (arith, nat_tests)

entry_at : (first j : ℕ) (xs : List ℕ) → are_entries_from first xs ≡ true → j < length xs → get_or xs j 0 ≡ entry (first + j)
unfolding are_entries_from
entry_at first j [] are within = absurd (omega (arith, within))
entry_at first zero (x ∷ xs) are within =
    let parts = both (x == entry first) (are_entries_from (first + 1) xs) are in
    let same : first ≡ first + 0 = omega arith in
    equal x (entry first) parts.0 ∙ ap entry same
entry_at first (suc j) (x ∷ xs) are within =
    let parts = both (x == entry first) (are_entries_from (first + 1) xs) are in
    let same : first + 1 + j ≡ first + suc j = omega arith in
    entry_at (first + 1) j xs parts.1 (omega (arith, within)) ∙ ap entry same

pub are_entries : AreEntries 2048 TABLES
are_entries j within =
    let same : 0 + j ≡ j = omega arith in
    entry_at 0 j TABLES all within ∙ ap entry same
