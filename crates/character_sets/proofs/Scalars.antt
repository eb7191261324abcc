-- Numbers that are characters.
use Rattle.std.proofs.Common.{◌≡◌, ℕ, ◌<◌, Some, arith}
use Rattle.std.specs.Char.{IsScalar}
use Rattle.std.proofs.lemmas.Bool.Decides.{nat_tests}
use Rattle.character_sets.specs.Decoding.{unit_char, number_char}

pub number_char-scalar : (c : ℕ) → IsScalar c → number_char c ≡ Some c
number_char-scalar c is = grind (arith, nat_tests)

pub scalar-number_char : (n c : ℕ) → number_char n ≡ Some c → (n ≡ c) × IsScalar c
scalar-number_char n c is = grind (arith, nat_tests)

pub unit_char-scalar : (c : ℕ) → IsScalar c → c < 0x1_0000 → unit_char c ≡ Some c
unit_char-scalar c is basic = grind (arith, nat_tests)

pub scalar-unit_char : (u c : ℕ) → unit_char u ≡ Some c → (u ≡ c) × IsScalar c × (c < 0x1_0000)
scalar-unit_char u c is = grind (arith, nat_tests)
