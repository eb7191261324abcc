-- A tag has 1 to 32 bytes, which are UTF-8.
use Rattle.std.proofs.Common.{◌≡◌, ℕ, ◌<◌, Bool, true, false, cond, ltb, List, length, ◌≤◌, [], ◌∷◌, refl, arith, eqb, get_or}
use Rattle.std.proofs.lemmas.Bool.{ltb-true, eqb-true}
use Rattle.std.proofs.lemmas.Bool.Decides.{nat_tests}
use Rattle.std.specs.List.{prefix_len}
use Rattle.std.specs.Str.{IsUtf8}
use Rattle.std.proofs.lemmas.List.Sums.{prefix_len_passes}
use Rattle.std.proofs.lemmas.Str.{IsUtf8-from_ascii}
use Rattle.std.proofs.lemmas.Str.Ascii.{IsAscii-cons, IsAscii-from_reads}
use Rattle.binlog_variable_fields.specs.Tags.{is_tag, is_first, is_later}

short_by : (b : ℕ) (s : List ℕ) (t u v : Bool) → ltb (length s) 32 ≡ u → cond t (cond u v false) false ≡ true → length s < 32
short_by b s true true v e h = ltb-true _ _ e
short_by b s true false v e h = absurd cc
short_by b s false u v e h = absurd cc

-- A tag has 1 to 32 bytes.
pub tag_short : (s : List ℕ) → is_tag s ≡ true → length s ≤ 32
tag_short [] h = absurd cc
tag_short (b ∷ s) h = let l : length s < 32 = short_by b s (is_first b) _ _ refl h in omega (arith, l)

pub tag_some : (s : List ℕ) → is_tag s ≡ true → 1 ≤ length s
tag_some [] h = absurd cc
tag_some (b ∷ s) h = omega arith

-- ---- a tag is UTF-8

first_small : (b : ℕ) → is_first b ≡ true → b < 128
first_small b h = grind (arith, nat_tests)

later_small : (b : ℕ) → is_later b ≡ true → b < 128
later_small b h = grind (arith, nat_tests)

record Parts (b : ℕ) (s : List ℕ) : Type 0 where
  pub first : is_first b ≡ true
  pub all : eqb (prefix_len is_later s) (length s) ≡ true

parts_by : (b : ℕ) (s : List ℕ) (t u v : Bool) → is_first b ≡ t → eqb (prefix_len is_later s) (length s) ≡ v → cond t (cond u v false) false ≡ true → Parts b s
parts_by b s true true true f e h = record { first = f; all = e }
parts_by b s true true false f e h = absurd cc
parts_by b s true false v f e h = absurd cc
parts_by b s false u v f e h = absurd cc

pub tag_is_utf8 : (s : List ℕ) → is_tag s ≡ true → IsUtf8 s
tag_is_utf8 [] h = absurd cc
tag_is_utf8 (b ∷ s) h =
    let p = parts_by b s (is_first b) (ltb (length s) 32) (eqb (prefix_len is_later s) (length s)) refl refl h in
    let whole : prefix_len is_later s ≡ length s = eqb-true _ _ p.all in
    IsUtf8-from_ascii (b ∷ s) (IsAscii-cons b s (first_small b p.first)
    (IsAscii-from_reads s (length s) (omega arith) (λ k less. later_small (get_or s k 0) (prefix_len_passes is_later s k 0 (omega arith)))))

no_tag_by : (s : List ℕ) → (IsUtf8 s → ⊥) → (b : Bool) → is_tag s ≡ b → b ≡ false
no_tag_by s other true h = absurd (other (tag_is_utf8 s h))
no_tag_by s other false h = refl

-- Bytes that aren't UTF-8 aren't a tag.
pub no_tag : (s : List ℕ) → (IsUtf8 s → ⊥) → is_tag s ≡ false
no_tag s other = no_tag_by s other (is_tag s) refl
