-- Which columns are in images.
use Rattle.std.proofs.Common.{◌≡◌, ℕ, zero, suc, ◌+◌, ◌-◌, ◌<◌, Bool, true, false, List, [], ◌∷◌, refl, sym, ◌∙◌, ap, subst, arith}
use Rattle.std.specs.Prelude.{◌&&◌, ◌||◌, not, nat_lt, unwrap_or, Some, None, if◌then◌else◌}
use Rattle.std.proofs.lemmas.Bool.{ltb-true}
use Rattle.binlog_wire.specs.Bits.{bit_of}
use Rattle.binlog_rows.specs.Columns.{Bitmap}
use Rattle.binlog_images.specs.Bits.{is_set}
use Rattle.binlog_undo.specs.Coverage.{all_from, is_covered, covers, all_set}

-- ---- loops

pub one_holds : (len i : ℕ) (test : ℕ → Bool) (all : Bool) → i < len → test i ≡ true → all_from (len - i) i test ≡ all → all_from (len - (i + 1)) (i + 1) test ≡ all
one_holds len i test all less holds same =
    let left : len - i ≡ suc (len - (i + 1)) = omega arith in
    let split : test i && all_from (len - (i + 1)) (i + 1) test ≡ all = subst (λ (n : ℕ). all_from n i test ≡ all) left same in
    subst (λ (b : Bool). b && all_from (len - (i + 1)) (i + 1) test ≡ all) holds split

pub one_fails : (len i : ℕ) (test : ℕ → Bool) (all : Bool) → i < len → test i ≡ false → all_from (len - i) i test ≡ all → false ≡ all
one_fails len i test all less fails same =
    let left : len - i ≡ suc (len - (i + 1)) = omega arith in
    let split : test i && all_from (len - (i + 1)) (i + 1) test ≡ all = subst (λ (n : ℕ). all_from n i test ≡ all) left same in
    subst (λ (b : Bool). b && all_from (len - (i + 1)) (i + 1) test ≡ all) fails split

pub all_hold : (len i : ℕ) (test : ℕ → Bool) (all : Bool) → len - i ≡ 0 → all_from (len - i) i test ≡ all → true ≡ all
all_hold len i test all none same = subst (λ (n : ℕ). all_from n i test ≡ all) none same

pub one_set : (bits : Bitmap) (left others : List ℕ) (index : ℕ) (all : Bool) → left ≡ index ∷ others → is_set bits index ≡ true → all_set bits left ≡ all → all_set bits others ≡ all
one_set bits left others index all split holds same =
    let here : is_set bits index && all_set bits others ≡ all = subst (λ (ks : List ℕ). all_set bits ks ≡ all) split same in
    subst (λ (b : Bool). b && all_set bits others ≡ all) holds here

pub one_clear : (bits : Bitmap) (left others : List ℕ) (index : ℕ) (all : Bool) → left ≡ index ∷ others → is_set bits index ≡ false → all_set bits left ≡ all → false ≡ all
one_clear bits left others index all split fails same =
    let here : is_set bits index && all_set bits others ≡ all = subst (λ (ks : List ℕ). all_set bits ks ≡ all) split same in
    subst (λ (b : Bool). b && all_set bits others ≡ all) fails here

pub none_left : (bits : Bitmap) (left : List ℕ) (all : Bool) → left ≡ [] → all_set bits left ≡ all → true ≡ all
none_left bits left all none same = subst (λ (ks : List ℕ). all_set bits ks ≡ all) none same

-- ---- what they say

pub both_true : (a b : Bool) → a && b ≡ true → (a ≡ true) × (b ≡ true)
both_true true b h = (refl, h)
both_true false b h = absurd cc

pub all_by : (count i k : ℕ) (test : ℕ → Bool) → all_from count i test ≡ true → k < count → test (i + k) ≡ true
all_by zero i k test h less = absurd (omega arith)
all_by (suc count) i zero test h less = let e : i + 0 ≡ i = omega arith in ap test e ∙ (both_true (test i) (all_from count (i + 1) test) h).0
all_by (suc count) i (suc k) test h less =
    let e : i + suc k ≡ (i + 1) + k = omega arith in
    ap test e ∙ all_by count (i + 1) k test (both_true (test i) (all_from count (i + 1) test) h).1 (omega arith)

-- A bit that is set is one of the bitmap's.
bit_within : (len k : ℕ) (bytes : List ℕ) (b : Bool) → nat_lt k len ≡ b → unwrap_or (if b then Some (bit_of bytes k) else None) false ≡ true → k < len
bit_within len k bytes true is h = ltb-true k len is
bit_within len k bytes false is h = absurd cc

set_within : (bits : Bitmap) (k : ℕ) → is_set bits k ≡ true → k < bits.0
set_within bits k h = bit_within bits.0 k bits.1 (nat_lt k bits.0) refl h

implied : (a b : Bool) → not a || b ≡ true → a ≡ true → b ≡ true
implied true b h e = h
implied false b h e = absurd cc

-- Each column of the image after is in the image before.
pub covers_is : (before after : Bitmap) → covers before after ≡ true → (k : ℕ) → is_set after k ≡ true → is_set before k ≡ true
covers_is before after h k set =
    let e : 0 + k ≡ k = omega arith in
    let here : is_covered before after (0 + k) ≡ true = all_by after.0 0 k (is_covered before after) h (set_within after k set) in
    implied (is_set after k) (is_set before k) (sym (ap (is_covered before after) e) ∙ here) set

same_bits : (a b : Bool) → (a ≡ true → b ≡ true) → (b ≡ true → a ≡ true) → a ≡ b
same_bits true b f g = sym (f refl)
same_bits false true f g = g refl
same_bits false false f g = refl

-- Each covers the other: they have the same columns.
pub same_is : (before after : Bitmap) → covers before after ≡ true → covers after before ≡ true → (k : ℕ) → is_set before k ≡ is_set after k
same_is before after p q k = same_bits (is_set before k) (is_set after k) (covers_is after before q k) (covers_is before after p k)
