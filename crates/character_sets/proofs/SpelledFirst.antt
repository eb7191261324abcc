-- What is read as the first character is spelled at the front.
use Rattle.std.proofs.Common.{◌≡◌, ℕ, ◌+◌, ◌-◌, ◌/◌, ◌%◌, ◌<◌, ◌≤◌, Bool, true, false, nat_lt, cond, Option, Some, None, List, [], ◌∷◌, ◌++◌, length, refl, ap, sym, ◌∙◌, subst, arith}
use Rattle.std.specs.Option.{option_map, option_and_then}
use Rattle.std.specs.Char.{IsScalar}
use Rattle.std.specs.Char.Escape.{encode_utf16}
use Rattle.std.specs.Char.Utf16.{is_low_surrogate, is_high_surrogate, surrogate_pair_char}
use Rattle.std.specs.Int.{w32, from_be_bytes}
use Rattle.std.proofs.lemmas.Bool.{le-ltb, lt-ltb}
use Rattle.std.proofs.lemmas.Bool.Decides.{nat_tests}
use Rattle.character_sets.specs.declared.character_set.CharacterSet.{CharacterSet}
use Rattle.character_sets.specs.declared.coding.Coding.{Coding}
use Rattle.character_sets.specs.declared.coding.Coding.TheVariants.{SingleByte, BasicUtf8, Utf8, Ucs2, Utf16, Utf16le, Utf32, Unknown}
use Rattle.character_sets.specs.declared.coding.ByteOrder.{ByteOrder}
use Rattle.character_sets.specs.declared.coding.ByteOrder.TheVariants.{BigEndian, LittleEndian}
use Rattle.character_sets.specs.Coding.{coding_of}
use Rattle.character_sets.specs.SingleByte.{byte_character, entry_of, character_of}
use Rattle.character_sets.specs.Spellings.{AreUnits, SpellsIn, Begins}
use Rattle.character_sets.specs.Decoding.{first_unit, first_byte, first_of_ucs2, first_of_utf16, first_behind_unit, surrogate_pair, lone_unit, first_of_utf32, first_in, first_character, unit_char, number_char}
use Rattle.character_sets.proofs.ScalarEntries.{scalar_entry}
use Rattle.character_sets.proofs.Scalars.{scalar-number_char, scalar-unit_char}
use Rattle.character_sets.proofs.Units.{FrontUnit, front-first_unit}

-- In a set of this coding the bytes begin with the character c.
record BeginsIn (coding : Coding) (set : CharacterSet) (bytes : List ℕ) (c : ℕ) (rest : List ℕ) : Type 0 where
  front : List ℕ
  scalar : IsScalar c
  coded : SpellsIn coding set front c
  split : bytes ≡ front ++ rest

-- ---- Options

-- What an option is made of, where it is Some.
pub then_some : {A B : Type 0} (f : A → Option B) (o : Option A) (y : B) → option_and_then f o ≡ Some y → (x : A) × (o ≡ Some x) × (f x ≡ Some y)
then_some f None y is = absurd cc
then_some f (Some x) y is = (x, refl, is)

pub mapped_some : {A B : Type 0} (f : A → B) (o : Option A) (y : B) → option_map f o ≡ Some y → (x : A) × (o ≡ Some x) × (f x ≡ y)
mapped_some f None y is = absurd cc
mapped_some f (Some x) y is = (x, refl, cc)

-- The character and the rest, where the rest was there before.
char_some : (o : Option ℕ) (left : List ℕ) (c : ℕ) (rest : List ℕ) → option_map {U = ℕ × List ℕ} (λ d. (d, left)) o ≡ Some (c, rest) → (o ≡ Some c) × (left ≡ rest)
char_some None left c rest is = absurd cc
char_some (Some d) left c rest is =
    let parts : (d, left) ≡ (c, rest) = cc in
    (ap (λ (p : ℕ × List ℕ). Some p.0) parts, ap (λ (p : ℕ × List ℕ). p.1) parts)

guard_true : {A : Type 0} (b : Bool) (x y : A) → cond b (Some x) None ≡ Some y → (b ≡ true) × (x ≡ y)
guard_true true x y is = (refl, cc)
guard_true false x y is = absurd cc

-- ---- Each coding

pub char-byte : (set : CharacterSet) (byte c : ℕ) → byte_character set byte ≡ Some c → IsScalar c
unfolding byte_character
char-byte set byte c is = by_entry (entry_of set byte) (scalar_entry set byte) is
  where
    by_entry : (entry : ℕ) → IsScalar entry → character_of entry ≡ Some c → IsScalar c
    by_entry entry scalar found = grind (arith, nat_tests)

byte_begins : (set : CharacterSet) (bytes : List ℕ) (c : ℕ) (rest : List ℕ) → first_byte set bytes ≡ Some (c, rest) → BeginsIn SingleByte set bytes c rest
unfolding first_byte
byte_begins set [] c rest is = absurd cc
byte_begins set (byte ∷ left) c rest is =
    let (found, same) = char_some (byte_character set byte) left c rest is in
    record { front = byte ∷ []; scalar = char-byte set byte c found; coded = (byte, refl, found); split = ap (λ l. byte ∷ l) same }

-- One unit, and two, at the front.
one_unit : (order : ByteOrder) (bytes : List ℕ) (u : ℕ) (rest : List ℕ) → FrontUnit order bytes u rest → (front : List ℕ) × AreUnits order front (u ∷ []) × (bytes ≡ front ++ rest)
one_unit order bytes u rest is = (is.first ∷ is.second ∷ [], (omega arith, is.is, refl), is.split)

two_units : (order : ByteOrder) (bytes : List ℕ) (u v : ℕ) (left rest : List ℕ) → FrontUnit order bytes u left → FrontUnit order left v rest
    → (front : List ℕ) × AreUnits order front (u ∷ v ∷ []) × (bytes ≡ front ++ rest)
two_units order bytes u v left rest is next =
    (is.first ∷ is.second ∷ next.first ∷ next.second ∷ [], (omega arith, is.is, (omega arith, next.is, refl)), is.split ∙ ap (λ l. is.first ∷ is.second ∷ l) next.split)

-- A unit in no pair.
record LoneUnit (order : ByteOrder) (bytes : List ℕ) (c : ℕ) (rest : List ℕ) : Type 0 where
  scalar : IsScalar c
  basic : c < 0x1_0000
  at : FrontUnit order bytes c rest

lone_begins : (order : ByteOrder) (bytes : List ℕ) (u : ℕ) (left : List ℕ) (c : ℕ) (rest : List ℕ) → FrontUnit order bytes u left → lone_unit (u, left) ≡ Some (c, rest)
    → LoneUnit order bytes c rest
lone_begins order bytes u left c rest at is =
    let (found, same) = char_some (unit_char u) left c rest is in
    let (equal, scalar, basic) = scalar-unit_char u c found in
    record { scalar = scalar; basic = basic; at = subst (λ v. FrontUnit order bytes v rest) equal (subst (FrontUnit order bytes u) same at) }

ucs2_begins : (set : CharacterSet) (bytes : List ℕ) (c : ℕ) (rest : List ℕ) → first_of_ucs2 bytes ≡ Some (c, rest) → BeginsIn Ucs2 set bytes c rest
unfolding first_of_ucs2
ucs2_begins set bytes c rest is =
    let (x, read, then) = then_some lone_unit (first_unit BigEndian bytes) (c, rest) is in
    let lone = lone_begins BigEndian bytes x.0 x.1 c rest (front-first_unit BigEndian bytes x.0 x.1 read) then in
    let (front, are, split) = one_unit BigEndian bytes c rest lone.at in
    record { front = front; scalar = lone.scalar; coded = (lone.basic, are); split = split }

-- The units of a character beyond the basic ones.
record PairUnits (c high low : ℕ) : Type 0 where
  scalar : IsScalar c
  units : encode_utf16 c ≡ high ∷ low ∷ []

pair_units : (high low : ℕ) → is_high_surrogate high ≡ true → is_low_surrogate low ≡ true → PairUnits (surrogate_pair_char high low) high low
pair_units high low high_is low_is =
    let above_high : 0xD800 ≤ high = grind (arith, nat_tests) in
    let below_high : high < 0xDC00 = grind (arith, nat_tests) in
    let above_low : 0xDC00 ≤ low = grind (arith, nat_tests) in
    let below_low : low < 0xE000 = grind (arith, nat_tests) in
    let c = surrogate_pair_char high low in
    let first : 0xD800 + (c - 0x1_0000) / 0x400 ≡ high = omega arith in
    let second : 0xDC00 + (c - 0x1_0000) % 0x400 ≡ low = omega arith in
    record { scalar = grind (arith, nat_tests); units = rw (le-ltb c 0x1_0000 (omega arith)) (ap (λ h. h ∷ (0xDC00 + (c - 0x1_0000) % 0x400) ∷ []) first ∙ ap (λ l. high ∷ l ∷ []) second) }

-- A character of UTF-16 at the front.
record Utf16Front (order : ByteOrder) (bytes : List ℕ) (c : ℕ) (rest : List ℕ) : Type 0 where
  front : List ℕ
  scalar : IsScalar c
  are : AreUnits order front (encode_utf16 c)
  split : bytes ≡ front ++ rest

pair_begins : (order : ByteOrder) (bytes : List ℕ) (high : ℕ) (left : List ℕ) (c : ℕ) (rest : List ℕ) → is_high_surrogate high ≡ true → FrontUnit order bytes high left
    → option_and_then (surrogate_pair high) (first_unit order left) ≡ Some (c, rest) → Utf16Front order bytes c rest
pair_begins order bytes high left c rest high_is at is =
    let (y, read, then) = then_some (surrogate_pair high) (first_unit order left) (c, rest) is in
    let (low_is, same) = guard_true (is_low_surrogate y.0) (surrogate_pair_char high y.0, y.1) (c, rest) then in
    let pair = pair_units high y.0 high_is low_is in
    let (front, are, split) = two_units order bytes high y.0 left y.1 at (front-first_unit order left y.0 y.1 read) in
    let made : Utf16Front order bytes (surrogate_pair_char high y.0) y.1
    = record { front = front; scalar = pair.scalar; are = subst (AreUnits order front) (sym pair.units) are; split = split } in
    subst (λ (p : ℕ × List ℕ). Utf16Front order bytes p.0 p.1) same made

behind_unit_begins : (order : ByteOrder) (bytes : List ℕ) (u : ℕ) (left : List ℕ) (c : ℕ) (rest : List ℕ) (high : Bool) → is_high_surrogate u ≡ high → FrontUnit order bytes u left
    → cond high (option_and_then (surrogate_pair u) (first_unit order left)) (lone_unit (u, left)) ≡ Some (c, rest) → Utf16Front order bytes c rest
behind_unit_begins order bytes u left c rest true high_is at is = pair_begins order bytes u left c rest high_is at is
behind_unit_begins order bytes u left c rest false high_is at is =
    let lone = lone_begins order bytes u left c rest at is in
    let (front, are, split) = one_unit order bytes c rest lone.at in
    let units : encode_utf16 c ≡ c ∷ [] = rw (lt-ltb c 0x1_0000 lone.basic) refl in
    record { front = front; scalar = lone.scalar; are = subst (AreUnits order front) (sym units) are; split = split }

utf16_begins : (order : ByteOrder) (bytes : List ℕ) (c : ℕ) (rest : List ℕ) → first_of_utf16 order bytes ≡ Some (c, rest) → Utf16Front order bytes c rest
unfolding first_of_utf16 first_behind_unit
utf16_begins order bytes c rest is =
    let (x, read, then) = then_some (first_behind_unit order) (first_unit order bytes) (c, rest) is in
    behind_unit_begins order bytes x.0 x.1 c rest (is_high_surrogate x.0) refl (front-first_unit order bytes x.0 x.1 read) then

utf32_begins : (set : CharacterSet) (bytes : List ℕ) (c : ℕ) (rest : List ℕ) → first_of_utf32 bytes ≡ Some (c, rest) → BeginsIn Utf32 set bytes c rest
unfolding first_of_utf32
utf32_begins set [] c rest is = absurd cc
utf32_begins set (x ∷ []) c rest is = absurd cc
utf32_begins set (x ∷ y ∷ []) c rest is = absurd cc
utf32_begins set (x ∷ y ∷ z ∷ []) c rest is = absurd cc
utf32_begins set (x ∷ y ∷ z ∷ w ∷ left) c rest is =
    let long : nat_lt (length (x ∷ y ∷ z ∷ w ∷ left)) 4 ≡ false = le-ltb (length (x ∷ y ∷ z ∷ w ∷ left)) 4 (omega arith) in
    let number = from_be_bytes w32 (x ∷ y ∷ z ∷ w ∷ []) in
    let read = sym (ap (λ b. cond b None (option_map (λ d. (d, left)) (number_char number))) long) ∙ is in
    let (found, same) = char_some (number_char number) left c rest read in
    let (equal, scalar) = scalar-number_char number c found in
    record { front = x ∷ y ∷ z ∷ w ∷ []; scalar = scalar; coded = (refl, equal); split = ap (λ l. x ∷ y ∷ z ∷ w ∷ l) same }

first_in_begins : (coding : Coding) (set : CharacterSet) (bytes : List ℕ) (c : ℕ) (rest : List ℕ) → first_in coding set bytes ≡ Some (c, rest) → BeginsIn coding set bytes c rest
first_in_begins SingleByte set bytes c rest is = byte_begins set bytes c rest is
first_in_begins BasicUtf8 set bytes c rest is = absurd cc
first_in_begins Utf8 set bytes c rest is = absurd cc
first_in_begins Ucs2 set bytes c rest is = ucs2_begins set bytes c rest is
first_in_begins Utf16 set bytes c rest is =
    let found = utf16_begins BigEndian bytes c rest is in
    record { front = found.front; scalar = found.scalar; coded = found.are; split = found.split }
first_in_begins Utf16le set bytes c rest is =
    let found = utf16_begins LittleEndian bytes c rest is in
    record { front = found.front; scalar = found.scalar; coded = found.are; split = found.split }
first_in_begins Utf32 set bytes c rest is = utf32_begins set bytes c rest is
first_in_begins Unknown set bytes c rest is = absurd cc

-- The bytes begin with the character that is read as the first.
pub begins-first_character : (set : CharacterSet) (bytes : List ℕ) (c : ℕ) (rest : List ℕ) → first_character set bytes ≡ Some (c, rest) → Begins set bytes c rest
unfolding first_character
begins-first_character set bytes c rest is =
    let found = first_in_begins (coding_of set) set bytes c rest is in
    record { front = found.front; spells = record { scalar = found.scalar; coded = found.coded }; split = found.split }
