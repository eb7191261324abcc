-- What is read at the start of a text that begins with a printed part.
use Rattle.std.proofs.Common.{◌≡◌, ℕ, suc, ◌+◌, ◌-◌, ◌^◌, ◌<◌, ◌≤◌, Bool, true, false, cond, eqb, ltb, ◌&&◌, ◌⊎◌, inl, inr, List, [], ◌∷◌, ◌++◌, length, take, drop, Some, None, Ok, Err, refl, ap, ◌∙◌, arith, decimal}
use Rattle.std.specs.Char.{is_ascii_digit}
use Rattle.std.specs.List.{prefix_len}
use Rattle.std.specs.Str.{all_ascii_digits}
use Rattle.std.specs.Str.Parse.{digits_value}
use Rattle.std.proofs.lemmas.Str.Parse.{IsNumeralModel, numerals_by_value, tells_all_ascii_digits}
use Rattle.std.proofs.lemmas.Fmt.{digits_decimal, digits_value-decimal, decimal_is_IsNumeral}
use Rattle.std.proofs.lemmas.List.{take_at, drop_at}
use Rattle.std.proofs.lemmas.Bool.{lt-ltb}
use Rattle.std.proofs.lemmas.Bool.Decides.{nat_tests}
use Rattle.binlog_variable_fields.specs.Tags.{is_first, is_later, is_tag}
use Rattle.binlog_variable_fields.specs.declared.gno_interval.GnoInterval.{GnoInterval}
use Rattle.binlog_gtid_text.specs.declared.error.GtidTextFault.TheVariants as faults
use Rattle.binlog_gtid_text.specs.Faults.{fault}
use Rattle.binlog_gtid_text.specs.Reading.{is_space, skip, after, value_in, number_by, number_at, interval_at, begins_tag, named_at, tag_at}

-- ---- fronts that pass a test

-- the text, if any, begins with a byte that fails a test
abbrev pub Fails : (ℕ → Bool) → List ℕ → Type 0
Fails p [] = Unit {0}
Fails p (b ∷ s) = p b ≡ false

none_passes : (p : ℕ → Bool) (s : List ℕ) → Fails p s → prefix_len p s ≡ 0
none_passes p [] f = refl
none_passes p (b ∷ s) f = rw f refl

pub skip_none : (s : List ℕ) → Fails is_space s → skip s ≡ s
skip_none s f = ap (λ (k : ℕ). drop k s) (none_passes is_space s f)

module _ (p : ℕ → Bool) (b : ℕ) (a rest : List ℕ) where
  over_by : (v : Bool) → cond v (1 + prefix_len p a) 0 ≡ suc (length a) → (prefix_len p a ≡ length a → prefix_len p (a ++ rest) ≡ length a)
      → cond v (1 + prefix_len p (a ++ rest)) 0 ≡ suc (length a)
  over_by true h more = omega (arith, more (omega arith))
  over_by false h more = absurd (omega arith)

pub prefix_over : (p : ℕ → Bool) (a rest : List ℕ) → prefix_len p a ≡ length a → Fails p rest → prefix_len p (a ++ rest) ≡ length a
prefix_over p [] rest h f = none_passes p rest f
prefix_over p (b ∷ a) rest h f = over_by p b a rest (p b) h (λ h. prefix_over p a rest h f)

first_passes_by : (p : ℕ → Bool) (b : ℕ) (a : List ℕ) (v : Bool) → p b ≡ v → cond v (1 + prefix_len p a) 0 ≡ suc (length a) → p b ≡ true
first_passes_by p b a true f h = f
first_passes_by p b a false f h = absurd (omega arith)

first_passes : (p : ℕ → Bool) (b : ℕ) (a : List ℕ) → prefix_len p (b ∷ a) ≡ length (b ∷ a) → p b ≡ true
first_passes p b a h = first_passes_by p b a (p b) refl h

-- ---- what follows a printed part

-- the text ends, or goes on with a separator
abbrev pub Ends : List ℕ → Type 0
Ends [] = Unit {0}
Ends (b ∷ s) = (b ≡ 58) ⊎ (b ≡ 44)

pub ends_digits : (s : List ℕ) → Ends s → Fails is_ascii_digit s
ends_digits [] e = tt
ends_digits (b ∷ s) (inl f) = rw f refl
ends_digits (b ∷ s) (inr f) = rw f refl

pub ends_spaces : (s : List ℕ) → Ends s → Fails is_space s
ends_spaces [] e = tt
ends_spaces (b ∷ s) (inl f) = rw f refl
ends_spaces (b ∷ s) (inr f) = rw f refl

pub ends_dash : (s : List ℕ) → Ends s → after 45 s ≡ None
ends_dash [] e = refl
ends_dash (b ∷ s) (inl f) = rw f refl
ends_dash (b ∷ s) (inr f) = rw f refl

-- ---- numbers

pub record AreDigits (ds : List ℕ) (n : ℕ) : Type 0 where
  pub some : 0 < length ds
  pub all : prefix_len is_ascii_digit ds ≡ length ds
  pub value : digits_value 10 ds ≡ n

digits_by : (d : ℕ) (ds : List ℕ) (v : Bool) → is_ascii_digit d ≡ v → (v && all_ascii_digits ds) ≡ true → (all_ascii_digits ds ≡ true → prefix_len is_ascii_digit ds ≡ length ds)
    → prefix_len is_ascii_digit (d ∷ ds) ≡ length (d ∷ ds)
digits_by d ds true f h rest = rw f (omega (arith, rest h))
digits_by d ds false f h rest = absurd cc

pub digits_pass : (ds : List ℕ) → all_ascii_digits ds ≡ true → prefix_len is_ascii_digit ds ≡ length ds
digits_pass [] h = refl
digits_pass (d ∷ ds) h = digits_by d ds (is_ascii_digit d) refl h (λ h. digits_pass ds h)

own : IsNumeralModel (λ ds. all_ascii_digits ds ≡ true) (digits_value 10)
own = numerals_by_value (λ ds. all_ascii_digits ds ≡ true) tells_all_ascii_digits

pub decimal_digits : (n : ℕ) → n < 2 ^ 63 → AreDigits (decimal n) n
decimal_digits n small = record {
  some = (decimal_is_IsNumeral n (omega arith)).0.0;
  all = digits_pass (decimal n) (digits_decimal own n (omega arith));
  value = digits_value-decimal own n (omega arith);
}

digit_no_space : (d : ℕ) → is_ascii_digit d ≡ true → is_space d ≡ false
digit_no_space d h = grind (arith, nat_tests)

digit_no_tag : (d : ℕ) → is_ascii_digit d ≡ true → is_first d ≡ false
digit_no_tag d h = grind (arith, nat_tests)

pub digits_spaces : (ds rest : List ℕ) (n : ℕ) → AreDigits ds n → Fails is_space (ds ++ rest)
digits_spaces [] rest n are = absurd (omega (arith, are.some))
digits_spaces (d ∷ ds) rest n are = digit_no_space d (first_passes is_ascii_digit d ds are.all)

pub digits_tag : (ds rest : List ℕ) (n : ℕ) → AreDigits ds n → begins_tag (ds ++ rest) ≡ false
digits_tag [] rest n are = absurd (omega (arith, are.some))
digits_tag (d ∷ ds) rest n are = digit_no_tag d (first_passes is_ascii_digit d ds are.all)

pub some_eqb : (n : ℕ) → 0 < n → eqb n 0 ≡ false
some_eqb n some = grind (arith, nat_tests)

pub value_is : (ds : List ℕ) (n : ℕ) → digits_value 10 ds ≡ n → n < 2 ^ 63 → value_in ds ≡ Some n
value_is ds n v small = ap (λ (m : ℕ). cond (ltb m (2 ^ 63)) (Some m) None) v ∙ ap (λ (b : Bool). cond b (Some n) None) (lt-ltb n (2 ^ 63) small)

pub number_read : (ds rest : List ℕ) (n : ℕ) → AreDigits ds n → n < 2 ^ 63 → Fails is_ascii_digit rest → Fails is_space rest → number_at (ds ++ rest) ≡ Ok (n, rest)
unfolding number_at
number_read ds rest n are small f g =
    let s = ds ++ rest in
    let k = length ds in
    ap (λ (k : ℕ). cond (eqb k 0) (Err (fault faults.Number s)) (number_by s k (value_in (take k s)))) (prefix_over is_ascii_digit ds rest are.all f)
    ∙ ap (λ (b : Bool). cond b (Err (fault faults.Number s)) (number_by s k (value_in (take k s)))) (some_eqb k are.some)
    ∙ ap (λ (t : List ℕ). number_by s k (value_in t)) (take_at ds rest k refl)
    ∙ ap (number_by s k) (value_is ds n are.value small)
    ∙ ap (λ (t : List ℕ). Ok (n, skip t)) (drop_at ds rest k refl)
    ∙ ap (λ (t : List ℕ). Ok (n, t)) (skip_none rest g)

-- ---- intervals

module _ (i : GnoInterval) (ds es rest : List ℕ) (first : AreDigits ds i.start) (last : AreDigits es (i.end - 1)) (positive : 0 < i.start) (some : i.start < i.end) (small : i.end ≤ 2 ^ 63) (ends : Ends rest) where
  pub interval_read_by : (v : Bool) → ltb i.start (i.end - 1) ≡ v → interval_at (ds ++ (cond v (45 ∷ es) [] ++ rest)) ≡ Ok (i, rest)
  unfolding interval_at
  interval_read_by true f =
      let more : Fails is_ascii_digit (45 ∷ (es ++ rest)) = refl in
      rw (
        number_read ds (45 ∷ (es ++ rest)) i.start first (omega arith) refl refl,
        some_eqb i.start positive,
        skip_none (es ++ rest) (digits_spaces es rest (i.end - 1) last),
        number_read es rest (i.end - 1) last (omega arith) (ends_digits rest ends) (ends_spaces rest ends),
      )
      (let same : i.end - 1 + 1 ≡ i.end = omega arith in ap (λ (e : ℕ). Ok (record { start = i.start; end = e }, rest)) same)
  interval_read_by false f =
      rw (number_read ds rest i.start first (omega arith) (ends_digits rest ends) (ends_spaces rest ends), some_eqb i.start positive, ends_dash rest ends)
      (let same : i.start + 1 ≡ i.end = grind (arith, nat_tests) in ap (λ (e : ℕ). Ok (record { start = i.start; end = e }, rest)) same)

-- ---- tags

module _ (b : ℕ) (s : List ℕ) where
  pub record TagParts : Type 0 where
    pub first : is_first b ≡ true
    pub short : ltb (length s) 32 ≡ true
    pub all : eqb (prefix_len is_later s) (length s) ≡ true

  tag_parts_by : (t u v : Bool) → is_first b ≡ t → ltb (length s) 32 ≡ u → eqb (prefix_len is_later s) (length s) ≡ v → cond t (cond u v false) false ≡ true → TagParts
  tag_parts_by true true true f g e h = record { first = f; short = g; all = e }
  tag_parts_by true true false f g e h = absurd cc
  tag_parts_by true false v f g e h = absurd cc
  tag_parts_by false u v f g e h = absurd cc

  tag_parts : is_tag (b ∷ s) ≡ true → TagParts
  tag_parts h = tag_parts_by (is_first b) (ltb (length s) 32) (eqb (prefix_len is_later s) (length s)) refl refl refl h

first_is_later : (b : ℕ) → is_first b ≡ true → is_later b ≡ true
first_is_later b h = grind (arith, nat_tests)

first_no_space : (b : ℕ) → is_first b ≡ true → is_space b ≡ false
first_no_space b h = grind (arith, nat_tests)

same_by_eqb : (m n : ℕ) → eqb m n ≡ true → m ≡ n
same_by_eqb m n h = grind (arith, nat_tests)

pub tag_begins : (tag rest : List ℕ) → is_tag tag ≡ true → begins_tag (tag ++ rest) ≡ true
tag_begins [] rest h = absurd cc
tag_begins (b ∷ s) rest h = (tag_parts b s h).first

pub tag_spaces : (tag rest : List ℕ) → is_tag tag ≡ true → Fails is_space (tag ++ rest)
tag_spaces [] rest h = absurd cc
tag_spaces (b ∷ s) rest h = first_no_space b (tag_parts b s h).first

pub tag_passes : (tag : List ℕ) → is_tag tag ≡ true → prefix_len is_later tag ≡ length tag
tag_passes [] h = absurd cc
tag_passes (b ∷ s) h =
    let parts = tag_parts b s h in
    let first : is_later b ≡ true = first_is_later b parts.first in
    rw first (omega (arith, same_by_eqb (prefix_len is_later s) (length s) parts.all))

-- a tag, and a text after a colon
pub tag_read : (tag more : List ℕ) → is_tag tag ≡ true → Fails is_space more → tag_at (tag ++ (58 ∷ more)) ≡ Ok (Some tag, more)
unfolding tag_at named_at
tag_read tag more h f =
    rw (tag_begins tag (58 ∷ more) h, prefix_over is_later tag (58 ∷ more) (tag_passes tag h) refl, take_at tag (58 ∷ more) (length tag) refl, h, drop_at tag (58 ∷ more) (length tag) refl, skip_none more f)
    refl

pub no_tag_read : (s : List ℕ) → begins_tag s ≡ false → tag_at s ≡ Ok (None, s)
unfolding tag_at
no_tag_read s h = rw h refl
