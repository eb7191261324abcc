-- What bytes that are checked have.
use Rattle.std.proofs.Common.{◌≡◌, ℕ, zero, suc, ◌+◌, ◌-◌, ◌<◌, ◌≤◌, ◌^◌, Bool, true, false, cond, ◌⊎◌, List, [], ◌∷◌, length, drop, Option, Some, None, Ok, Err, refl, sym, ap, subst, ◌∙◌, inl, inr, arith}
use Rattle.std.specs.Prelude.{is_ok, option_map, slice_index, slice_get}
use Rattle.std.proofs.lemmas.Bool.{cases_lt, lt-ltb, le-ltb, both_ways}
use Rattle.binary_json.specs.Values.{Scalar, string, opaque, Json, scalar, array, object, Entries, no_entries, entry, nesting, entries_nesting, values, members}
use Rattle.binary_json.specs.Layout.{is_object, is_fixed, fixed_len, fixed, entry_count, byte_size, header_len, key_offset, key_size, key_bytes, value_type, value_offset, is_inlined, inlined_bytes, placed_bytes, text}
use Rattle.binary_json.specs.Opaques.{is_opaque}
use Rattle.binary_json.specs.Grammar.{IsFixed, IsScalar, IsInlined, IsPlaced, IsValue, AreEntries}
use Rattle.binary_json.specs.Refusals.{Left, header_of, value_left}
use Rattle.binary_json.specs.Decoding.{scalar_at, value_at, container_at, is_readable, value_in, entries_in}
use Rattle.binary_json.proofs.Scalars.{fixed_from}
use Rattle.binary_json.proofs.Whole.{Fits, header_complete, value_sound, value_complete}

abbrev some : Json → Option Json
some v = Some v

some_json : (v w : Json) → some v ≡ some w → v ≡ w
some_json v w e = cc

ok_is : (r : Left) → is_ok r ≡ true → (x : ℕ) × (r ≡ Ok x)
ok_is (Ok x) e = (x, refl)
ok_is (Err d) e = absurd cc

pub record IsRead (t : ℕ) (s : List ℕ) : Type 0 where
  pub cost : ℕ
  pub is : IsValue (value_in t s) t s cost
  pub few : cost ≤ 2 ^ 64
  pub deep : nesting (value_in t s) ≤ 100

is_read : (t : ℕ) (s : List ℕ) → is_readable t s ≡ true → IsRead t s
unfolding is_readable value_in
is_read t s e =
    let r = ok_is (value_left 100 t 0 s (2 ^ 64)) e in
    let is = value_sound 100 t 0 s (2 ^ 64) r.0 r.1 in
    record { cost = is.0; is = is.1; few = omega (arith, is.2); deep = is.3 }

read_from : (v : Json) (t : ℕ) (s : List ℕ) (cost : ℕ) → IsValue v t s cost → cost ≤ 2 ^ 64 → nesting v ≤ 100 → (is_readable t s ≡ true) × (value_in t s ≡ v)
unfolding is_readable value_in
read_from v t s cost is few deep =
    let both = value_complete v 100 t 0 s cost (2 ^ 64) (2 ^ 64 - cost) is deep (omega (arith, few)) in
    (ap (λ (r : Left). is_ok r) both.0, both.1)

-- ---- scalars

scalar_is : (t : ℕ) (s : List ℕ) → 4 ≤ t → value_in t s ≡ scalar (scalar_at t s)
unfolding value_in value_at
scalar_is t s high = rw (le-ltb t 4 high) refl

scalar_read : (t : ℕ) (s : List ℕ) → is_readable t s ≡ true → 4 ≤ t → (cost : ℕ) × IsScalar (scalar_at t s) t s cost
scalar_read t s e high =
    let read = is_read t s e in
    (read.cost, subst (λ (v : Json). IsValue v t s read.cost) (scalar_is t s high) read.is)

pub at_string : (s : List ℕ) → value_in 12 s ≡ scalar (string (text s))
unfolding scalar_at
at_string s = scalar_is 12 s (omega arith)

opaque_parts : (s : List ℕ) (x : Scalar) (cost : ℕ) → IsScalar x 15 s cost → x ≡ opaque (slice_index s 0) (text (drop 1 s)) → (0 < length s) × (is_opaque (slice_index s 0) (text (drop 1 s)) ≡ true)
opaque_parts s x cost (inl f) is = absurd (omega (arith, f.0.high))
opaque_parts s x cost (inr (inl f)) is = absurd (omega (arith, f.kind_is))
opaque_parts s x cost (inr (inr f)) is =
    let same : opaque f.column f.bytes ≡ opaque (slice_index s 0) (text (drop 1 s)) = sym f.is ∙ is in
    let column : f.column ≡ slice_index s 0 = cc in
    let bytes : f.bytes ≡ text (drop 1 s) = cc in
    (omega (arith, ap length f.parts), subst (λ (k : ℕ). is_opaque k (text (drop 1 s)) ≡ true) column (subst (λ (b : List ℕ). is_opaque f.column b ≡ true) bytes f.fits))

pub at_opaque : (s : List ℕ) → is_readable 15 s ≡ true → (0 < length s) × (is_opaque (slice_index s 0) (text (drop 1 s)) ≡ true) × (value_in 15 s ≡ scalar (opaque (slice_index s 0) (text (drop 1 s))))
unfolding scalar_at
at_opaque s e =
    let read = scalar_read 15 s e (omega arith) in
    let parts = opaque_parts s _ read.0 read.1 refl in
    (parts.0, parts.1, scalar_is 15 s (omega arith))

fixed_parts : (t : ℕ) (s : List ℕ) (x : Scalar) (cost : ℕ) → IsScalar x t s cost → (t ≡ 12 → ⊥) → (t ≡ 15 → ⊥) → IsFixed x t s
fixed_parts t s x cost (inl f) not_string not_opaque = f.0
fixed_parts t s x cost (inr (inl f)) not_string not_opaque = absurd (not_string f.kind_is)
fixed_parts t s x cost (inr (inr f)) not_string not_opaque = absurd (not_opaque f.kind_is)

pub at_fixed : (t : ℕ) (s : List ℕ) → is_readable t s ≡ true → 4 ≤ t → (t ≡ 12 → ⊥) → (t ≡ 15 → ⊥) → (is_fixed t ≡ true) × (fixed_len t ≤ length s) × (value_in t s ≡ scalar (fixed t s))
at_fixed t s e high not_string not_opaque =
    let read = scalar_read t s e high in
    let is = fixed_parts t s (scalar_at t s) read.0 read.1 not_string not_opaque in
    (fixed_from t is.low is.high, is.enough, scalar_is t s high ∙ ap (λ (x : Scalar). scalar x) is.is)

-- ---- arrays and objects

container_is : (t : ℕ) (s : List ℕ) → t < 4 → value_in t s ≡ cond (is_object t) (object (entries_in t s)) (array (entries_in t s))
unfolding value_in value_at container_at entries_in
container_is t s low = rw (lt-ltb t 4 low) refl

pub at_array : (t : ℕ) (s : List ℕ) → 2 ≤ t → t ≤ 3 → value_in t s ≡ array (entries_in t s)
at_array t s low high = container_is t s (omega arith) ∙ ap (λ (b : Bool). cond b (object (entries_in t s)) (array (entries_in t s))) (le-ltb t 2 low)

pub at_object : (t : ℕ) (s : List ℕ) → t ≤ 1 → value_in t s ≡ object (entries_in t s)
at_object t s high = container_is t s (omega arith) ∙ ap (λ (b : Bool). cond b (object (entries_in t s)) (array (entries_in t s))) (lt-ltb t 2 (omega arith))

-- The entries of an array or an object that is checked.
pub record AreRead (t : ℕ) (s : List ℕ) : Type 0 where
  pub fits : Fits t s
  pub cost : ℕ
  pub are : AreEntries (entries_in t s) t s 0 cost
  pub few : cost ≤ 2 ^ 64
  pub deep : entries_nesting (entries_in t s) ≤ 99

entries_read : (t : ℕ) (s : List ℕ) → is_readable t s ≡ true → t < 4 → AreRead t s
entries_read t s e low =
    let read = is_read t s e in
    elim (cases_lt t 2) [
      | inl small ↦
          let same = at_object t s (omega (arith, small)) in
          let is = subst (λ (v : Json). IsValue v t s read.cost) same read.is in
          let deep : suc (entries_nesting (entries_in t s)) ≤ 100 = subst (λ (v : Json). nesting v ≤ 100) same read.deep in
          record { fits = record { enough = is.1.enough; within = is.1.within; room = is.1.room }; cost = is.1.entries_cost; are = is.1.entries; few = omega (arith, is.1.cost_is, read.few); deep = omega (arith, deep) }
      | inr large ↦
          let same = at_array t s large (omega (arith, low)) in
          let is = subst (λ (v : Json). IsValue v t s read.cost) same read.is in
          let deep : suc (entries_nesting (entries_in t s)) ≤ 100 = subst (λ (v : Json). nesting v ≤ 100) same read.deep in
          record { fits = record { enough = is.2.enough; within = is.2.within; room = is.2.room }; cost = is.2.entries_cost; are = is.2.entries; few = omega (arith, is.2.cost_is, read.few); deep = omega (arith, deep) }
    ]

pub at_header : (t : ℕ) (s : List ℕ) → is_readable t s ≡ true → t < 4 → header_of t 0 s ≡ Ok (header_len t s)
at_header t s e low = header_complete t 0 s (entries_read t s e low).fits

-- ---- entries

values_length : (es : Entries) (t : ℕ) (s : List ℕ) (i cost : ℕ) → AreEntries es t s i cost → i + length (values es) ≡ entry_count t s
values_length no_entries t s i cost are = omega (arith, are.0)
values_length (entry key v es) t s i cost are = let ih = values_length es t s (suc i) are.1.2 are.1.5 in omega (arith, ih)

members_length : (es : Entries) (t : ℕ) (s : List ℕ) (i cost : ℕ) → is_object t ≡ true → AreEntries es t s i cost → i + length (members es) ≡ entry_count t s
members_length no_entries t s i cost kind are = omega (arith, are.0)
members_length (entry None v es) t s i cost kind are = absurd (both_ways (is_object t) are.1.3.0 kind)
members_length (entry (Some key) v es) t s i cost kind are = let ih = members_length es t s (suc i) are.1.2 kind are.1.5 in omega (arith, ih)

-- An entry by its index.
pub record Nth (es : Entries) (t : ℕ) (s : List ℕ) (i j cost : ℕ) : Type 0 where
  pub v : Json
  pub is : slice_get (values es) j ≡ Some v
  pub b : ℕ
  pub cases : IsInlined v t s (i + j) b ⊎ IsPlaced (IsValue v) t s (i + j) b
  pub few : b ≤ cost
  pub deep : nesting v ≤ entries_nesting es

nth : (es : Entries) (t : ℕ) (s : List ℕ) (i j cost : ℕ) → AreEntries es t s i cost → i + j < entry_count t s → Nth es t s i j cost
nth no_entries t s i j cost are less = absurd (omega (arith, are.0, less))
nth (entry key v es) t s i zero cost are less =
    let same : i ≡ i + zero = omega arith in
    record {
      v = v;
      is = refl;
      b = are.1.1;
      cases = subst (λ (k : ℕ). IsInlined v t s k are.1.1 ⊎ IsPlaced (IsValue v) t s k are.1.1) same are.1.4;
      few = omega (arith, are.1.6);
      deep = omega arith;
    }
nth (entry key v es) t s i (suc j) cost are less =
    let same : suc i + j ≡ i + suc j = omega arith in
    let ih = nth es t s (suc i) j are.1.2 are.1.5 (omega (arith, less)) in
    record {
      v = ih.v;
      is = ih.is;
      b = ih.b;
      cases = subst (λ (k : ℕ). IsInlined ih.v t s k ih.b ⊎ IsPlaced (IsValue ih.v) t s k ih.b) same ih.cases;
      few = omega (arith, are.1.6, ih.few);
      deep = omega (arith, ih.deep);
    }

-- A value in its entry.
pub record Inlined (t : ℕ) (s : List ℕ) (i : ℕ) : Type 0 where
  pub kind : is_fixed (value_type t s i) ≡ true
  pub enough : fixed_len (value_type t s i) ≤ length (inlined_bytes t s i)
  pub value : slice_get (values (entries_in t s)) i ≡ Some (scalar (fixed (value_type t s i) (inlined_bytes t s i)))

-- A value at its offset.
pub record Placed (t : ℕ) (s : List ℕ) (i : ℕ) : Type 0 where
  pub within : value_offset t s i < byte_size t s
  pub read : is_readable (value_type t s i) (placed_bytes t s i) ≡ true
  pub value : slice_get (values (entries_in t s)) i ≡ Some (value_in (value_type t s i) (placed_bytes t s i))

nth_in : (t : ℕ) (s : List ℕ) (i : ℕ) (all : AreRead t s) → i < entry_count t s → Nth (entries_in t s) t s 0 i all.cost
nth_in t s i all less = nth (entries_in t s) t s 0 i all.cost all.are (omega (arith, less))

pub at_inlined : (t : ℕ) (s : List ℕ) (i : ℕ) → is_readable t s ≡ true → t < 4 → i < entry_count t s → is_inlined t (value_type t s i) ≡ true → Inlined t s i
at_inlined t s i e low less kind =
    let all = entries_read t s e low in
    let n = nth_in t s i all less in
    let same : 0 + i ≡ i = omega arith in
    let cases = subst (λ (k : ℕ). IsInlined n.v t s k n.b ⊎ IsPlaced (IsValue n.v) t s k n.b) same n.cases in
    elim cases [
      | inl is ↦
          record {
            kind = fixed_from (value_type t s i) is.fixed.low is.fixed.high;
            enough = is.fixed.enough;
            value = n.is ∙ ap (λ (v : Json). Some v) (is.is_scalar ∙ ap (λ (x : Scalar). scalar x) is.fixed.is);
          }
      | inr is ↦ absurd (both_ways (is_inlined t (value_type t s i)) is.placed kind)
    ]

pub at_placed : (t : ℕ) (s : List ℕ) (i : ℕ) → is_readable t s ≡ true → t < 4 → i < entry_count t s → is_inlined t (value_type t s i) ≡ false → Placed t s i
at_placed t s i e low less kind =
    let all = entries_read t s e low in
    let n = nth_in t s i all less in
    let same : 0 + i ≡ i = omega arith in
    let cases = subst (λ (k : ℕ). IsInlined n.v t s k n.b ⊎ IsPlaced (IsValue n.v) t s k n.b) same n.cases in
    elim cases [
      | inl is ↦ absurd (both_ways (is_inlined t (value_type t s i)) kind is.inlined)
      | inr is ↦
          let both = read_from n.v (value_type t s i) (placed_bytes t s i) n.b is.is (omega (arith, n.few, all.few)) (omega (arith, n.deep, all.deep)) in
          record { within = is.within; read = both.0; value = n.is ∙ ap (λ (v : Json). Some v) (sym both.1) }
    ]

pub values_count : (t : ℕ) (s : List ℕ) → is_readable t s ≡ true → t < 4 → length (values (entries_in t s)) ≡ entry_count t s
values_count t s e low = let all = entries_read t s e low in omega (arith, values_length (entries_in t s) t s 0 all.cost all.are)

pub members_count : (t : ℕ) (s : List ℕ) → is_readable t s ≡ true → t < 2 → length (members (entries_in t s)) ≡ entry_count t s
members_count t s e low =
    let all = entries_read t s e (omega (arith, low)) in
    omega (arith, members_length (entries_in t s) t s 0 all.cost (lt-ltb t 2 low) all.are)

-- A member by its index.
pub record IsMember (es : Entries) (t : ℕ) (s : List ℕ) (i j : ℕ) : Type 0 where
  pub v : Json
  pub value : slice_get (values es) j ≡ Some v
  pub member : slice_get (members es) j ≡ Some (key_bytes t s (i + j), v)
  pub within : key_offset t s (i + j) + key_size t s (i + j) ≤ byte_size t s

nth_member : (es : Entries) (t : ℕ) (s : List ℕ) (i j cost : ℕ) → is_object t ≡ true → AreEntries es t s i cost → i + j < entry_count t s → IsMember es t s i j
nth_member no_entries t s i j cost kind are less = absurd (omega (arith, are.0, less))
nth_member (entry None v es) t s i j cost kind are less = absurd (both_ways (is_object t) are.1.3.0 kind)
nth_member (entry (Some key) v es) t s i zero cost kind are less =
    let same : i ≡ i + zero = omega arith in
    record {
      v = v;
      value = refl;
      member = ap (λ (k : List ℕ). Some (k, v)) (are.1.3.3 ∙ ap (key_bytes t s) same);
      within = subst (λ (k : ℕ). key_offset t s k + key_size t s k ≤ byte_size t s) same are.1.3.2;
    }
nth_member (entry (Some key) v es) t s i (suc j) cost kind are less =
    let same : suc i + j ≡ i + suc j = omega arith in
    let ih = nth_member es t s (suc i) j are.1.2 kind are.1.5 (omega (arith, less)) in
    record {
      v = ih.v;
      value = ih.value;
      member = ih.member ∙ ap (λ (k : ℕ). Some (key_bytes t s k, ih.v)) same;
      within = subst (λ (k : ℕ). key_offset t s k + key_size t s k ≤ byte_size t s) same ih.within;
    }

pub at_member : (t : ℕ) (s : List ℕ) (i : ℕ) → is_readable t s ≡ true → t < 2 → i < entry_count t s
    → (key_offset t s i + key_size t s i ≤ byte_size t s) × ((v : Json) → slice_get (values (entries_in t s)) i ≡ Some v → slice_get (members (entries_in t s)) i ≡ Some (key_bytes t s i, v))
at_member t s i e low less =
    let all = entries_read t s e (omega (arith, low)) in
    let n = nth_member (entries_in t s) t s 0 i all.cost (lt-ltb t 2 low) all.are (omega (arith, less)) in
    let same : 0 + i ≡ i = omega arith in (
      subst (λ (k : ℕ). key_offset t s k + key_size t s k ≤ byte_size t s) same n.within,
      λ v is. n.member ∙ ap (λ (k : ℕ). Some (key_bytes t s k, n.v)) same ∙ ap (λ (w : Json). Some (key_bytes t s i, w)) (some_json n.v v (sym n.value ∙ is)),
    )

pub none_past : {A : Type 0} (xs : List A) (i : ℕ) → length xs ≤ i → slice_get xs i ≡ None
none_past [] i past = refl
none_past (x ∷ xs) zero past = absurd (omega arith)
none_past (x ∷ xs) (suc i) past = none_past xs i (omega arith)

pub key_in : (t : ℕ) (s : List ℕ) (i : ℕ) → is_readable t s ≡ true → t < 2 → i < entry_count t s → option_map (λ m. m.0) (slice_get (members (entries_in t s)) i) ≡ Some (key_bytes t s i)
key_in t s i e low less =
    let all = entries_read t s e (omega (arith, low)) in
    let n = nth_member (entries_in t s) t s 0 i all.cost (lt-ltb t 2 low) all.are (omega (arith, less)) in
    let same : 0 + i ≡ i = omega arith in
    ap (λ (o : Option (List ℕ × Json)). option_map (λ m. m.0) o) n.member ∙ ap (λ (k : ℕ). Some (key_bytes t s k)) same
