-- Values: what is written reads back, whatever stands behind it.
use Rattle.std.proofs.Common.{◌≡◌, ℕ, zero, suc, ◌+◌, ◌-◌, ◌*◌, ◌/◌, ◌%◌, ◌^◌, ◌<◌, ◌≤◌, Bool, true, false, cond, ◌⊎◌, List, [], ◌∷◌, ◌++◌, length, replicate, Option, Some, None, refl, sym, ap, subst, ◌∙◌, inl, inr, append-nil, arith}
use Rattle.std.specs.Prelude.{◌&&◌, nat_le, nat_lt, nat_eq}
use Rattle.std.proofs.lemmas.Bool.{ltb-true, leb-true, le-leb, cases_Bool}
use Rattle.std.proofs.lemmas.List.{length-append}
use Rattle.byteorder.specs.Endian.{little_bytes}
use Rattle.binary_json.specs.Values.{Scalar, null, boolean, int16, uint16, int32, uint32, int64, uint64, double, string, opaque, Json, scalar, array, object, Entries, no_entries, entry, nesting}
use Rattle.binary_json.specs.Layout.{is_object, width, key_len, value_len, entry_count, header_len, value_type, is_inlined, inlined_bytes, placed_bytes, fixed_len}
use Rattle.binary_json.specs.Grammar.{IsFixed, IsKey, IsInlined, IsPlaced, IsContainer, IsValue, AreEntries, IsDocument}
use Rattle.binary_json_writing.specs.Written.{variable_bytes, counted_bytes, Item, kind, bytes, placed, size, key_entries, value_entries, keys, all_placed, keys_offset, values_offset, container, container_type, filling, written_scalar, key_of, item_of, written, items}
use Rattle.binary_json_writing.specs.Writable.{is_writable_scalar, is_writable_key, fits as fits_in, is_writable, are_writable}
use Rattle.binary_json_writing.proofs.Seams.{word_len, both_true}
use Rattle.binary_json_writing.proofs.Scalars.{kind_in, payload, scalar_reads}
use Rattle.binary_json_writing.proofs.Layouts.{HasRoom, AllHaveRoom, Seams, next_seams, says_key, says_type, says_inlined, says_placed, size_is, container_len, starts}

-- ---- types

len_up_to : (k : ℕ) → k ≤ 8 → fixed_len k ≤ 4
len_up_to k most =
    elim (cases_Bool (nat_le k 4)) [
      | inl a ↦ rw a (omega arith)
      | inr a ↦ elim (cases_Bool (nat_le k 6)) [ inl b ↦ rw (a, b) (omega arith) | inr b ↦ (let c : nat_le k 8 ≡ true = le-leb k 8 most in rw (a, b, c) (omega arith)) ]
    ]

len_up_to_six : (k : ℕ) → k ≤ 6 → fixed_len k ≤ 2
len_up_to_six k most =
    elim (cases_Bool (nat_le k 4)) [
      | inl a ↦ rw a (omega arith)
      | inr a ↦ (let c : nat_le k 6 ≡ true = le-leb k 6 most in rw (a, c) (omega arith))
    ]

inlined_range : (t k : ℕ) → is_inlined t k ≡ true → (4 ≤ k) × (k ≤ 8) × (fixed_len k ≤ width t)
inlined_range t k e =
    let large : Bool = nat_eq (t % 2) 1 in
    let P : Bool → Type 0 = λ b. (nat_le 4 k && nat_le k (cond b 8 6)) ≡ true → (4 ≤ k) × (k ≤ 8) × (fixed_len k ≤ cond b 4 2) in
    let both : P large = elim large as P [
      | true ↦ λ e. (let p = both_true (nat_le 4 k) (nat_le k 8) e in let most : k ≤ 8 = leb-true k 8 p.1 in (leb-true 4 k p.0, most, len_up_to k most))
      | false ↦ λ e. (let p = both_true (nat_le 4 k) (nat_le k 6) e in let most : k ≤ 6 = leb-true k 6 p.1 in (leb-true 4 k p.0, omega arith, len_up_to_six k most))
    ] in
    both e

scalar_room : (t : ℕ) (x : Scalar) → is_writable_scalar x ≡ true → is_inlined t (kind_in (written_scalar x)) ≡ true → length (payload (written_scalar x)) ≤ width t
scalar_room t x fits e =
    let range = inlined_range t (kind_in (written_scalar x)) e in
    elim (scalar_reads x [] fits) [
      | inl is ↦ omega (arith, is.1, range.2)
      | inr is ↦ elim is [ inl s ↦ absurd (omega (arith, s.kind_is, range.1)) | inr o ↦ absurd (omega (arith, o.kind_is, range.1)) ]
    ]

-- ---- the types of arrays and objects

type_cases : (t : ℕ) (xs : List Item) → fits_in t xs ≡ true → ((container_type t xs ≡ t) × (size t xs < 256 ^ 2)) ⊎ ((container_type t xs ≡ suc t) × (size (suc t) xs < 256 ^ 4))
unfolding container_type fits_in
type_cases t xs e =
    elim (cases_Bool (nat_le (size t xs) 65535)) [
      | inl a ↦ inl (ap (λ (b : Bool). cond b t (suc t)) a, omega (arith, leb-true (size t xs) 65535 a))
      | inr a ↦ inr (ap (λ (b : Bool). cond b t (suc t)) a, omega (arith, ltb-true (size (suc t) xs) (2 ^ 32) (subst (λ (b : Bool). nat_lt (size (cond b t (suc t)) xs) (2 ^ 32) ≡ true) a e)))
    ]

type_low : (t : ℕ) (xs : List Item) → container_type t xs ≤ suc t
unfolding container_type
type_low t xs = elim (nat_le (size t xs) 65535) as (λ b. cond b t (suc t) ≤ suc t) [ true ↦ omega arith | false ↦ omega arith ]

-- ---- room

value_room : (t : ℕ) (key : Option (List ℕ)) (v : Json) → is_writable v ≡ true → HasRoom t (item_of key (written v))
value_room t key (scalar x) fits = record { room = scalar_room t x fits }
value_room t key (array es) fits = record { room = λ e. absurd (omega (arith, (inlined_range t (container_type 2 (items es)) e).0, type_low 2 (items es))) }
value_room t key (object es) fits = record { room = λ e. absurd (omega (arith, (inlined_range t (container_type 0 (items es)) e).0, type_low 0 (items es))) }

all_have_room : (t : ℕ) (keyed : Bool) (es : Entries) → are_writable keyed es ≡ true → AllHaveRoom t (items es)
all_have_room t keyed no_entries fits = tt
all_have_room t keyed (entry key v es) fits =
    let both = both_true (is_writable_key keyed key) _ fits in
    let rest = both_true (is_writable v) (are_writable keyed es) both.1 in
    (value_room t key v rest.0, all_have_room t keyed es rest.1)

-- ---- keys

no_key : (keyed : Bool) → is_writable_key keyed None ≡ true → keyed ≡ false
no_key true e = absurd cc
no_key false e = refl

some_key : (keyed : Bool) (key : List ℕ) → is_writable_key keyed (Some key) ≡ true → (keyed ≡ true) × (length key < 2 ^ 16)
some_key true key e = (refl, ltb-true (length key) (2 ^ 16) e)
some_key false key e = absurd cc

key_reads : (key : Option (List ℕ)) (t : ℕ) (s : List ℕ) (i : ℕ) (w : List ℕ) (xs : List Item) (key_at value_at : ℕ) → is_writable_key (is_object t) key ≡ true → Seams t s i (item_of key w ∷ xs) key_at value_at
    → IsKey key t s i (length (key_of key))
key_reads None t s i w xs key_at value_at fits m = (no_key (is_object t) fits, refl)
key_reads (Some key) t s i w xs key_at value_at fits m =
    let is = some_key (is_object t) key fits in
    let says = says_key t s i (item_of (Some key) w) xs key_at value_at is.0 is.1 m in
    (is.0, says.behind, says.within, says.is, sym says.len)

-- ---- values behind the header

some_length : (most n : ℕ) → 0 < length (variable_bytes most n)
unfolding variable_bytes
some_length zero n = omega arith
some_length (suc most) n = elim (nat_lt n 128) as (λ b. 0 < length (cond b (n ∷ []) ((n % 128 + 128) ∷ variable_bytes most (n / 128)))) [ true ↦ omega arith | false ↦ omega arith ]

some_counted : (s : List ℕ) → 0 < length (counted_bytes s)
some_counted s = omega (arith, length-append (variable_bytes 4 (length s)) s, some_length 4 (length s))

some_scalar : (x : Scalar) → 0 < length (payload (written_scalar x))
some_scalar null = omega arith
some_scalar (boolean true) = omega arith
some_scalar (boolean false) = omega arith
some_scalar (int16 n) = omega arith
some_scalar (uint16 n) = omega arith
some_scalar (int32 n) = omega arith
some_scalar (uint32 n) = omega arith
some_scalar (int64 n) = omega arith
some_scalar (uint64 n) = omega arith
some_scalar (double n) = omega arith
some_scalar (string s) = some_counted s
some_scalar (opaque column s) = omega arith

wide : (t : ℕ) → 2 ≤ width t
wide t = elim (nat_eq (t % 2) 1) as (λ b. 2 ≤ cond b 4 2) [ true ↦ omega arith | false ↦ omega arith ]

some_container : (t : ℕ) (xs : List Item) → 0 < length (container t xs)
unfolding container
some_container t xs =
    let others : List ℕ = little_bytes (width t) (size t xs) ++ (key_entries t (keys_offset t xs) xs ++ (value_entries t (values_offset t xs) xs ++ (keys xs ++ all_placed t xs))) in
    omega (arith, length-append (little_bytes (width t) (length xs)) others, word_len (width t) (length xs), wide t)

some_bytes : (v : Json) → 0 < length (payload (written v))
some_bytes (scalar x) = some_scalar x
some_bytes (array es) = some_container (container_type 2 (items es)) (items es)
some_bytes (object es) = some_container (container_type 0 (items es)) (items es)

-- ---- entries

abbrev Reads : Json → Type 0
Reads v = (rest : List ℕ) → IsValue v (kind_in (written v)) (payload (written v) ++ rest) (length (payload (written v)))

fixed_scalar : (x : Scalar) (rest : List ℕ) → is_writable_scalar x ≡ true → 4 ≤ kind_in (written_scalar x) → kind_in (written_scalar x) ≤ 8 → IsFixed x (kind_in (written_scalar x)) (payload (written_scalar x) ++ rest)
fixed_scalar x rest fits low high =
    elim (scalar_reads x rest fits) [
      | inl is ↦ is.0
      | inr is ↦ elim is [ inl s ↦ absurd (omega (arith, s.kind_is, high)) | inr o ↦ absurd (omega (arith, o.kind_is, high)) ]
    ]

inlined_reads : (v : Json) (key : Option (List ℕ)) (t : ℕ) (s : List ℕ) (i : ℕ) (xs : List Item) (key_at value_at cost : ℕ) → is_writable v ≡ true → is_inlined t (kind_in (written v)) ≡ true → cost ≡ 0
    → Seams t s i (item_of key (written v) ∷ xs) key_at value_at → IsInlined v t s i cost
inlined_reads (scalar x) key t s i xs key_at value_at cost fits e none m =
    let item : Item = item_of key (written_scalar x) in
    let kind_is : value_type t s i ≡ kind item = says_type t s i item xs key_at value_at m in
    let bytes_are = says_inlined t s i item xs key_at value_at (value_room t key (scalar x) fits) e m in
    let range = inlined_range t (kind item) e in
    let fixed : IsFixed x (kind item) (bytes item ++ replicate (width t - length (bytes item)) (filling item)) = fixed_scalar x (replicate (width t - length (bytes item)) (filling item)) fits range.0 range.1 in
    record {
      inlined = ap (is_inlined t) kind_is ∙ e;
      x = x;
      is_scalar = refl;
      fixed = subst (λ (k : ℕ). IsFixed x k (inlined_bytes t s i)) (sym kind_is) (subst (λ (r : List ℕ). IsFixed x (kind item) r) (sym bytes_are) fixed);
      no_cost = none;
    }
inlined_reads (array es) key t s i xs key_at value_at cost fits e none m = absurd (omega (arith, (inlined_range t (container_type 2 (items es)) e).0, type_low 2 (items es)))
inlined_reads (object es) key t s i xs key_at value_at cost fits e none m = absurd (omega (arith, (inlined_range t (container_type 0 (items es)) e).0, type_low 0 (items es)))

member_reads : (v : Json) (key : Option (List ℕ)) (t : ℕ) (s : List ℕ) (i : ℕ) (xs : List Item) (key_at value_at : ℕ) → is_writable v ≡ true → Reads v → Seams t s i (item_of key (written v) ∷ xs) key_at value_at
    → IsInlined v t s i (length (placed t (item_of key (written v)))) ⊎ IsPlaced (IsValue v) t s i (length (placed t (item_of key (written v))))
unfolding placed
member_reads v key t s i xs key_at value_at fits reads m =
    let item : Item = item_of key (written v) in
    elim (cases_Bool (is_inlined t (kind item))) [
      | inl e ↦ inl (inlined_reads v key t s i xs key_at value_at (length (placed t item)) fits e (ap (λ (b : Bool). length (cond b [] (bytes item))) e) m)
      | inr e ↦
          let kind_is : value_type t s i ≡ kind item = says_type t s i item xs key_at value_at m in
          let says = says_placed t s i item xs key_at value_at e (some_bytes v) m in
          let len : length (placed t item) ≡ length (bytes item) = ap (λ (b : Bool). length (cond b [] (bytes item))) e in
          let is : IsValue v (kind item) (bytes item ++ all_placed t xs) (length (bytes item)) = reads (all_placed t xs) in
          let at : IsValue v (kind item) (placed_bytes t s i) (length (bytes item)) = subst (λ (r : List ℕ). IsValue v (kind item) r (length (bytes item))) (sym says.is) is in
          let typed : IsValue v (value_type t s i) (placed_bytes t s i) (length (bytes item)) = subst (λ (k : ℕ). IsValue v k (placed_bytes t s i) (length (bytes item))) (sym kind_is) at in
          inr (record {
            placed = ap (is_inlined t) kind_is ∙ e;
            behind = says.behind;
            within = says.within;
            is = subst (λ (n : ℕ). IsValue v (value_type t s i) (placed_bytes t s i) n) (sym len) typed;
          })
    ]

-- ---- arrays and objects

container_reads : (es : Entries) (t : ℕ) (keyed : Bool) (rest : List ℕ) → is_object t ≡ keyed → are_writable keyed es ≡ true → size t (items es) < 256 ^ width t
    → ((s : List ℕ) → Seams t s 0 (items es) (keys_offset t (items es)) (values_offset t (items es)) → entry_count t s ≡ length (items es) → AreEntries es t s 0 (length (keys (items es)) + length (all_placed t (items es))))
    → IsContainer (AreEntries es t (container t (items es) ++ rest) 0) t (container t (items es) ++ rest) (length (container t (items es)))
unfolding header_len
container_reads es t keyed rest kind_is fits small entries =
    let xs : List Item = items es in
    let s : List ℕ = container t xs ++ rest in
    let room = all_have_room t keyed es fits in
    let all = starts t xs rest s refl room small in
    let header : header_len t s ≡ keys_offset t xs = ap (λ (n : ℕ). 2 * width t + n * (key_len t + value_len t)) all.count in
    record {
      enough = omega (arith, all.room, all.within);
      within = all.within;
      room = all.room;
      entries_cost = length (keys xs) + length (all_placed t xs);
      entries = entries s all.seams all.count;
      cost_is = omega (arith, container_len t xs room, size_is t xs, header);
    }

mutual
  value_reads : (v : Json) (rest : List ℕ) → is_writable v ≡ true → IsValue v (kind_in (written v)) (payload (written v) ++ rest) (length (payload (written v)))
  value_reads (scalar x) rest fits = scalar_reads x rest fits
  value_reads (array es) rest fits =
      let xs : List Item = items es in
      let both = both_true (fits_in 2 xs) (are_writable false es) fits in
      let P : ℕ → Type 0 = λ t. IsValue (array es) t (container t xs ++ rest) (length (container t xs)) in
      elim (type_cases 2 xs both.0) [
        | inl a ↦ subst P (sym a.0) (omega arith, omega arith, container_reads es 2 false rest refl both.1 a.1 (λ s m count. entries_read es 2 0 (keys_offset 2 xs) (values_offset 2 xs) s both.1 (omega (arith, count)) m))
        | inr a ↦ subst P (sym a.0) (omega arith, omega arith, container_reads es 3 false rest refl both.1 a.1 (λ s m count. entries_read es 3 0 (keys_offset 3 xs) (values_offset 3 xs) s both.1 (omega (arith, count)) m))
      ]
  value_reads (object es) rest fits =
      let xs : List Item = items es in
      let both = both_true (fits_in 0 xs) (are_writable true es) fits in
      let P : ℕ → Type 0 = λ t. IsValue (object es) t (container t xs ++ rest) (length (container t xs)) in
      elim (type_cases 0 xs both.0) [
        | inl a ↦ subst P (sym a.0) (omega arith, container_reads es 0 true rest refl both.1 a.1 (λ s m count. entries_read es 0 0 (keys_offset 0 xs) (values_offset 0 xs) s both.1 (omega (arith, count)) m))
        | inr a ↦ subst P (sym a.0) (omega arith, container_reads es 1 true rest refl both.1 a.1 (λ s m count. entries_read es 1 0 (keys_offset 1 xs) (values_offset 1 xs) s both.1 (omega (arith, count)) m))
      ]

  entries_read : (es : Entries) (t i key_at value_at : ℕ) (s : List ℕ) → are_writable (is_object t) es ≡ true → i + length (items es) ≡ entry_count t s → Seams t s i (items es) key_at value_at
      → AreEntries es t s i (length (keys (items es)) + length (all_placed t (items es)))
  entries_read no_entries t i key_at value_at s fits all m = (omega (arith, all), refl)
  entries_read (entry key v es) t i key_at value_at s fits all m =
      let xs : List Item = items es in
      let item : Item = item_of key (written v) in
      let both = both_true (is_writable_key (is_object t) key) _ fits in
      let rest = both_true (is_writable v) (are_writable (is_object t) es) both.1 in
      let key_is = key_reads key t s i (written v) xs key_at value_at both.0 m in
      let member = member_reads v key t s i xs key_at value_at rest.0 (λ others. value_reads v others rest.0) m in
      let next = next_seams t s i item xs key_at value_at (value_room t key v rest.0) m in
      let others = entries_read es t (suc i) (key_at + length item.key) (value_at + length (placed t item)) s rest.1 (omega (arith, all)) next in
      let sum : length (item.key ++ keys xs) + length (placed t item ++ all_placed t xs) ≡ length (key_of key) + (length (placed t item) + (length (keys xs) + length (all_placed t xs))) =
      omega (arith, length-append item.key (keys xs), length-append (placed t item) (all_placed t xs)) in
      (omega (arith, all), (length (key_of key), length (placed t item), length (keys xs) + length (all_placed t xs), key_is, member, others, sum))

-- ---- documents

document_of : (w : List ℕ) (v : Json) → 0 < length (payload w) → IsValue v (kind_in w) (payload w ++ []) (length (payload w)) → nesting v ≤ 100 → IsDocument w v
document_of [] v some is deep = absurd (omega arith)
document_of (t ∷ s) v some is deep = (length s, subst (λ (r : List ℕ). IsValue v t r (length s)) (append-nil s) is, omega arith, deep)

pub document_reads : (v : Json) → is_writable v ≡ true → nesting v ≤ 100 → IsDocument (written v) v
document_reads v fits deep = document_of (written v) v (some_bytes v) (value_reads v [] fits) deep
