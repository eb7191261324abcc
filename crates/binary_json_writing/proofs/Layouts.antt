-- Arrays and objects: where the parts of what is written stand.
use Rattle.std.proofs.Common.{◌≡◌, ℕ, suc, ◌+◌, ◌-◌, ◌*◌, ◌^◌, ◌<◌, ◌≤◌, Bool, true, false, cond, List, [], ◌∷◌, ◌++◌, length, replicate, refl, sym, ap, subst, ◌∙◌, inl, inr, append_assoc, arith}
use Rattle.std.proofs.lemmas.Bool.{cases_Bool}
use Rattle.std.proofs.lemmas.List.{length-append, length-replicate}
use Rattle.byteorder.specs.Endian.{little_bytes}
use Rattle.binary_json.specs.Layout.{is_object, width, key_len, value_len, entry_count, byte_size, header_len, key_place, key_offset, key_size, key_bytes, value_place, value_type, value_offset, is_inlined, inlined_bytes, placed_bytes}
use Rattle.binary_json_writing.specs.Written.{Item, kind, bytes, placed, entries_size, size, key_entry, key_entries, filling, value_entry, value_entries, keys, all_placed, keys_offset, values_offset, container}
use Rattle.binary_json_writing.proofs.Seams.{index_at, range_at, word_at, word_len, longer_front, first_part}

-- ---- lengths

-- A value that stands in its entry has room there.
pub record HasRoom (t : ℕ) (x : Item) : Type 0 where
  pub room : is_inlined t (kind x) ≡ true → length (bytes x) ≤ width t

abbrev pub AllHaveRoom : ℕ → List Item → Type 0
AllHaveRoom t [] = Unit {0}
AllHaveRoom t (x ∷ xs) = HasRoom t x × AllHaveRoom t xs

key_entry_len : (t offset : ℕ) (x : Item) → length (key_entry t offset x) ≡ key_len t
unfolding key_entry
key_entry_len t offset x =
    let both : length (little_bytes (width t) offset ++ little_bytes 2 (length x.key)) ≡ width t + 2 =
    length-append (little_bytes (width t) offset) (little_bytes 2 (length x.key)) ∙ omega (arith, word_len (width t) offset, word_len 2 (length x.key)) in
    elim (is_object t) as (λ b. length (cond b (little_bytes (width t) offset ++ little_bytes 2 (length x.key)) []) ≡ cond b (width t + 2) 0) [ true ↦ both | false ↦ refl ]

value_entry_len : (t offset : ℕ) (x : Item) → HasRoom t x → length (value_entry t offset x) ≡ value_len t
unfolding value_entry
value_entry_len t offset x room =
    elim (cases_Bool (is_inlined t (kind x))) [
      | inl e ↦
          let enough = room.room e in
          let filled : length (bytes x ++ replicate (width t - length (bytes x)) (filling x)) ≡ width t =
          length-append (bytes x) (replicate (width t - length (bytes x)) (filling x)) ∙ omega (arith, enough, length-replicate (width t - length (bytes x)) (filling x)) in
          subst (λ (b : Bool). suc (length (cond b (bytes x ++ replicate (width t - length (bytes x)) (filling x)) (little_bytes (width t) offset))) ≡ value_len t) (sym e) (omega (arith, filled))
      | inr e ↦
          subst (λ (b : Bool). suc (length (cond b (bytes x ++ replicate (width t - length (bytes x)) (filling x)) (little_bytes (width t) offset))) ≡ value_len t) (sym e) (omega (arith, word_len (width t) offset))
    ]

pub key_entries_len : (t offset : ℕ) (xs : List Item) → length (key_entries t offset xs) ≡ length xs * key_len t
key_entries_len t offset [] = omega arith
key_entries_len t offset (x ∷ xs) =
    length-append (key_entry t offset x) (key_entries t (offset + length x.key) xs) ∙ omega (arith, key_entry_len t offset x, key_entries_len t (offset + length x.key) xs)

pub value_entries_len : (t offset : ℕ) (xs : List Item) → AllHaveRoom t xs → length (value_entries t offset xs) ≡ length xs * value_len t
value_entries_len t offset [] room = omega arith
value_entries_len t offset (x ∷ xs) room =
    length-append (value_entry t offset x) (value_entries t (offset + length (placed t x)) xs) ∙ omega (arith, value_entry_len t offset x room.0, value_entries_len t (offset + length (placed t x)) xs room.1)

-- The header, the keys, and the values.
entries_size_is : (t : ℕ) (xs : List Item) → entries_size t xs ≡ length xs * (key_len t + value_len t) + (length (keys xs) + length (all_placed t xs))
entries_size_is t [] = omega arith
entries_size_is t (x ∷ xs) = omega (arith, entries_size_is t xs, length-append x.key (keys xs), length-append (placed t x) (all_placed t xs))

pub size_is : (t : ℕ) (xs : List Item) → size t xs ≡ values_offset t xs + length (all_placed t xs)
unfolding size
size_is t xs = omega (arith, entries_size_is t xs)

-- ---- seams

-- What is left to read stands at these places: from the i-th entry on.
pub record Seams (t : ℕ) (s : List ℕ) (i : ℕ) (xs : List Item) (key_at value_at : ℕ) : Type 0 where
  pub a : List ℕ
  pub b : List ℕ
  pub key_entries_in : s ≡ a ++ (key_entries t key_at xs ++ b)
  pub key_entries_from : length a ≡ key_place t i
  pub c : List ℕ
  pub d : List ℕ
  pub value_entries_in : s ≡ c ++ (value_entries t value_at xs ++ d)
  pub value_entries_from : length c ≡ value_place t s i
  pub e : List ℕ
  pub f : List ℕ
  pub keys_in : s ≡ e ++ (keys xs ++ f)
  pub keys_from : length e ≡ key_at
  pub g : List ℕ
  pub h : List ℕ
  pub values_in : s ≡ g ++ (all_placed t xs ++ h)
  pub values_from : length g ≡ value_at
  pub keys_end : key_at + length (keys xs) ≤ byte_size t s
  pub values_end : value_at + length (all_placed t xs) ≡ byte_size t s
  pub keys_low : header_len t s ≤ key_at
  pub values_low : header_len t s ≤ value_at
  pub small : byte_size t s < 256 ^ width t

pub next_seams : (t : ℕ) (s : List ℕ) (i : ℕ) (x : Item) (xs : List Item) (key_at value_at : ℕ) → HasRoom t x → Seams t s i (x ∷ xs) key_at value_at
    → Seams t s (suc i) xs (key_at + length x.key) (value_at + length (placed t x))
unfolding key_place value_place
next_seams t s i x xs key_at value_at room m = record {
  a = m.a ++ key_entry t key_at x;
  b = m.b;
  key_entries_in = longer_front m.a (key_entry t key_at x) (key_entries t (key_at + length x.key) xs) m.b s m.key_entries_in;
  key_entries_from = length-append m.a (key_entry t key_at x) ∙ omega (arith, m.key_entries_from, key_entry_len t key_at x);
  c = m.c ++ value_entry t value_at x;
  d = m.d;
  value_entries_in = longer_front m.c (value_entry t value_at x) (value_entries t (value_at + length (placed t x)) xs) m.d s m.value_entries_in;
  value_entries_from = length-append m.c (value_entry t value_at x) ∙ omega (arith, m.value_entries_from, value_entry_len t value_at x room);
  e = m.e ++ x.key;
  f = m.f;
  keys_in = longer_front m.e x.key (keys xs) m.f s m.keys_in;
  keys_from = length-append m.e x.key ∙ omega (arith, m.keys_from);
  g = m.g ++ placed t x;
  h = m.h;
  values_in = longer_front m.g (placed t x) (all_placed t xs) m.h s m.values_in;
  values_from = length-append m.g (placed t x) ∙ omega (arith, m.values_from);
  keys_end = omega (arith, m.keys_end, length-append x.key (keys xs));
  values_end = omega (arith, m.values_end, length-append (placed t x) (all_placed t xs));
  keys_low = omega (arith, m.keys_low);
  values_low = omega (arith, m.values_low);
  small = m.small;
}

-- ---- what the first of these entries says

pub record SaysKey (t : ℕ) (s : List ℕ) (i : ℕ) (key : List ℕ) : Type 0 where
  pub behind : header_len t s ≤ key_offset t s i
  pub within : key_offset t s i + key_size t s i ≤ byte_size t s
  pub is : key ≡ key_bytes t s i
  pub len : key_size t s i ≡ length key

pub says_key : (t : ℕ) (s : List ℕ) (i : ℕ) (x : Item) (xs : List Item) (key_at value_at : ℕ) → is_object t ≡ true → length x.key < 2 ^ 16 → Seams t s i (x ∷ xs) key_at value_at → SaysKey t s i x.key
unfolding key_entry key_offset key_size key_bytes
says_key t s i x xs key_at value_at keyed short m =
    let others : List ℕ = key_entries t (key_at + length x.key) xs ++ m.b in
    let whole : s ≡ m.a ++ (key_entry t key_at x ++ others) = first_part m.a (key_entry t key_at x) (key_entries t (key_at + length x.key) xs) m.b s m.key_entries_in in
    let first : s ≡ m.a ++ ((little_bytes (width t) key_at ++ little_bytes 2 (length x.key)) ++ others) =
    subst (λ (b : Bool). s ≡ m.a ++ (cond b (little_bytes (width t) key_at ++ little_bytes 2 (length x.key)) [] ++ others)) keyed whole in
    let offset : key_offset t s i ≡ key_at =
    word_at m.a (little_bytes 2 (length x.key) ++ others) s (width t) key_at (key_place t i) (first_part m.a (little_bytes (width t) key_at) (little_bytes 2 (length x.key)) others s first) m.key_entries_from (omega (arith, m.keys_end, m.small, length-append x.key (keys xs))) in
    let len : key_size t s i ≡ length x.key =
    word_at (m.a ++ little_bytes (width t) key_at) others s 2 (length x.key) (key_place t i + width t) (longer_front m.a (little_bytes (width t) key_at) (little_bytes 2 (length x.key)) others s first)
    (length-append m.a (little_bytes (width t) key_at) ∙ omega (arith, m.key_entries_from, word_len (width t) key_at)) (omega arith) in
    let is : key_bytes t s i ≡ x.key =
    range_at m.e x.key (keys xs ++ m.f) s (key_offset t s i) (key_offset t s i + key_size t s i) (first_part m.e x.key (keys xs) m.f s m.keys_in) (m.keys_from ∙ sym offset) (omega (arith, len)) in
    record { behind = omega (arith, m.keys_low, offset); within = omega (arith, m.keys_end, offset, len, length-append x.key (keys xs)); is = sym is; len = len }

pub says_type : (t : ℕ) (s : List ℕ) (i : ℕ) (x : Item) (xs : List Item) (key_at value_at : ℕ) → Seams t s i (x ∷ xs) key_at value_at → value_type t s i ≡ kind x
unfolding value_entry value_type
says_type t s i x xs key_at value_at m =
    let first = first_part m.c (value_entry t value_at x) (value_entries t (value_at + length (placed t x)) xs) m.d s m.value_entries_in in
    index_at m.c _ s (kind x) (value_place t s i) first m.value_entries_from

pub says_inlined : (t : ℕ) (s : List ℕ) (i : ℕ) (x : Item) (xs : List Item) (key_at value_at : ℕ) → HasRoom t x → is_inlined t (kind x) ≡ true → Seams t s i (x ∷ xs) key_at value_at
    → inlined_bytes t s i ≡ bytes x ++ replicate (width t - length (bytes x)) (filling x)
unfolding value_entry inlined_bytes
says_inlined t s i x xs key_at value_at room inlined m =
    let others : List ℕ = value_entries t (value_at + length (placed t x)) xs ++ m.d in
    let filled : List ℕ = bytes x ++ replicate (width t - length (bytes x)) (filling x) in
    let whole : s ≡ m.c ++ (value_entry t value_at x ++ others) = first_part m.c (value_entry t value_at x) (value_entries t (value_at + length (placed t x)) xs) m.d s m.value_entries_in in
    let first : s ≡ m.c ++ ((kind x ∷ filled) ++ others) = subst (λ (b : Bool). s ≡ m.c ++ ((kind x ∷ cond b filled (little_bytes (width t) value_at)) ++ others)) inlined whole in
    let len : length filled ≡ width t =
    length-append (bytes x) (replicate (width t - length (bytes x)) (filling x)) ∙ omega (arith, room.room inlined, length-replicate (width t - length (bytes x)) (filling x)) in
    range_at (m.c ++ kind x ∷ []) filled others s (value_place t s i + 1) (value_place t s i + 1 + width t) (longer_front m.c (kind x ∷ []) filled others s first)
    (length-append m.c (kind x ∷ []) ∙ omega (arith, m.value_entries_from)) (omega (arith, len))

pub record SaysPlaced (t : ℕ) (s : List ℕ) (i : ℕ) (x : Item) (others : List ℕ) : Type 0 where
  pub behind : header_len t s ≤ value_offset t s i
  pub within : value_offset t s i < byte_size t s
  pub is : placed_bytes t s i ≡ bytes x ++ others

pub says_placed : (t : ℕ) (s : List ℕ) (i : ℕ) (x : Item) (xs : List Item) (key_at value_at : ℕ) → is_inlined t (kind x) ≡ false → 0 < length (bytes x) → Seams t s i (x ∷ xs) key_at value_at
    → SaysPlaced t s i x (all_placed t xs)
unfolding value_entry value_offset placed_bytes placed
says_placed t s i x xs key_at value_at inlined some m =
    let others : List ℕ = value_entries t (value_at + length (placed t x)) xs ++ m.d in
    let filled : List ℕ = bytes x ++ replicate (width t - length (bytes x)) (filling x) in
    let whole : s ≡ m.c ++ (value_entry t value_at x ++ others) = first_part m.c (value_entry t value_at x) (value_entries t (value_at + length (placed t x)) xs) m.d s m.value_entries_in in
    let first : s ≡ m.c ++ ((kind x ∷ little_bytes (width t) value_at) ++ others) = subst (λ (b : Bool). s ≡ m.c ++ ((kind x ∷ cond b filled (little_bytes (width t) value_at)) ++ others)) inlined whole in
    let placed_is : placed t x ≡ bytes x = subst (λ (b : Bool). cond b [] (bytes x) ≡ bytes x) (sym inlined) refl in
    let sum : length (all_placed t (x ∷ xs)) ≡ length (bytes x) + length (all_placed t xs) = length-append (placed t x) (all_placed t xs) ∙ ap (λ (r : List ℕ). length r + length (all_placed t xs)) placed_is in
    let offset : value_offset t s i ≡ value_at =
    word_at (m.c ++ kind x ∷ []) others s (width t) value_at (value_place t s i + 1) (longer_front m.c (kind x ∷ []) (little_bytes (width t) value_at) others s first)
    (length-append m.c (kind x ∷ []) ∙ omega (arith, m.value_entries_from)) (omega (arith, m.values_end, m.small)) in
    let front : placed_bytes t s i ≡ all_placed t (x ∷ xs) =
    range_at m.g (all_placed t (x ∷ xs)) m.h s (value_offset t s i) (byte_size t s) m.values_in (m.values_from ∙ sym offset) (omega (arith, offset, m.values_end)) in
    record {
      behind = omega (arith, m.values_low, offset);
      within = omega (arith, m.values_end, offset, sum);
      is = front ∙ ap (λ (r : List ℕ). r ++ all_placed t xs) placed_is;
    }

-- ---- the whole

-- What is written, and whatever stands behind it.
pub record Starts (t : ℕ) (s : List ℕ) (xs : List Item) : Type 0 where
  pub count : entry_count t s ≡ length xs
  pub size_is : byte_size t s ≡ size t xs
  pub within : byte_size t s ≤ length s
  pub room : header_len t s ≤ byte_size t s
  pub seams : Seams t s 0 xs (keys_offset t xs) (values_offset t xs)

pub container_len : (t : ℕ) (xs : List Item) → AllHaveRoom t xs → length (container t xs) ≡ size t xs
unfolding container
container_len t xs room =
    let w = width t in
    let ks = key_entries t (keys_offset t xs) xs in
    let vs = value_entries t (values_offset t xs) xs in
    let p1 = length-append (little_bytes w (length xs)) (little_bytes w (size t xs) ++ (ks ++ (vs ++ (keys xs ++ all_placed t xs)))) in
    let p2 = length-append (little_bytes w (size t xs)) (ks ++ (vs ++ (keys xs ++ all_placed t xs))) in
    let p3 = length-append ks (vs ++ (keys xs ++ all_placed t xs)) in
    let p4 = length-append vs (keys xs ++ all_placed t xs) in
    let p5 = length-append (keys xs) (all_placed t xs) in
    omega (arith, p1, p2, p3, p4, p5, word_len w (length xs), word_len w (size t xs), key_entries_len t (keys_offset t xs) xs, value_entries_len t (values_offset t xs) xs room, size_is t xs)

at_least : (n k w : ℕ) → n ≤ n * (k + (w + 1))
at_least n k w = omega arith

-- Six parts and what is behind them.
parts_of : (a b c d e f rest : List ℕ) → (a ++ (b ++ (c ++ (d ++ (e ++ f))))) ++ rest ≡ a ++ (b ++ (c ++ (d ++ (e ++ (f ++ rest)))))
parts_of a b c d e f rest = simp append_assoc

pub starts : (t : ℕ) (xs : List Item) (rest s : List ℕ) → s ≡ container t xs ++ rest → AllHaveRoom t xs → size t xs < 256 ^ width t → Starts t s xs
unfolding container entry_count byte_size header_len key_place value_place
starts t xs rest s e room small =
    let w : ℕ = width t in
    let counts : List ℕ = little_bytes w (length xs) in
    let sizes : List ℕ = little_bytes w (size t xs) in
    let ks : List ℕ = key_entries t (keys_offset t xs) xs in
    let vs : List ℕ = value_entries t (values_offset t xs) xs in
    let ps : List ℕ = all_placed t xs in
    let total = size_is t xs in
    let parts : s ≡ counts ++ (sizes ++ (ks ++ (vs ++ (keys xs ++ (ps ++ rest))))) = e ∙ parts_of counts sizes ks vs (keys xs) ps rest in
    let count_len = word_len w (length xs) in
    let size_len = word_len w (size t xs) in
    let some : length xs ≤ length xs * (key_len t + value_len t) = at_least (length xs) (key_len t) (width t) in
    let count : entry_count t s ≡ length xs = word_at [] (sizes ++ (ks ++ (vs ++ (keys xs ++ (ps ++ rest))))) s w (length xs) 0 parts refl (omega (arith, total, small, some)) in
    let size_is : byte_size t s ≡ size t xs = word_at counts (ks ++ (vs ++ (keys xs ++ (ps ++ rest)))) s w (size t xs) w parts count_len small in
    let header : header_len t s ≡ keys_offset t xs = ap (λ (n : ℕ). 2 * w + n * (key_len t + value_len t)) count in
    let len : length s ≡ size t xs + length rest = ap length e ∙ length-append (container t xs) rest ∙ ap (λ (n : ℕ). n + length rest) (container_len t xs room) in
    let ks_len = key_entries_len t (keys_offset t xs) xs in
    let vs_len = value_entries_len t (values_offset t xs) xs room in
    let products : entry_count t s * key_len t ≡ length xs * key_len t = ap (λ (n : ℕ). n * key_len t) count in
    let two : length (counts ++ (sizes ++ ks)) ≡ w + (w + length ks) = length-append counts (sizes ++ ks) ∙ omega (arith, count_len, size_len, length-append sizes ks) in
    let three : length (counts ++ (sizes ++ (ks ++ vs))) ≡ w + (w + (length ks + length vs)) =
    length-append counts (sizes ++ (ks ++ vs)) ∙ omega (arith, count_len, size_len, length-append sizes (ks ++ vs), length-append ks vs) in
    let four : length (counts ++ (sizes ++ (ks ++ (vs ++ keys xs)))) ≡ w + (w + (length ks + (length vs + length (keys xs)))) =
    length-append counts (sizes ++ (ks ++ (vs ++ keys xs))) ∙ omega (arith, count_len, size_len, length-append sizes (ks ++ (vs ++ keys xs)), length-append ks (vs ++ keys xs), length-append vs (keys xs)) in
    record {
      count = count;
      size_is = size_is;
      within = omega (arith, size_is, len);
      room = omega (arith, size_is, header, total);
      seams = record {
        a = counts ++ sizes;
        b = vs ++ (keys xs ++ (ps ++ rest));
        key_entries_in = parts ∙ sym (append_assoc counts sizes (ks ++ (vs ++ (keys xs ++ (ps ++ rest)))));
        key_entries_from = length-append counts sizes ∙ omega (arith, count_len, size_len);
        c = counts ++ (sizes ++ ks);
        d = keys xs ++ (ps ++ rest);
        value_entries_in = parts ∙ simp append_assoc;
        value_entries_from = omega (arith, two, products, ks_len);
        e = counts ++ (sizes ++ (ks ++ vs));
        f = ps ++ rest;
        keys_in = parts ∙ simp append_assoc;
        keys_from = omega (arith, three, ks_len, vs_len);
        g = counts ++ (sizes ++ (ks ++ (vs ++ keys xs)));
        h = rest;
        values_in = parts ∙ simp append_assoc;
        values_from = omega (arith, four, ks_len, vs_len);
        keys_end = omega (arith, size_is, total);
        values_end = omega (arith, size_is, total);
        keys_low = omega (arith, header);
        values_low = omega (arith, header);
        small = omega (arith, size_is, small);
      };
    }
