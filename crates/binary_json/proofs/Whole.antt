-- Whole values: what is checked is in the grammar, and what is in the grammar is checked.
use Rattle.std.proofs.Common.{◌≡◌, ℕ, zero, suc, ◌+◌, ◌*◌, ◌<◌, ◌≤◌, Bool, true, false, cond, List, length, Ok, refl, sym, ap, subst, ◌∙◌, inl, inr, arith}
use Rattle.std.specs.Prelude.{nat_lt}
use Rattle.std.proofs.lemmas.Bool.{ltb-true, ltb-false, lt-ltb, le-ltb, cases_Bool}
use Rattle.binary_json.specs.Values.{Json, scalar, array, object, Entries, no_entries, entry, nesting, entries_nesting}
use Rattle.binary_json.specs.Layout.{is_container, is_object, width, entry_count, byte_size, header_len, value_type, value_offset, placed_bytes}
use Rattle.binary_json.specs.Grammar.{IsContainer, IsValue, AreEntries}
use Rattle.binary_json.specs.Refusals.{Check, ◌>>=◌, refuse, spend, key_left, value_left_by, entries_left, header_of, container_left, scalar_left, value_left}
use Rattle.binary_json.specs.Decoding.{scalar_at, entry_at, entries_at, container_at, value_at}
use Rattle.binary_json.specs.declared.error.Refusal.TheVariants as refusals
use Rattle.binary_json.proofs.Steps.{bind_ok, passed, chosen, same_left, spent, spends}
use Rattle.binary_json.proofs.Scalars.{scalar_sound, scalar_complete}
use Rattle.binary_json.proofs.MemberChecks.{Sound, key_sound, key_complete, member_sound, inlined_complete, placed_complete}

-- ---- headers

pub record Fits (t : ℕ) (s : List ℕ) : Type 0 where
  pub enough : 2 * width t ≤ length s
  pub within : byte_size t s ≤ length s
  pub room : header_len t s ≤ byte_size t s

header_sound : (t place : ℕ) (s : List ℕ) (n : ℕ) → header_of t place s ≡ Ok n → Fits t s × (header_len t s ≡ n)
unfolding header_of
header_sound t place s n e =
    let a = passed (nat_lt (length s) (2 * width t)) _ (cond (nat_lt (length s) (byte_size t s)) (refuse refusals.Size place) (cond (nat_lt (byte_size t s) (header_len t s)) (refuse refusals.Entries place) (Ok (header_len t s)))) n e in
    let b = passed (nat_lt (length s) (byte_size t s)) _ (cond (nat_lt (byte_size t s) (header_len t s)) (refuse refusals.Entries place) (Ok (header_len t s))) n a.1 in
    let c = passed (nat_lt (byte_size t s) (header_len t s)) _ (Ok (header_len t s)) n b.1 in
    (record { enough = ltb-false _ _ a.0; within = ltb-false _ _ b.0; room = ltb-false _ _ c.0 }, same_left (header_len t s) n c.1)

pub header_complete : (t place : ℕ) (s : List ℕ) → Fits t s → header_of t place s ≡ Ok (header_len t s)
unfolding header_of
header_complete t place s fits = rw (le-ltb _ _ fits.enough, le-ltb _ _ fits.within, le-ltb _ _ fits.room) refl

-- ---- entries

module _ (check : Check) (value : ℕ → List ℕ → Json) (depth t place : ℕ) (s : List ℕ) where
  entries_sound : Sound check value depth t place s 0 → header_len t s ≤ length s → (n i from rest : ℕ) → i + n ≡ entry_count t s → entries_left check t place s n i from ≡ Ok rest
      → (cost : ℕ) × AreEntries (entries_at value t s n i) t s i cost × (cost + rest ≡ from) × (entries_nesting (entries_at value t s n i) ≤ depth)
  unfolding entries_left entries_at
  entries_sound sound room zero i from rest all e =
      let same = same_left from rest e in
      (0, (omega (arith, all), refl), omega (arith, same), omega arith)
  entries_sound sound room (suc n) i from rest all e =
      let behind_value = λ (left : ℕ). entries_left check t place s n (suc i) left in
      let a = bind_ok (key_left t place s i from) (λ left. value_left_by check t place s i left >>= behind_value) rest e in
      let b = bind_ok (value_left_by check t place s i a.0) behind_value rest a.2 in
      let less : i < entry_count t s = omega (arith, all) in
      let key = key_sound t place s i from a.0 a.1 in
      let member = member_sound check value depth t place s i sound less room a.0 b.0 b.1 in
      let others = entries_sound sound room n (suc i) b.0 rest (omega (arith, all)) b.2 in
      (key.0 + (member.0 + others.0), (less, (key.0, member.0, others.0, key.1, member.1.0, others.1, refl)), omega (arith, key.2, member.1.1, others.2), omega (arith, member.1.2, others.3))

  container_sound : Sound check value depth t place s 0 → is_container t ≡ true → (from rest : ℕ) → container_left check t place s from ≡ Ok rest
      → (cost : ℕ) × IsValue (container_at value t s) t s cost × (cost + rest ≡ from) × (nesting (container_at value t s) ≤ suc depth)
  unfolding container_left container_at
  container_sound sound kind from rest e =
      let entries = λ (left : ℕ). entries_left check t place s (entry_count t s) 0 left in
      let a = bind_ok (header_of t place s) (λ n. spend n place from >>= entries) rest e in
      let b = bind_ok (spend a.0 place from) entries rest a.2 in
      let header = header_sound t place s a.0 a.1 in
      let room : header_len t s ≤ length s = omega (arith, header.0.room, header.0.within) in
      let inner = entries_sound sound room (entry_count t s) 0 b.0 rest (omega arith) b.2 in
      let es : Entries = entries_at value t s (entry_count t s) 0 in
      let is : IsContainer (AreEntries es t s 0) t s (header_len t s + inner.0) = record {
        enough = header.0.enough;
        within = header.0.within;
        room = header.0.room;
        entries_cost = inner.0;
        entries = inner.1;
        cost_is = refl;
      } in
      let paid = spent a.0 place from b.0 b.1 in
      let sum : header_len t s + inner.0 + rest ≡ from = omega (arith, header.1, paid, inner.2) in
      let P : Json → Type 0 = λ v. IsValue v t s (header_len t s + inner.0) × (header_len t s + inner.0 + rest ≡ from) × (nesting v ≤ suc depth) in
      let t_is : t < 4 = ltb-true t 4 kind in
      let both : P (cond (is_object t) (object es) (array es)) =
      elim (cases_Bool (is_object t)) [
        | inl x ↦ subst (λ (b : Bool). P (cond b (object es) (array es))) (sym x) ((omega (arith, ltb-true t 2 x), is), sum, omega (arith, inner.3))
        | inr x ↦ subst (λ (b : Bool). P (cond b (object es) (array es))) (sym x) ((ltb-false t 2 x, omega (arith, t_is), is), sum, omega (arith, inner.3))
      ] in
      (header_len t s + inner.0, both.0, both.1, both.2)

-- ---- values

pub value_sound : (depth t place : ℕ) (s : List ℕ) (from rest : ℕ) → value_left depth t place s from ≡ Ok rest
    → (cost : ℕ) × IsValue (value_at depth t s) t s cost × (cost + rest ≡ from) × (nesting (value_at depth t s) ≤ depth)
unfolding value_left value_at
value_sound zero t place s from rest e =
    let p = passed (is_container t) _ (scalar_left t place s from) rest e in
    let is = scalar_sound t place s from rest p.1 in
    (is.0, is.1, is.2, omega arith)
value_sound (suc depth) t place s from rest e =
    let P : Json → ℕ → Type 0 = λ v cost. IsValue v t s cost × (cost + rest ≡ from) × (nesting v ≤ suc depth) in
    elim (chosen (is_container t) (container_left (value_left depth) t place s from) (scalar_left t place s from) rest e) [
      | inl x ↦
          let is = container_sound (value_left depth) (value_at depth) depth t place s (value_sound depth) x.0 from rest x.1 in
          let all = subst (λ (b : Bool). P (cond b (container_at (value_at depth) t s) (scalar (scalar_at t s))) is.0) (sym x.0) (is.1, is.2, is.3) in
          (is.0, all.0, all.1, all.2)
      | inr x ↦
          let is = scalar_sound t place s from rest x.1 in
          let all = subst (λ (b : Bool). P (cond b (container_at (value_at depth) t s) (scalar (scalar_at t s))) is.0) (sym x.0) (is.1, is.2, omega arith) in
          (is.0, all.0, all.1, all.2)
    ]

-- ---- and back

-- The check of an array or an object, behind that of its entries.
container_complete : (depth : ℕ) (es : Entries) (t place : ℕ) (s : List ℕ) (cost from rest : ℕ) → t < 4 → IsContainer (AreEntries es t s 0) t s cost → cost + rest ≡ from
    → ((from : ℕ) → (c : ℕ) → AreEntries es t s 0 c → c + rest ≡ from → (entries_left (value_left depth) t place s (entry_count t s) 0 from ≡ Ok rest) × (entries_at (value_at depth) t s (entry_count t s) 0 ≡ es))
    → (value_left (suc depth) t place s from ≡ Ok rest) × (value_at (suc depth) t s ≡ cond (is_object t) (object es) (array es))
unfolding value_left value_at container_left container_at
container_complete depth es t place s cost from rest kind is e inner =
    let container : is_container t ≡ true = lt-ltb t 4 kind in
    let header = header_complete t place s (record { enough = is.enough; within = is.within; room = is.room }) in
    let paid : spend (header_len t s) place from ≡ Ok (is.entries_cost + rest) = spends (header_len t s) place from (is.entries_cost + rest) (omega (arith, e, is.cost_is)) in
    let entries = inner (is.entries_cost + rest) is.entries_cost is.entries refl in
    (rw (container, header, paid) entries.0, rw container (ap (λ (xs : Entries). cond (is_object t) (object xs) (array xs)) entries.1))

mutual
  unfolding value_left value_at entries_left entries_at

  pub value_complete : (v : Json) (depth t place : ℕ) (s : List ℕ) (cost from rest : ℕ) → IsValue v t s cost → nesting v ≤ depth → cost + rest ≡ from
      → (value_left depth t place s from ≡ Ok rest) × (value_at depth t s ≡ v)
  value_complete (scalar x) zero t place s cost from rest is deep e =
      let both = scalar_complete x t place s cost from rest is e in
      let kind : is_container t ≡ false = le-ltb t 4 both.0 in
      (rw kind both.1, ap (λ y. scalar y) both.2)
  value_complete (scalar x) (suc depth) t place s cost from rest is deep e =
      let both = scalar_complete x t place s cost from rest is e in
      let kind : is_container t ≡ false = le-ltb t 4 both.0 in
      (rw kind both.1, rw kind (ap (λ y. scalar y) both.2))
  value_complete (array es) zero t place s cost from rest is deep e = absurd (omega arith)
  value_complete (array es) (suc depth) t place s cost from rest is deep e =
      let kind : is_object t ≡ false = le-ltb t 2 is.0 in
      let both = container_complete depth es t place s cost from rest (omega (arith, is.1)) is.2 e
      (λ left c are sum. entries_complete es depth t place s (entry_count t s) 0 c left rest are (omega arith) (omega arith) sum) in
      (both.0, both.1 ∙ ap (λ (b : Bool). cond b (object es) (array es)) kind)
  value_complete (object es) zero t place s cost from rest is deep e = absurd (omega arith)
  value_complete (object es) (suc depth) t place s cost from rest is deep e =
      let kind : is_object t ≡ true = lt-ltb t 2 (omega (arith, is.0)) in
      let both = container_complete depth es t place s cost from rest (omega (arith, is.0)) is.1 e
      (λ left c are sum. entries_complete es depth t place s (entry_count t s) 0 c left rest are (omega arith) (omega arith) sum) in
      (both.0, both.1 ∙ ap (λ (b : Bool). cond b (object es) (array es)) kind)

  entries_complete : (es : Entries) (depth t place : ℕ) (s : List ℕ) (n i cost from rest : ℕ) → AreEntries es t s i cost → entries_nesting es ≤ depth → i + n ≡ entry_count t s → cost + rest ≡ from
      → (entries_left (value_left depth) t place s n i from ≡ Ok rest) × (entries_at (value_at depth) t s n i ≡ es)
  entries_complete no_entries depth t place s zero i cost from rest are deep all e = (ap (λ (n : ℕ). Ok n) (omega (arith, e, are.1)), refl)
  entries_complete no_entries depth t place s (suc n) i cost from rest are deep all e = absurd (omega (arith, all, are.0))
  entries_complete (entry key v es) depth t place s zero i cost from rest are deep all e = absurd (omega (arith, all, are.0))
  entries_complete (entry key v es) depth t place s (suc n) i cost from rest are deep all e =
      let a : ℕ = are.1.0 in
      let b : ℕ = are.1.1 in
      let c : ℕ = are.1.2 in
      let sum = are.1.6 in
      let key_is = key_complete key t place s i a from (b + (c + rest)) are.1.3 (omega (arith, e, sum)) in
      let value_is : (value_left_by (value_left depth) t place s i (b + (c + rest)) ≡ Ok (c + rest)) × (entry_at (value_at depth) t s i ≡ v) =
      elim are.1.4 [
        | inl is ↦ inlined_complete (value_left depth) (value_at depth) depth t place s i v b (b + (c + rest)) (c + rest) is refl
        | inr is ↦
            placed_complete (value_left depth) (value_at depth) depth t place s i v b (b + (c + rest)) (c + rest) is
            (value_complete v depth (value_type t s i) (place + value_offset t s i) (placed_bytes t s i) b (b + (c + rest)) (c + rest) is.is (omega arith) refl)
      ] in
      let others = entries_complete es depth t place s n (suc i) c (c + rest) rest are.1.5 (omega arith) (omega (arith, all)) refl in
      (rw (key_is.0, value_is.0) others.0, cc (key_is.1, value_is.1, others.1))
