-- The errors of a table map are the end of its bytes, and an invalid length-encoded integer in one of its two places.
use Rattle.std.proofs.Common.{◌≡◌, ◌⊎◌, inl, inr, Result, Ok, Err, refl, ap, ℕ, List, Bool, true, false, cond, ltb, length, drop, take, zero, suc, ◌+◌, ◌<◌, eqb, arith, ◌-◌, ◌≤◌, sym, subst, ◌∷◌, [], ◌↔◌}
use Rattle.std.proofs.lemmas.Bool.{ltb-false}
use Rattle.binlog_wire.specs.Reading.{Refusal, ◌>>=◌, Read, read_as, ends, invalid}
use Rattle.binlog_wire.specs.Fields.{then_at, little_number, number_at, block_at, text_at, skipped_at, rest_at, IsBytes, IsBlock}
use Rattle.binlog_wire.specs.Laws.Texts.{keeps_block}
use Rattle.binlog_wire.specs.declared.error.Invalid.TheVariants as kinds
use Rattle.binlog_variable_fields.specs.LenEnc.{lenenc_at, IsLenEnc}
use Rattle.binlog_variable_fields.specs.LenEncTexts.{lenenc_text}
use Rattle.binlog_variable_fields.specs.Laws.LenEnc.{keeps_lenenc}
use Rattle.binlog_rows.specs.Columns.{id_width, bitmap}
use Rattle.binlog_rows.specs.TableMaps.{table, fields, columns_of, columns, table_map}
use Rattle.binlog_rows.specs.TableMapRefusals.{BeginsNone, IsInNumbersPlace, IsBefore, before_count, before_metadata}
use Rattle.binlog_rows.specs.declared.mapped_table.MappedTable.{MappedTable}

-- ---- readings that fail

bind_err : {A B : Type 0} (r : Result A Refusal) (f : A → Result B Refusal) (d : Refusal) → (r >>= f) ≡ Err d → (r ≡ Err d) ⊎ ((x : A) × (r ≡ Ok x) × (f x ≡ Err d))
bind_err (Ok x) f d e = inr (x, refl, e)
bind_err {A = A} (Err c) f d e = let same : c ≡ d = cc in inl (ap (λ (x : Refusal). Err x) same)

as_err : {A B : Type 0} (to : A → B) (r : Read A) (d : Refusal) → read_as to r ≡ Err d → r ≡ Err d
as_err to (Ok x) d e = absurd cc
as_err to (Err c) d e = let same : c ≡ d = cc in ap (λ (x : Refusal). Err x) same

by_cases : {A B C : Type 0} → A ⊎ B → (A → C) → (B → C) → C
by_cases (inl a) f g = f a
by_cases (inr b) f g = g b

pair_err : {A B : Type 0} (a : A) (r : Read B) (d : Refusal) → ◌>>=◌ {B = (A × B) × List ℕ} r (λ b. Ok ((a, b.0), b.1)) ≡ Err d → r ≡ Err d
pair_err a (Ok x) d e = absurd cc
pair_err a (Err c) d e = let same : c ≡ d = cc in ap (λ (x : Refusal). Err x) same

-- A value is read first, and the reading after it fails.
record FailsAfter {A B : Type 0} (f : List ℕ → Read A) (g : A → List ℕ → Read B) (s : List ℕ) (d : Refusal) : Type 0 where
  pub value : A
  pub rest : List ℕ
  pub reads : f s ≡ Ok (value, rest)
  pub fails : g value rest ≡ Err d

step_err : {A B : Type 0} (f : List ℕ → Read A) (g : A → List ℕ → Read B) (s : List ℕ) (d : Refusal) → (f s >>= λ a. g a.0 a.1) ≡ Err d
    → (f s ≡ Err d) ⊎ FailsAfter f g s d
step_err f g s d e =
    by_cases (bind_err (f s) (λ a. g a.0 a.1) d e) (λ h. inl h) (λ h. inr (record { value = h.0.0; rest = h.0.1; reads = h.1; fails = h.2 }))

then_err : {A B : Type 0} (f : List ℕ → Read A) (g : A → List ℕ → Read B) (s : List ℕ) (d : Refusal) → then_at f g s ≡ Err d
    → (f s ≡ Err d) ⊎ FailsAfter f g s d
then_err {A} {B} f g s d e =
    by_cases (bind_err (f s) (λ a. ◌>>=◌ {B = (A × B) × List ℕ} (g a.0 a.1) (λ b. Ok ((a.0, b.0), b.1))) d e)
    (λ h. inl h) (λ h. inr (record { value = h.0.0; rest = h.0.1; reads = h.1; fails = pair_err h.0.0 (g h.0.0 h.0.1) d h.2 }))

-- The reading fails only at the end of the bytes.
abbrev pub OnlyEnds : {V : Type 0} → Read V → Type 0
OnlyEnds read = (d : Refusal) → read ≡ Err d → d ≡ ends

ends_guard : {V : Type 0} (b : Bool) (x : V × List ℕ) → OnlyEnds (cond b (Err ends) (Ok x))
ends_guard true x d e = cc
ends_guard false x d e = absurd cc

ends_number : (k : ℕ) (s : List ℕ) → OnlyEnds (number_at k s)
ends_number k s = ends_guard (ltb (length s) k) (little_number k s, drop k s)

ends_block : (k : ℕ) (s : List ℕ) → OnlyEnds (block_at k s)
ends_block k s = ends_guard (ltb (length s) k) (take k s, drop k s)

ends_bind : {A B : Type 0} (r : Read A) (f : A × List ℕ → Read B) → OnlyEnds r → ((x : A × List ℕ) → OnlyEnds (f x)) → OnlyEnds (r >>= f)
ends_bind (Ok x) f h g d e = g x d e
ends_bind (Err c) f h g d e = let same : c ≡ d = cc in h d (ap (λ (x : Refusal). Err x) same)

ends_then : {A B : Type 0} (f : List ℕ → Read A) (g : A → List ℕ → Read B) → ((s : List ℕ) → OnlyEnds (f s)) → ((a : A) (s : List ℕ) → OnlyEnds (g a s))
    → (s : List ℕ) → OnlyEnds (then_at f g s)
ends_then {A} f g h k s =
    ends_bind (f s) (λ a. g a.0 a.1 >>= λ b. Ok ((a.0, b.0), b.1)) (h s)
    (λ a. ends_bind (g a.0 a.1) (λ b. Ok ((a.0, b.0), b.1)) (k a.0 a.1) (λ b d e. absurd cc))

ends_text : (k : ℕ) (s : List ℕ) → OnlyEnds (text_at k s)
ends_text k s = ends_bind (number_at k s) (λ n. block_at n.0 n.1) (ends_number k s) (λ n. ends_block n.0 n.1)

ends_skipped : {V : Type 0} (k : ℕ) (f : List ℕ → Read V) → ((s : List ℕ) → OnlyEnds (f s)) → (s : List ℕ) → OnlyEnds (skipped_at k f s)
ends_skipped k f h s = ends_bind (block_at k s) (λ x. f x.1) (ends_block k s) (λ x. h x.1)

table_ends : (post_header : ℕ) (s : List ℕ) → OnlyEnds ((table post_header).reads s)
table_ends post_header s d e =
    ends_then (number_at (id_width post_header)) (λ _. then_at (number_at 2) (λ _. then_at (text_at 1) (λ _. skipped_at 1 (text_at 1))))
    (ends_number (id_width post_header))
    (λ _. ends_then (number_at 2) (λ _. then_at (text_at 1) (λ _. skipped_at 1 (text_at 1))) (ends_number 2)
    (λ _. ends_then (text_at 1) (λ _. skipped_at 1 (text_at 1)) (ends_text 1) (λ _. ends_skipped 1 (text_at 1) (ends_text 1)))) s d (as_err _ _ d e)

-- After the metadata only the bitmap can fail.
last_ends : (n : ℕ) (s : List ℕ) → OnlyEnds (then_at (bitmap n).reads (λ _. rest_at) s)
last_ends n s = ends_then (bitmap n).reads (λ _. rest_at) (λ s d e. ends_block _ s d (as_err _ _ d e)) (λ _ s d e. absurd cc) s

-- ---- invalid length-encoded integers

none_from : (k : ℕ) → 251 + k < 256 → eqb (251 + k) 252 ≡ false → eqb (251 + k) 253 ≡ false → eqb (251 + k) 254 ≡ false → BeginsNone (251 + k)
none_from zero small h2 h3 h4 = inl refl
none_from (suc zero) small h2 h3 h4 = absurd cc
none_from (suc (suc zero)) small h2 h3 h4 = absurd cc
none_from (suc (suc (suc zero))) small h2 h3 h4 = absurd cc
none_from (suc (suc (suc (suc zero)))) small h2 h3 h4 = inr refl
none_from (suc (suc (suc (suc (suc k))))) small h2 h3 h4 = absurd (omega (arith, small))

none_by : (b : ℕ) → b < 256 → ltb b 251 ≡ false → eqb b 252 ≡ false → eqb b 253 ≡ false → eqb b 254 ≡ false → BeginsNone b
none_by b small least h2 h3 h4 =
    let long : 251 ≤ b = ltb-false _ _ least in
    let is : b ≡ 251 + (b - 251) = omega (arith, long) in
    subst BeginsNone (sym is) (none_from (b - 251) (subst (λ (n : ℕ). n < 256) is small)
    (subst (λ (n : ℕ). eqb n 252 ≡ false) is h2) (subst (λ (n : ℕ). eqb n 253 ≡ false) is h3) (subst (λ (n : ℕ). eqb n 254 ≡ false) is h4))

-- The bytes begin with a byte that begins no number, and that byte is the error.
record IsRefusedNumber (s : List ℕ) (d : Refusal) : Type 0 where
  pub first : ℕ
  pub rest : List ℕ
  pub is : s ≡ first ∷ rest
  pub none : BeginsNone first
  pub error : d ≡ invalid (kinds.LenEnc first)

lenenc_err_by : (b : ℕ) (s : List ℕ) (d : Refusal) → b < 256 → (t u v w : Bool) → ltb b 251 ≡ t → eqb b 252 ≡ u → eqb b 253 ≡ v → eqb b 254 ≡ w
    → cond t (Ok (b, s)) (cond u (number_at 2 s) (cond v (number_at 3 s) (cond w (number_at 8 s) (Err (invalid (kinds.LenEnc b)))))) ≡ Err d
    → (d ≡ ends) ⊎ IsRefusedNumber (b ∷ s) d
lenenc_err_by b s d small true u v w ht hu hv hw e = absurd cc
lenenc_err_by b s d small false true v w ht hu hv hw e = inl (ends_number 2 s d e)
lenenc_err_by b s d small false false true w ht hu hv hw e = inl (ends_number 3 s d e)
lenenc_err_by b s d small false false false true ht hu hv hw e = inl (ends_number 8 s d e)
lenenc_err_by b s d small false false false false ht hu hv hw e =
    let same : d ≡ invalid (kinds.LenEnc b) = cc in
    inr (record { first = b; rest = s; is = refl; none = none_by b small ht hu hv hw; error = same })

lenenc_err : (s : List ℕ) (d : Refusal) → IsBytes s → lenenc_at s ≡ Err d → (d ≡ ends) ⊎ IsRefusedNumber s d
lenenc_err [] d fits e = inl cc
lenenc_err (b ∷ s) d fits e = lenenc_err_by b s d (fits 0) _ _ _ _ refl refl refl refl e

lenenc_none : (b : ℕ) (r : List ℕ) → BeginsNone b → lenenc_at (b ∷ r) ≡ Err (invalid (kinds.LenEnc b))
lenenc_none b r (inl e) = rw e refl
lenenc_none b r (inr e) = rw e refl

-- ---- a table map that fails

text_reason : (u : List ℕ) (d : Refusal) → IsBytes u → lenenc_text.reads u ≡ Err d → (d ≡ ends) ⊎ IsRefusedNumber u d
text_reason u d fits e =
    by_cases (then_err lenenc_at block_at u d (as_err (λ x. x.1) (then_at lenenc_at block_at u) d e))
    (λ h. lenenc_err u d fits h) (λ text. inl (ends_block text.value text.rest d text.fails))

-- A number is invalid after n types.
record AfterTypes (n : ℕ) (s : List ℕ) (d : Refusal) : Type 0 where
  pub types : List ℕ
  pub rest : List ℕ
  pub block : IsBlock n s types rest
  pub number : IsRefusedNumber rest d

types_reason : (n : ℕ) (r : List ℕ) (d : Refusal) → IsBytes r
    → then_at (block_at n) (λ _. then_at lenenc_text.reads (λ _. then_at (bitmap n).reads (λ _. rest_at))) r ≡ Err d → (d ≡ ends) ⊎ AfterTypes n r d
types_reason n r d fits e =
    by_cases (then_err (block_at n) (λ _. then_at lenenc_text.reads (λ _. then_at (bitmap n).reads (λ _. rest_at))) r d e)
    (λ h. inl (ends_block n r d h))
    (λ types.
    let p = (keeps_block n).sound r (types.value, types.rest) fits types.reads in
    by_cases (then_err lenenc_text.reads (λ _. then_at (bitmap n).reads (λ _. rest_at)) types.rest d types.fails)
    (λ h.
    by_cases (text_reason types.rest d p.1 h) (λ end. inl end)
    (λ number. inr (record { types = types.value; rest = types.rest; block = p.0; number = number })))
    (λ text. inl (last_ends n text.rest d text.fails)))

-- A number is invalid after the column count and the types.
record AfterCount (s : List ℕ) (d : Refusal) : Type 0 where
  pub count : ℕ
  pub rest : List ℕ
  pub number : IsLenEnc s count rest
  pub after : AfterTypes count rest d

-- The column count is invalid, or the number after it and its types is.
abbrev AfterTable : List ℕ → Refusal → Type 0
AfterTable s d = IsRefusedNumber s d ⊎ AfterCount s d

columns_reason : (s : List ℕ) (d : Refusal) → IsBytes s → columns.reads s ≡ Err d → (d ≡ ends) ⊎ AfterTable s d
columns_reason s d fits e =
    by_cases (then_err lenenc_at (λ n. then_at (block_at n) (λ _. then_at lenenc_text.reads (λ _. then_at (bitmap n).reads (λ _. rest_at)))) s d (as_err columns_of (fields.reads s) d e))
    (λ h. by_cases (lenenc_err s d fits h) (λ end. inl end) (λ number. inr (inl number)))
    (λ count.
    let p = keeps_lenenc.sound s (count.value, count.rest) fits count.reads in
    by_cases (types_reason count.value count.rest d p.1 count.fails) (λ end. inl end)
    (λ after. inr (inr (record { count = count.value; rest = count.rest; number = p.0; after = after }))))

-- A number is invalid after the table and one byte.
record AfterSkipped (post_header : ℕ) (s : List ℕ) (d : Refusal) : Type 0 where
  pub mapped : MappedTable
  pub behind : List ℕ
  pub is_table : (table post_header).spells s mapped behind
  pub skipped : List ℕ
  pub rest : List ℕ
  pub is_skipped : IsBlock 1 behind skipped rest
  pub after : AfterTable rest d

map_reason : (post_header : ℕ) (s : List ℕ) (d : Refusal) → IsBytes s → (table_map post_header).reads s ≡ Err d → (d ≡ ends) ⊎ AfterSkipped post_header s d
map_reason post_header s d fits e =
    by_cases (then_err (table post_header).reads (λ _. skipped_at 1 columns.reads) s d (as_err _ (then_at (table post_header).reads (λ _. skipped_at 1 columns.reads) s) d e))
    (λ h. inl (table_ends post_header s d h))
    (λ mapped.
    let p = (table post_header).keeps.sound s (mapped.value, mapped.rest) fits mapped.reads in
    by_cases (step_err (block_at 1) (λ _. columns.reads) mapped.rest d mapped.fails)
    (λ h. inl (ends_block 1 mapped.rest d h))
    (λ skipped.
    let k = (keeps_block 1).sound mapped.rest (skipped.value, skipped.rest) p.1 skipped.reads in
    by_cases (columns_reason skipped.rest d k.1 skipped.fails) (λ end. inl end)
    (λ after. inr (record { mapped = mapped.value; behind = mapped.rest; is_table = p.0; skipped = skipped.value; rest = skipped.rest; is_skipped = k.0; after = after }))))

-- An invalid number and its place.
abbrev pub InPlace : ℕ → List ℕ → Refusal → Type 0
InPlace post_header s d = (b : ℕ) × IsInNumbersPlace post_header b s × (d ≡ invalid (kinds.LenEnc b))

in_place_by : (post_header : ℕ) (s : List ℕ) (d : Refusal) (h : AfterSkipped post_header s d) → AfterTable h.rest d → InPlace post_header s d
in_place_by post_header s d h (inl count) =
    (count.first, (count.none, inl ((h.mapped, tt), count.rest, (h.behind, h.is_table, (h.skipped, h.rest, h.is_skipped, (refl, sym count.is))))), count.error)
in_place_by post_header s d h (inr counted) =
    let types = counted.after in
    let number = types.number in
    let block : IsBlock counted.count counted.rest types.types (number.first ∷ number.rest)
    = subst (λ (u : List ℕ). IsBlock counted.count counted.rest types.types u) number.is types.block in
    (number.first, (number.none, inr ((h.mapped, (counted.count, types.types)), number.rest, (h.behind, h.is_table, (h.skipped, h.rest, h.is_skipped, (counted.rest, counted.number, block))))), number.error)

in_place : (post_header : ℕ) (s : List ℕ) (d : Refusal) → AfterSkipped post_header s d → InPlace post_header s d
in_place post_header s d h = in_place_by post_header s d h h.after

-- Why a table map is refused.
pub refused_reason : (post_header : ℕ) (s : List ℕ) (d : Refusal) → IsBytes s → (table_map post_header).reads s ≡ Err d
    → (d ≡ ends) ⊎ InPlace post_header s d
refused_reason post_header s d fits e = by_cases (map_reason post_header s d fits e) (λ end. inl end) (λ after. inr (in_place post_header s d after))

-- A byte that begins no number, in a number's place, is the error.
refused_there : (post_header : ℕ) (s : List ℕ) (b : ℕ) → BeginsNone b → IsBefore (before_count post_header) b s ⊎ IsBefore (before_metadata post_header) b s
    → (table_map post_header).reads s ≡ Err (invalid (kinds.LenEnc b))
refused_there post_header s b none (inl (t, r, (m, ht, (skipped, q, hq, h)))) =
    rw ((table post_header).keeps.complete s t.0 m ht, (keeps_block 1).complete m skipped q hq, sym h.1, lenenc_none b r none) refl
refused_there post_header s b none (inr (t, r, (m, ht, (skipped, q, hq, h)))) =
    rw (
      (table post_header).keeps.complete s t.0 m ht,
      (keeps_block 1).complete m skipped q hq,
      keeps_lenenc.complete q t.1.0 h.0 h.1,
      (keeps_block t.1.0).complete h.0 t.1.1 (b ∷ r) h.2,
      lenenc_none b r none,
    ) refl

from_reason : (post_header : ℕ) (s : List ℕ) (b : ℕ) → (invalid (kinds.LenEnc b) ≡ ends) ⊎ InPlace post_header s (invalid (kinds.LenEnc b))
    → IsInNumbersPlace post_header b s
from_reason post_header s b (inl e) = absurd cc
from_reason post_header s b (inr h) = let same : h.0 ≡ b = cc in subst (λ (c : ℕ). IsInNumbersPlace post_header c s) same h.1

-- A table map is refused for a number exactly if a byte that begins none is in a number's place.
pub refused_numbers : (post_header : ℕ) (s : List ℕ) (b : ℕ) → IsBytes s
    → ((table_map post_header).reads s ≡ Err (invalid (kinds.LenEnc b))) ↔ IsInNumbersPlace post_header b s
refused_numbers post_header s b fits =
    (λ e. from_reason post_header s b (refused_reason post_header s (invalid (kinds.LenEnc b)) fits e), λ h. refused_there post_header s b h.0 h.1)

-- The only other error is the end of its bytes.
pub refused_else : (post_header : ℕ) (s : List ℕ) (why : Refusal) → IsBytes s → (table_map post_header).reads s ≡ Err why
    → (why ≡ ends) ⊎ ((b : ℕ) × (why ≡ invalid (kinds.LenEnc b)))
refused_else post_header s why fits e = by_cases (refused_reason post_header s why fits e) (λ end. inl end) (λ h. inr (h.0, h.2))
