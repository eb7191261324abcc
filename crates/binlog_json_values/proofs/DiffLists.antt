-- Bytes that are a list of diffs with a text, and others; and the documents after them.
use Rattle.std.proofs.Common.{◌≡◌, ℕ, zero, suc, ◌≤◌, length, Ok, Err, arith, Bool, true, false, cond, List, [], ◌∷◌, ◌++◌, map, Option, Some, None, refl, ap, subst, ◌∙◌, inl, inr}
use Rattle.std.specs.Prelude.{◌&&◌, is_none}
use Rattle.std.specs.Option.{option_and_then}
use Rattle.std.proofs.lemmas.Bool.{and_left, and_right, cases_Bool}
use Rattle.json.specs.Token.{begin_array, end_array}
use Rattle.json_line.specs.Tokens.{bytes_value}
use Rattle.binary_json.specs.Values.{Json}
use Rattle.binary_json.specs.Grammar.{IsDocument}
use Rattle.binary_json.specs.Refusals.{document_refusal}
use Rattle.binary_json.specs.Decoding.{document_value}
use Rattle.binary_json.specs.Diffs.{Diff, Read, AreDiffs, diff_in, items_by, items_from, diff_items}
use Rattle.binary_json.proofs.DiffGrammar.{diffs_complete, diffs_sound}
use Rattle.binary_json.proofs.Documents.{found, accepted}
use Rattle.binary_json_writing.specs.Applied.{value_after, AllWrite, NotApplied, IsMemory}
use Rattle.binary_json_writing.specs.declared.applying.JsonApplyError.{JsonApplyError}
use Rattle.binary_json_writing.proofs.ValuesAfter.{after_known, not_applied}
use Rattle.binary_json_lines.specs.Parts as documents
use Rattle.binary_json_lines.specs.HasText.{HasText, has_text}
use Rattle.binary_json_lines.specs.Diffs.{items_have_text, diffs_parts}
use Rattle.binary_json_lines.specs.TextDiffs.{DiffsHaveText, list_parts}
use Rattle.binary_json_lines.proofs.TextTests.{tested, passes, fails}
use Rattle.binary_json_lines.proofs.TextDiffLemmas.{diffs_tested, diffs_pass, each_written}
use Rattle.binlog_json_values.specs.Parts.{in_document, exact}
use Rattle.binlog_json_values.specs.Documents.{diffs_value, with_text, are_few, document_after}

-- A list with a text.
pub list_shown : (s : List ℕ) (ds : List Diff) → AreDiffs ds s → DiffsHaveText ds → diffs_value s ≡ map in_document (list_parts ds)
unfolding diffs_value
list_shown s ds are text =
    let items = diffs_complete ds s are in
    let has : items_have_text (diff_items s) ≡ true = ap (λ (l : List (Read Diff)). items_have_text l) items ∙ diffs_tested ds text in
    let parts : diffs_parts (diff_items s) ≡ list_parts ds =
    ap (λ (l : List (Read Diff)). diffs_parts l) items
    ∙ ap (λ (l : List documents.Part). documents.exactly begin_array ∷ (l ++ documents.exactly end_array ∷ [])) (each_written ds) in
    rw has (ap (λ (l : List documents.Part). map in_document l) parts)

digits_if : (s : List ℕ) → items_have_text (diff_items s) ≡ false → diffs_value s ≡ exact (bytes_value s)
unfolding diffs_value
digits_if s e = rw e refl

-- Bytes that are no list with a text.
pub others_hidden : (s : List ℕ) → ((ds : List Diff) → AreDiffs ds s → DiffsHaveText ds → ⊥) → diffs_value s ≡ exact (bytes_value s)
others_hidden s none = elim (cases_Bool (items_have_text (diff_items s))) [
  | inl e ↦ let found = diffs_pass (diff_items s) e in absurd (none found.0 (diffs_sound found.0 s found.1) found.2)
  | inr e ↦ digits_if s e
]

-- ---- documents after

abbrev some : {A : Type 0} → A → Option A
some x = Some x

abbrev none : {A : Type 0} → Option A
none = None

-- What is made of a document.
after_document : (before s : List ℕ) (v : Json) → are_few s ≡ true → IsDocument before v → document_after (some before) s ≡ option_and_then with_text (value_after (diff_items s) v)
unfolding document_after
after_document before s v few is =
    let both = accepted before v is in
    rw (few, both.0) (ap (λ (u : Json). option_and_then with_text (value_after (diff_items s) u)) both.1)

pub after_shown : (before s : List ℕ) (v w : Json) → are_few s ≡ true → IsDocument before v → value_after (diff_items s) v ≡ some w → HasText w → document_after (some before) s ≡ some w
after_shown before s v w few is made text = after_document before s v few is ∙ rw (made, tested w text) refl

pub known_after : (before s : List ℕ) (v w : Json) → are_few s ≡ true → IsDocument before v → AllWrite (diff_items s) v w → HasText w → document_after (some before) s ≡ some w
known_after before s v w few is all text = after_shown before s v w few is (after_known (diff_items s) v w all) text

many_if : (before s : List ℕ) → are_few s ≡ false → document_after (some before) s ≡ none
unfolding document_after
many_if before s many = rw (and_left (are_few s) (is_none (document_refusal before)) many) refl

pub none_of_many : (before : Option (List ℕ)) (s : List ℕ) → are_few s ≡ false → document_after before s ≡ none
unfolding document_after
none_of_many None s many = refl
none_of_many (Some before) s many = many_if before s many

-- Where there is none for a list of few diffs, there is none.
by_count : (before s : List ℕ) → (are_few s ≡ true → document_after (some before) s ≡ none) → document_after (some before) s ≡ none
by_count before s few = elim (cases_Bool (are_few s)) [ inl e ↦ few e | inr e ↦ many_if before s e ]

pub none_textless : (before s : List ℕ) (v w : Json) → IsDocument before v → AllWrite (diff_items s) v w → (HasText w → ⊥) → document_after (some before) s ≡ none
none_textless before s v w is all no_text = by_count before s (λ few. after_document before s v few is ∙ rw (after_known (diff_items s) v w all, fails w no_text) refl)

none_made : (before s : List ℕ) (v : Json) → IsDocument before v → value_after (diff_items s) v ≡ none → document_after (some before) s ≡ none
none_made before s v is gone = by_count before s (λ few. after_document before s v few is ∙ rw gone refl)

pub none_refused : (before s : List ℕ) (v : Json) (e : JsonApplyError) → IsDocument before v → NotApplied (diff_items s) v e → (IsMemory e → ⊥) → document_after (some before) s ≡ none
none_refused before s v e is why other = elim (not_applied (diff_items s) v e why) [
  | inl memory ↦ absurd (other memory)
  | inr gone ↦ none_made before s v is gone
]

no_document_if : (before s : List ℕ) → is_none (document_refusal before) ≡ false → document_after (some before) s ≡ none
unfolding document_after
no_document_if before s refused = rw (and_right (are_few s) (is_none (document_refusal before)) refused) refl

pub none_of_others : (before s : List ℕ) → ((v : Json) → IsDocument before v → ⊥) → document_after (some before) s ≡ none
none_of_others before s other = elim (cases_Bool (is_none (document_refusal before))) [
  | inl e ↦ absurd (other (document_value before) (found before e))
  | inr e ↦ no_document_if before s e
]

with_text_has : (w u : Json) (b : Bool) → has_text w ≡ b → cond b (some w) none ≡ some u → HasText u
with_text_has w u true has is = let same : w ≡ u = cc in subst HasText same (passes w has)
with_text_has w u false has is = absurd cc

then_has : (o : Option Json) (u : Json) → option_and_then with_text o ≡ some u → HasText u
then_has None u is = absurd cc
then_has (Some w) u is = with_text_has w u (has_text w) refl is

if_has : (b : Bool) (o : Option Json) (u : Json) → cond b (option_and_then with_text o) none ≡ some u → HasText u
if_has true o u is = then_has o u is
if_has false o u is = absurd cc

-- A document after has a text.
pub after_has_text : (before : Option (List ℕ)) (s : List ℕ) (w : Json) → document_after before s ≡ some w → HasText w
unfolding document_after
after_has_text None s w is = absurd cc
after_has_text (Some before) s w is = if_has (are_few s && is_none (document_refusal before)) (value_after (diff_items s) (document_value before)) w is

first_short : (others : List ℕ → List (Read Diff)) (most : ℕ) → ((s : List ℕ) → length (others s) ≤ most) → (r : Read (Diff × List ℕ)) → length (items_by others r) ≤ suc most
first_short others most short (Ok p) = omega (arith, short p.1)
first_short others most short (Err e) = omega arith

items_short : (most : ℕ) (s : List ℕ) → length (items_from most s) ≤ most
unfolding items_from
items_short zero s = omega arith
items_short (suc most) [] = omega arith
items_short (suc most) (n ∷ s) = first_short (items_from most) most (items_short most) (diff_in (n ∷ s))

-- Each diff has a byte at least.
pub items_few : (s : List ℕ) → length (diff_items s) ≤ length s
unfolding diff_items
items_few s = items_short (length s) s
