-- Documents of JSON columns and lists of diffs as tokens.
use Rattle.std.specs.Prelude.{◌≡◌, ℕ, ◌&&◌, Bool, true, false, List, [], ◌∷◌, ◌++◌, codes, map, length, is_none, nat_le, Option, None, Some, if◌then◌else◌}
use Rattle.std.specs.Option.{option_and_then}
use Rattle.json.specs.Token.{Token, begin_object, end_object, key}
use Rattle.json_line.specs.Tokens.{bytes_value, member, object}
use Rattle.binary_json.specs.Values.{Json}
use Rattle.binary_json.specs.Refusals.{document_refusal}
use Rattle.binary_json.specs.Decoding.{document_value}
use Rattle.binary_json.specs.Diffs.{diff_items}
use Rattle.binary_json_writing.specs.Applied.{value_after}
use Rattle.binary_json_lines.specs.HasText.{has_text}
use Rattle.binary_json_lines.specs.Parts as documents
use Rattle.binary_json_lines.specs.Documents.{value_parts}
use Rattle.binary_json_lines.specs.Diffs.{items_have_text, diffs_parts}
use Rattle.binlog_json_values.specs.Parts.{Part, exactly, in_document, exact, Shows}

-- An object with one member, the hexadecimal digits of bytes that aren't decoded.
abbrev pub encoded_value : List ℕ → List ℕ → List Token
encoded_value name s = object (member name (bytes_value s))

-- Bytes are a document that has a text.
abbrev pub is_text_document : List ℕ → Bool
is_text_document s = is_none (document_refusal s) && has_text (document_value s)

-- An object with one member, what is decoded.
abbrev pub decoded_parts : List ℕ → List documents.Part → List Part
decoded_parts name parts = exactly begin_object ∷ exactly (key name) ∷ (map in_document parts ++ exactly end_object ∷ [])

-- The value of a document.
abbrev pub shown_parts : Json → List Part
shown_parts v = decoded_parts (codes "json") (value_parts v)

-- The bytes of a JSON column: the value, if they are a document that has a text, else the digits. Which bytes are which value is the
-- grammar's to say (`documents_are_shown` and `other_bytes_are_digits`).
unfoldable pub json_parts : List ℕ → List Part
json_parts s = if is_text_document s then shown_parts (document_value s) else exact (encoded_value (codes "jsonb") s)

-- The value is appended if the bytes are a document that has a text, and the answer is true. Else nothing is.
abbrev pub ShowsIfText : Bool → List ℕ → List Token → List Token → Type 0
ShowsIfText true s old new = (is_text_document s ≡ true) × Shows old new (shown_parts (document_value s))
ShowsIfText false s old new = (is_text_document s ≡ false) × (new ≡ old)

-- ---- lists of diffs

-- The bytes of a list of diffs: an array of them, if they are such a list, and it has a text, else the digits. Which bytes are which list
-- is the grammar's to say (`diffs_are_shown` and `other_lists_are_digits`).
unfoldable pub diffs_value : List ℕ → List Part
diffs_value s = if items_have_text (diff_items s) then map in_document (diffs_parts (diff_items s)) else exact (bytes_value s)

abbrev pub with_text : Json → Option Json
with_text w = if has_text w then Some w else None

-- Lists of more diffs aren't applied, so that the work is at most so many times the bytes.
abbrev pub are_few : List ℕ → Bool
are_few s = nat_le (length (diff_items s)) 100

-- The value that a list of diffs makes of the document in the bytes before, if it has a text; none if the list has too many diffs, if
-- the bytes are no document, or if a diff is refused (`documents_after_are_known` and `others_have_none_after`).
unfoldable pub document_after : Option (List ℕ) → List ℕ → Option Json
document_after None s = None
document_after (Some before) s = if are_few s && is_none (document_refusal before) then option_and_then with_text (value_after (diff_items s) (document_value before)) else None

abbrev pub after_member : Option Json → List Part
after_member None = []
after_member (Some w) = exactly (key (codes "json")) ∷ map in_document (value_parts w)

-- A list of diffs, and the document after them, if there is one.
unfoldable pub diff_list_parts : Option (List ℕ) → List ℕ → List Part
diff_list_parts before s = exactly begin_object ∷ exactly (key (codes "diffs")) ∷ [] ++ (diffs_value s ++ (after_member (document_after before s) ++ exactly end_object ∷ []))
