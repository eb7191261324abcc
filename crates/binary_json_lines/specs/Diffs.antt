-- Lists of diffs as JSON.
use Rattle.std.specs.Prelude.{ℕ, ◌&&◌, Bool, true, false, List, [], ◌∷◌, ◌++◌, codes, map, Option, Some, None, Ok, Err}
use Rattle.std.specs.Str.{is_utf8}
use Rattle.json.specs.Token.{Token, begin_object, end_object, begin_array, end_array, key, string}
use Rattle.binary_json.specs.Values.{Json}
use Rattle.binary_json.specs.Diffs.{Diff, Read}
use Rattle.binary_json.specs.declared.diffs.JsonDiffOperation.{JsonDiffOperation}
use Rattle.binary_json.specs.declared.diffs.JsonDiffOperation.TheVariants as operations
use Rattle.binary_json_lines.specs.HasText.{has_text}
use Rattle.binary_json_lines.specs.Parts.{Part, exactly}
use Rattle.binary_json_lines.specs.Documents.{value_parts}

abbrev pub operation_name : JsonDiffOperation → List ℕ
operation_name operations.Replace = codes "replace"
operation_name operations.Insert = codes "insert"
operation_name operations.Remove = codes "remove"

-- The path is UTF-8, and the value, if there is one, has a text.
abbrev pub value_has_text : Option Json → Bool
value_has_text None = true
value_has_text (Some v) = has_text v

abbrev pub diff_has_text : Diff → Bool
diff_has_text d = is_utf8 d.path && value_has_text d.value

-- It isn't refused, and has a text.
abbrev pub item_has_text : Read Diff → Bool
item_has_text (Ok d) = diff_has_text d
item_has_text (Err e) = false

abbrev pub items_have_text : List (Read Diff) → Bool
items_have_text [] = true
items_have_text (item ∷ items) = item_has_text item && items_have_text items

-- An object is begun, with its operation and its path.
abbrev pub diff_head : JsonDiffOperation → List ℕ → List Token
diff_head operation path = begin_object ∷ key (codes "op") ∷ string (operation_name operation) ∷ key (codes "path") ∷ string path ∷ []

-- The member of the value, if there is one.
abbrev pub value_member : Option Json → List Part
value_member None = []
value_member (Some v) = exactly (key (codes "value")) ∷ value_parts v

-- A diff: an object with its operation, its path, and its value.
unfoldable pub diff_parts : Diff → List Part
diff_parts d = map exactly (diff_head d.operation d.path) ++ (value_member d.value ++ exactly end_object ∷ [])

-- The diffs that aren't refused.
abbrev pub item_parts : Read Diff → List Part
item_parts (Ok d) = diff_parts d
item_parts (Err e) = []

abbrev pub items_parts : List (Read Diff) → List Part
items_parts [] = []
items_parts (item ∷ items) = item_parts item ++ items_parts items

-- An array of diffs.
abbrev pub diffs_parts : List (Read Diff) → List Part
diffs_parts items = exactly begin_array ∷ (items_parts items ++ exactly end_array ∷ [])
