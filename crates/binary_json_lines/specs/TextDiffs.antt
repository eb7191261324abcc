-- Which diffs have a text, and how a list of them is written.
use Rattle.std.specs.Prelude.{List, [], ◌∷◌, ◌++◌, Option, None, Some, IsUtf8}
use Rattle.json.specs.Token.{begin_array, end_array}
use Rattle.binary_json.specs.Values.{Json}
use Rattle.binary_json.specs.Diffs.{Diff}
use Rattle.binary_json_lines.specs.HasText.{HasText}
use Rattle.binary_json_lines.specs.Parts.{Part, exactly}
use Rattle.binary_json_lines.specs.Diffs.{diff_parts}

abbrev pub ValueHasText : Option Json → Type 0
ValueHasText None = Unit {0}
ValueHasText (Some v) = HasText v

-- All paths are UTF-8, and all values have a text.
abbrev pub DiffsHaveText : List Diff → Type 0
DiffsHaveText [] = Unit {0}
DiffsHaveText (d ∷ ds) = IsUtf8 d.path × ValueHasText d.value × DiffsHaveText ds

abbrev pub each_parts : List Diff → List Part
each_parts [] = []
each_parts (d ∷ ds) = diff_parts d ++ each_parts ds

-- An array of the diffs.
abbrev pub list_parts : List Diff → List Part
list_parts ds = exactly begin_array ∷ (each_parts ds ++ exactly end_array ∷ [])
