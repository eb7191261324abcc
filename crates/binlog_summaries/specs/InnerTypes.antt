-- The text and the lines of JSON of statistics by type of the events inside compressed transactions.
use Rattle.std.specs.Prelude.{ℕ, ◌==◌, ◌&&◌, Bool, suc, zero, List, [], ◌++◌, codes, decimal, slice_index_or, if◌then◌else◌}
use Rattle.json.specs.Token.{Token}
use Rattle.json_line.specs.Tokens.{object}
use Rattle.binlog_summaries.specs.StatsText.{type_text}
use Rattle.change_statistics.specs.TypeCounting.{total}
use Rattle.change_statistics.specs.declared.type_counts.TypeCounts.{TypeCounts}
use Rattle.binlog_summaries.specs.JsonLines.{number_member, line_of}
use Rattle.binlog_summaries.specs.TypeJson.{type_members}

-- There is no event, and no error in the place of one.
abbrev pub is_empty : TypeCounts → Bool
is_empty counts = (total counts.events == 0) && (counts.errors == 0)

-- ---- text

-- The line of all types.
abbrev pub head_line : TypeCounts → List ℕ
head_line counts =
    codes "inside " ++ decimal (total counts.events) ++ codes " events " ++ decimal (total counts.bytes) ++ codes " bytes " ++ decimal counts.errors ++ codes " damaged\n"

-- The row of a type, if it has events: their number, and their bytes.
abbrev pub row_of : (number events bytes : ℕ) → List ℕ
row_of number events bytes =
    if events == 0 then [] else codes "inside " ++ type_text number ++ codes " " ++ decimal events ++ codes " events " ++ decimal bytes ++ codes " bytes\n"

-- The rows of the types below a number.
unfoldable pub rows_below : ℕ → TypeCounts → List ℕ
rows_below zero counts = []
rows_below (suc number) counts = rows_below number counts ++ row_of number (slice_index_or counts.events number 0) (slice_index_or counts.bytes number 0)

-- The whole text: the types with events are in ascending order of their numbers.
abbrev pub inner_text : TypeCounts → List ℕ
inner_text counts = if is_empty counts then [] else head_line counts ++ rows_below 256 counts

-- ---- lines of JSON

-- The object above the types.
abbrev pub head_object : TypeCounts → List Token
head_object counts =
    object (number_member (codes "inside_events") (total counts.events) ++ number_member (codes "inside_bytes") (total counts.bytes) ++ number_member (codes "inside_damaged") counts.errors)

-- The object of a type: its number, its name, and the counts of its events and of their bytes.
abbrev pub type_object : (number events bytes : ℕ) → List Token
type_object number events bytes = object (type_members number ++ number_member (codes "inside_events") events ++ number_member (codes "inside_bytes") bytes)

-- The line of a type, and nothing if it has no events.
abbrev pub line_at : (number events bytes : ℕ) → List ℕ
line_at number events bytes = if events == 0 then [] else line_of (type_object number events bytes)

-- The lines of the types below a number.
unfoldable pub lines_below : ℕ → TypeCounts → List ℕ
lines_below zero counts = []
lines_below (suc number) counts = lines_below number counts ++ line_at number (slice_index_or counts.events number 0) (slice_index_or counts.bytes number 0)

-- All lines: the types with events are in ascending order of their numbers.
abbrev pub inner_json : TypeCounts → List ℕ
inner_json counts = if is_empty counts then [] else line_of (head_object counts) ++ lines_below 256 counts
