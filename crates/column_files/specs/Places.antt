-- Where a byte of a text is.
use Rattle.std.specs.Prelude.{ℕ, ◌+◌, ◌==◌, Bool, not, List, take, reverse}
use Rattle.std.specs.List.{count_by, prefix_len}
use Rattle.column_files.specs.declared.place.Place.{Place}

abbrev pub is_line_feed : ℕ → Bool
is_line_feed b = b == 10

abbrev pub is_not_line_feed : ℕ → Bool
is_not_line_feed b = not (b == 10)

-- The place behind these bytes: a line for each line feed, and the bytes behind the last one.
abbrev pub place_behind : List ℕ → Place
place_behind s = record { line = count_by is_line_feed s + 1; column = prefix_len is_not_line_feed (reverse s) + 1 }

-- The place of the byte with this index.
abbrev pub place_of : List ℕ → ℕ → Place
place_of text index = place_behind (take index text)
