-- The line of `binlog verify` for a file.
use Rattle.std.specs.Prelude.{ℕ, List, ◌++◌, codes, decimal}
use Rattle.binlog_commands.specs.declared.tally.Tally.{Tally}

-- A number and the words behind it.
abbrev pub count_of : (count : ℕ) (words : List ℕ) → List ℕ
count_of count words = decimal count ++ words

-- The name of the file and the counts, in decimal, and a line feed.
abbrev pub tally_line : (name : List ℕ) → Tally → List ℕ
tally_line name tally =
    name ++ codes ": " ++ count_of tally.events (codes " events, ") ++ count_of tally.bytes (codes " bytes, ")
    ++ count_of tally.checksums (codes " checksums right, ") ++ count_of tally.errors (codes " events damaged\n")
