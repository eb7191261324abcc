-- Where the fields of a line are in a text.
use Rattle.std.specs.Prelude.{ℕ, zero, suc, ◌+◌, ◌-◌, ◌==◌, Bool, not, List, length, drop}
use Rattle.std.specs.List.{prefix_len}

abbrev pub is_other : (byte other : ℕ) → Bool
is_other byte other = not (other == byte)

-- What is behind the first byte that is this one; nothing if none is.
abbrev pub behind : (byte : ℕ) → List ℕ → List ℕ
behind byte s = drop (prefix_len (is_other byte) s + 1) s

-- What is behind so many lines, each with its line feed.
abbrev pub behind_lines : ℕ → List ℕ → List ℕ
behind_lines zero s = s
behind_lines (suc n) s = behind 10 (behind_lines n s)

-- The index of the byte at which the third field of a line begins: behind two tabs. The line has this index behind the first line.
abbrev pub position_at : List ℕ → ℕ → ℕ
position_at text index = length text - length (behind 9 (behind 9 (behind_lines index (behind 10 text))))
