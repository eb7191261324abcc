use Rattle.std.proofs.Common.{◌≡◌, ◌+◌, ◌-◌, ◌*◌, ◌++◌, string_bytes}
use Rattle.binlog_values.specs.Contents.{magnitude}
use Rattle.binlog_values.specs.Texts.{StartsWith}
use Rattle.binlog_values.specs.DecimalGroups.{part_text}
use Rattle.binlog_values.proofs.decimal_text.push_part.Given as goal

-- The groups so far are behind the text, and with those to come are all of them.
abbrev pub invariant-loop-index : goal.invariant-loop-index
invariant-loop-index l = (l.place ≡ l.start + 4 * l._index)
    × StartsWith (string_bytes l.fn.text) (string_bytes l.text)
    × (string_bytes l.text ++ part_text (l.count - l._index) l.place l.tail (magnitude l.bytes) ≡ string_bytes l.fn.text ++ part_text l.count l.start l.tail (magnitude l.bytes))
