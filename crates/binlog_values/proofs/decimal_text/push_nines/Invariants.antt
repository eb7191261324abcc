use Rattle.std.proofs.Common.{◌≡◌, ◌+◌, ◌-◌, ◌*◌, ◌++◌, string_bytes}
use Rattle.binlog_values.specs.Contents.{magnitude}
use Rattle.binlog_values.specs.Texts.{StartsWith}
use Rattle.binlog_values.specs.DecimalGroups.{nines_text}
use Rattle.binlog_values.proofs.decimal_text.push_nines.Given as goal

-- The groups so far are behind the text, and with those to come are all of them.
abbrev pub invariant-loop-index : goal.invariant-loop-index
invariant-loop-index l = (l.place ≡ l.start + 4 * l._index)
    × StartsWith (string_bytes l.fn.text) (string_bytes l.text)
    × (string_bytes l.text ++ nines_text (l.count - l._index) l.place l.is_begun (magnitude l.bytes) ≡ string_bytes l.fn.text ++ nines_text l.count l.start l.was_begun (magnitude l.bytes))
