use Rattle.std.proofs.Common.{◌≡◌, ◌++◌, length}
use Rattle.binlog_later_changes.specs.RowKeys.{escaped}
use Rattle.binlog_later_changes.proofs.row_key.push_text.Given as goal

-- The bytes so far, with those of the text that is left, are those of the whole text.
abbrev pub invariant-bytes : goal.invariant-bytes
invariant-bytes l = l.code.items ++ escaped l.left ≡ l.fn.code.items ++ escaped l.fn.text

abbrev pub decreases-bytes : goal.decreases-bytes
decreases-bytes l = length l.left
