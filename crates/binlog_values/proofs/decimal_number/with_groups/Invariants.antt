use Rattle.std.proofs.Common.{◌≡◌, ◌+◌, ◌-◌, ◌*◌, ◌^◌, ◌++◌, ◌∷◌, [], drop, replicate}
use Rattle.binlog_values.specs.Contents.{magnitude}
use Rattle.binlog_values.specs.Decimals.{digits_count, groups_number}
use Rattle.binlog_values.proofs.decimal_number.with_groups.Given as goal

-- The digits so far, with those to come, are all of them.
abbrev pub invariant-loop-index : goal.invariant-loop-index
invariant-loop-index l = (l.place ≡ l.at + 4 * l._index)
    × (l.number * 10 ^ digits_count (replicate (l.count - l._index) 9 ++ l.tail ∷ []) + groups_number (replicate (l.count - l._index) 9 ++ l.tail ∷ []) (drop l.place (magnitude l.bytes))
    ≡ l.first * 10 ^ digits_count (replicate l.count 9 ++ l.tail ∷ []) + groups_number (replicate l.count 9 ++ l.tail ∷ []) (drop l.at (magnitude l.bytes)))
