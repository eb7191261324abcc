use Rattle.std.proofs.Common.{◌≡◌, ◌+◌, ◌-◌, ◌*◌, ◌++◌, ◌∷◌, [], drop, replicate}
use Rattle.binlog_values.specs.Contents.{magnitude, groups_fit}
use Rattle.binlog_values.proofs.digits.groups_fit.Given as goal

abbrev pub invariant-loop-index : goal.invariant-loop-index
invariant-loop-index l = (l.place ≡ l.at + 4 * l._index)
    × (groups_fit (replicate l.count 9 ++ l.tail ∷ []) (drop l.at (magnitude l.bytes)) ≡ groups_fit (replicate (l.count - l._index) 9 ++ l.tail ∷ []) (drop l.place (magnitude l.bytes)))
