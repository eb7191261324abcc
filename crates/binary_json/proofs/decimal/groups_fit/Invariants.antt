use Rattle.std.proofs.Common.{◌≡◌, ◌+◌, ◌-◌, ◌*◌, ◌++◌, ◌∷◌, [], drop, replicate}
use Rattle.binary_json.specs.Opaques.{magnitude, groups_fit}
use Rattle.binary_json.proofs.decimal.groups_fit.Given as goal

abbrev pub invariant-groups : goal.invariant-groups
invariant-groups l = (l.place ≡ l.at + 4 * l.index)
    × (groups_fit (replicate l.count 9 ++ l.tail ∷ []) (drop l.at (magnitude l.digits)) ≡ groups_fit (replicate (l.count - l.index) 9 ++ l.tail ∷ []) (drop l.place (magnitude l.digits)))
