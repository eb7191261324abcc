use Rattle.std.proofs.Common.{◌≡◌, ◌+◌, ◌-◌, ◌<◌, ◌^◌, take, drop}
use Rattle.binary_json.specs.Opaques.{magnitude, number_behind}
use Rattle.binary_json.proofs.decimal.group.Given as goal

abbrev pub invariant-bytes : goal.invariant-bytes
invariant-bytes l = (l.number < 256 ^ (l.index - l.at))
    × (number_behind l.number (take (l.at + l.len - l.index) (drop l.index (magnitude l.digits))) ≡ number_behind 0 (take l.len (drop l.at (magnitude l.digits))))
