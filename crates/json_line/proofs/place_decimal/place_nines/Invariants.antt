use Rattle.std.proofs.Common.{◌≡◌, ◌+◌, ◌*◌, take}
use Rattle.json.specs.Filled.{Placed}
use Rattle.json_line.specs.Decimals.{nines_text}
use Rattle.json_line.proofs.place_decimal.place_nines.Given as goal

-- The groups so far are written.
abbrev pub invariant-groups : goal.invariant-groups
invariant-groups l = Placed l.fn.memory l.memory l.at (nines_text (take l.group-index l.groups)) l.place × (l.place ≡ l.at + 9 * l.group-index)
