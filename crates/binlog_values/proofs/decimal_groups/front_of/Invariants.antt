use Rattle.std.proofs.Common.{◌≡◌, ◌⊎◌, ◌≤◌, ◌+◌, ◌-◌, ◌*◌, ◌++◌, false}
use Rattle.binlog_values.specs.Contents.{magnitude}
use Rattle.binlog_values.specs.DecimalGroups.{group_at, group_text, is_begun_by, nines_text}
use Rattle.binlog_values.proofs.decimal_groups.front_of.Given as goal

-- The groups so far are zeros, but perhaps the one before this place.
abbrev pub invariant-zeros : goal.invariant-zeros
invariant-zeros l = (l.place ≡ l.start + 4 * l.index)
    × (group_text false 9 l.first ++ nines_text (l.count - l.index) l.place (is_begun_by false l.first) (magnitude l.bytes)
    ≡ group_text false 9 l.number ++ nines_text l.count l.start (is_begun_by false l.number) (magnitude l.bytes))
    × ((l.first ≡ l.number) ⊎ ((l.start + 4 ≤ l.place) × (l.first ≡ group_at (l.place - 4) 9 (magnitude l.bytes))))
