use Rattle.std.proofs.Common.{◌≡◌, ◌+◌, ◌*◌, ◌-◌}
use Rattle.binary_json.specs.Refusals.{entries_left, value_left}
use Rattle.binary_json.proofs.check.+check.Given as goal

abbrev pub decreases-check_value : goal.decreases-check_value
decreases-check_value l = 4 * l.depth

abbrev pub decreases-check_container : goal.decreases-check_container
decreases-check_container l = 4 * l.depth + 3

abbrev pub decreases-check_entries : goal.decreases-check_entries
decreases-check_entries l = 4 * l.depth + 2

abbrev pub decreases-check_entry : goal.decreases-check_entry
decreases-check_entry l = 4 * l.depth + 1

abbrev pub invariant-check_entries-entries : goal.invariant-check_entries-entries
invariant-check_entries-entries l =
    entries_left (value_left l.depth) l.container.kind l.place l.container.bytes.now (l.container.count - l.index) l.index l.rest
    ≡ entries_left (value_left l.depth) l.container.kind l.place l.container.bytes.now l.container.count 0 l.left
