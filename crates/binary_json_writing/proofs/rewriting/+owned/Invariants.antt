use Rattle.std.proofs.Common.{◌≡◌, ◌+◌, ◌*◌, ◌++◌, map}
use Rattle.std.specs.Prelude.{slice_range}
use Rattle.binary_json.specs.Values.{nesting}
use Rattle.binary_json.specs.Views.{json}
use Rattle.binary_json_writing.specs.Builders.{member_in}
use Rattle.binary_json_writing.specs.Changes.{entries_of}
use Rattle.binary_json_writing.proofs.rewriting.+owned.Given as goal

abbrev pub decreases-owned : goal.decreases-owned
decreases-owned l = 4 * nesting (json l.value.now) + 3

abbrev pub decreases-owned_entries : goal.decreases-owned_entries
decreases-owned_entries l = 4 * nesting (json l.value.now) + 2

abbrev pub decreases-copy_entries : goal.decreases-copy_entries
decreases-copy_entries l = 4 * nesting (json l.value.now) + 1

abbrev pub decreases-copy_entry : goal.decreases-copy_entry
decreases-copy_entry l = 4 * nesting (json l.value.now)

-- The entries so far are copied.
abbrev pub invariant-copy_entries-entries : goal.invariant-copy_entries-entries
invariant-copy_entries-entries l = record {
  keyed : l.list.keyed ≡ l.fn.list.keyed;
  copied : map member_in l.list.entries.items ≡ map member_in l.fn.list.entries.items ++ slice_range (entries_of (json l.value)) l.fn.from l.index;
}
