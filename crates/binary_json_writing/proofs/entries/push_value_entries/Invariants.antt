use Rattle.std.proofs.Common.{◌≡◌, ◌+◌, ◌++◌, length, drop, map}
use Rattle.binary_json_writing.specs.Views.{item}
use Rattle.binary_json_writing.specs.Written.{value_entries, all_placed}
use Rattle.binary_json_writing.proofs.entries.push_value_entries.Given as goal

abbrev pub invariant-entries : goal.invariant-entries
invariant-entries l = record {
  written : l.out.items ++ value_entries l.container l.at (map item (drop l.entry-index l.entries)) ≡ l.fn.out.items ++ value_entries l.container l.offset (map item l.entries);
  place : l.at + length (all_placed l.container (map item (drop l.entry-index l.entries))) ≡ l.offset + length (all_placed l.container (map item l.entries));
}
