use Rattle.std.proofs.Common.{◌≡◌, ◌+◌, ◌++◌, length, drop, map}
use Rattle.binary_json_writing.specs.Views.{item}
use Rattle.binary_json_writing.specs.Written.{key_entries, keys}
use Rattle.binary_json_writing.proofs.entries.push_key_entries.Given as goal

abbrev pub invariant-entries : goal.invariant-entries
invariant-entries l = record {
  written : l.out.items ++ key_entries l.container l.at (map item (drop l.entry-index l.entries)) ≡ l.fn.out.items ++ key_entries l.container l.offset (map item l.entries);
  place : l.at + length (keys (map item (drop l.entry-index l.entries))) ≡ l.offset + length (keys (map item l.entries));
}
