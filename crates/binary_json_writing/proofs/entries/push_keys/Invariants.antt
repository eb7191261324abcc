use Rattle.std.proofs.Common.{◌≡◌, ◌++◌, drop, map}
use Rattle.binary_json_writing.specs.Views.{item}
use Rattle.binary_json_writing.specs.Written.{keys}
use Rattle.binary_json_writing.proofs.entries.push_keys.Given as goal

abbrev pub invariant-entries : goal.invariant-entries
invariant-entries l = l.out.items ++ keys (map item (drop l.entry-index l.entries)) ≡ l.fn.out.items ++ keys (map item l.entries)
