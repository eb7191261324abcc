use Rattle.std.proofs.Common.{◌≡◌, ◌++◌, drop, map}
use Rattle.binary_json_writing.specs.Views.{item}
use Rattle.binary_json_writing.specs.Written.{all_placed}
use Rattle.binary_json_writing.proofs.entries.push_placed.Given as goal

abbrev pub invariant-entries : goal.invariant-entries
invariant-entries l = l.out.items ++ all_placed l.container (map item (drop l.entry-index l.entries)) ≡ l.fn.out.items ++ all_placed l.container (map item l.entries)
