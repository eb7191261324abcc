use Rattle.std.proofs.Common.{◌≡◌, ◌+◌, ◌^◌, ◌<◌, drop, map}
use Rattle.binary_json_writing.specs.Views.{item}
use Rattle.binary_json_writing.specs.Written.{size, entries_size}
use Rattle.binary_json_writing.proofs.entries.size.Given as goal

abbrev pub invariant-entries : goal.invariant-entries
invariant-entries l = record {
  sum : l.total + entries_size l.container (map item (drop l.entry-index l.entries)) ≡ size l.container (map item l.entries);
  small : l.total < 2 ^ 32;
}
