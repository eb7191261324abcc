use Rattle.std.proofs.Common.{◌≡◌, ◌+◌, drop}
use Rattle.binary_json.specs.Views.{json}
use Rattle.binary_json_writing.specs.Changes.{entries_of, key_rank}
use Rattle.binary_json_writing.proofs.changing.key_rank.Given as goal

-- All entries so far come before the key.
abbrev pub invariant-entries : goal.invariant-entries
invariant-entries l = key_rank l.key (entries_of (json l.value)) ≡ l.index + key_rank l.key (drop l.index (entries_of (json l.value)))
