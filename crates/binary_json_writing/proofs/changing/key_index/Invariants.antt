use Rattle.std.proofs.Common.{◌≡◌, drop}
use Rattle.binary_json.specs.Views.{json}
use Rattle.binary_json_writing.specs.Changes.{entries_of, key_index}
use Rattle.binary_json_writing.proofs.EntryKeys.{moved}
use Rattle.binary_json_writing.proofs.changing.key_index.Given as goal

-- No entry so far has the key.
abbrev pub invariant-entries : goal.invariant-entries
invariant-entries l = key_index l.key (entries_of (json l.value)) ≡ moved l.index (key_index l.key (drop l.index (entries_of (json l.value))))
