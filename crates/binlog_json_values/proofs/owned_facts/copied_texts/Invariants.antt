use Rattle.std.proofs.Common.{◌≡◌, map, take}
use Rattle.binlog_optional_metadata.specs.Facts.{texts_of}
use Rattle.binlog_json_values.proofs.owned_facts.copied_texts.Given as goal

abbrev pub invariant-members : goal.invariant-members
invariant-members l = map (λ copy. copy.items) l.copies.items ≡ texts_of (take l.member-index l.members)
