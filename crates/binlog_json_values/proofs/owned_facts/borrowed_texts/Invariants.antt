use Rattle.std.proofs.Common.{◌≡◌, map, take}
use Rattle.binlog_optional_metadata.specs.Facts.{texts_of}
use Rattle.binlog_json_values.proofs.owned_facts.borrowed_texts.Given as goal

abbrev pub invariant-members : goal.invariant-members
invariant-members l = texts_of l.borrowed.items ≡ map (λ member. member.items) (take l.member-index l.members)
