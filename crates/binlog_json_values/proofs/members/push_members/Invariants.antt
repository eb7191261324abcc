use Rattle.std.proofs.Common.{◌≡◌, ◌++◌}
use Rattle.binlog_optional_metadata.specs.Facts.{texts_of}
use Rattle.binlog_json_values.specs.Members.{chosen, joined}
use Rattle.binlog_json_values.proofs.SetTexts.{appended, chosen_from}
use Rattle.binlog_json_values.proofs.members.push_members.Given as goal

-- The members so far, with those to come, are all of them.
abbrev pub invariant-members : goal.invariant-members
invariant-members l = l.text.items ++ appended l.comma l.is_first (chosen_from l.member-index l.members l.bits) ≡ l.fn.text.items ++ joined l.comma (chosen (texts_of l.members) l.mask)
