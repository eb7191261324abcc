use Rattle.std.proofs.Common.{◌≡◌, length}
use Rattle.std.specs.List.{list_any}
use Rattle.column_files.specs.TypeMembers.{texts_of}
use Rattle.binlog_declared_columns.specs.Facts.{has_question_mark}
use Rattle.binlog_declared_columns.proofs.known_members.are_known.Given as goal

-- One of the members that are left has a question mark exactly if one of all has.
abbrev pub invariant-members : goal.invariant-members
invariant-members l = list_any has_question_mark (texts_of l.left) ≡ list_any has_question_mark (texts_of l.fn.members)

abbrev pub decreases-members : goal.decreases-members
decreases-members l = length l.left
