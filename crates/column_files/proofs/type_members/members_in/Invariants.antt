use Rattle.std.proofs.Common.{◌≡◌, length}
use Rattle.column_files.specs.TypeMembers.{joined, members_in}
use Rattle.column_files.proofs.type_members.members_in.Given as goal

-- The members so far, and those of what is left.
abbrev pub invariant-loop-byte : goal.invariant-loop-byte
invariant-loop-byte l = joined l.reading l.rest ≡ members_in l.text

abbrev pub decreases-loop-byte : goal.decreases-loop-byte
decreases-loop-byte l = length l.rest
