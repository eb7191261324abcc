-- Lists of members as contracts see them.
use Rattle.std.specs.Prelude.{ℕ, List, Result, Ok, Err}
use Rattle.binlog_wire.specs.declared.error.Error.{Error}
use Rattle.binlog_variable_fields.specs.Repeated.{times_at}
use Rattle.binlog_optional_metadata.specs.Lists.{text_list}
use Rattle.binlog_optional_metadata.specs.Sequences.{values}
use Rattle.binlog_optional_metadata.specs.declared.member_lists.MemberLists.{MemberLists}

-- The lists that are left.
abbrev pub lists_of : MemberLists → List (List (List ℕ))
lists_of lists = values (times_at lists.left text_list.reads lists.rest.now)

-- An answer, with its lists.
abbrev pub answer_lists : Result MemberLists Error → Result (List (List (List ℕ))) Error
answer_lists (Ok lists) = Ok (lists_of lists)
answer_lists (Err e) = Err e
