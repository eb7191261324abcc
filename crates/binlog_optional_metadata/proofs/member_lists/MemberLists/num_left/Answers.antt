use Rattle.std.proofs.Common.{sym}
use Rattle.binlog_optional_metadata.proofs.Sequences.{values_count}
use Rattle.binlog_optional_metadata.specs.Lists.{text_list}
use Rattle.binlog_optional_metadata.proofs.member_lists.MemberLists.num_left.Goals as goal

pub returns : goal.returns
returns c = sym (values_count text_list.reads c.args.self.now.left c.args.self.now.rest.now c.args.self.now.is_whole)
