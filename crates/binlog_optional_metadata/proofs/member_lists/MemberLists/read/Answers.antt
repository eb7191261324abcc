use Rattle.std.proofs.Common.{arith}
use Rattle.binlog_variable_fields.specs.Repeated.{times_at}
use Rattle.binlog_optional_metadata.proofs.Sequences.{rest_turn, refused_here}
use Rattle.binlog_optional_metadata.specs.Lists.{text_list}
use Rattle.binlog_optional_metadata.specs.Names.{names_of}
use Rattle.binlog_optional_metadata.proofs.member_lists.MemberLists.read.Goals as goal

pub loop-index-preserved : goal.loop-index-preserved
loop-index-preserved c =
    rest_turn text_list.reads (times_at c.args.left text_list.reads c.args.buf.now) c.args.left c.loop-index._index c.loop-index.buf c.read_members.new.buf (names_of c.in_default.field-0)
    (omega arith) c.in_default.ensures c.loop-index.invariant

pub returns-in-Err : goal.returns-in-Err
returns-in-Err c =
    refused_here text_list.reads (times_at c.args.left text_list.reads c.args.buf.now) c.args.left c.loop-index._index c.loop-index.buf c.in-Err.error (omega arith) c.in-Err.ensures c.loop-index.invariant
