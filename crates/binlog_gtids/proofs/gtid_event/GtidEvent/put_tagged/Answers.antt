use Rattle.std.proofs.Common.{arith}
use Rattle.binlog_gtids.specs.Laws.TaggedWriting.{put_whole, whole_length}
use Rattle.binlog_gtids.proofs.gtid_event.GtidEvent.put_tagged.Goals as goal

pub returns : goal.returns
returns c = record {
  items = put_whole c.args.self.now c.args.tag.now c.args.buf.now.items c.put.new.buf.items c.put-2.new.buf.items c.put-3.new.buf.items c.put_first.new.buf.items c.put_last.new.buf.items
      c.tagged_len-size.result c.requires.tag c.tagged_len-size.ensures.size c.put.ensures.items c.put-2.ensures.items c.put-3.ensures.items c.put_first.ensures.items c.put_last.ensures.items;
  len = omega (
    arith,
    whole_length c.args.self.now c.args.tag.now c.tagged_len-size.result c.requires.tag c.tagged_len-size.ensures.size,
    c.put.ensures.len,
    c.put-2.ensures.len,
    c.put-3.ensures.len,
    c.put_first.ensures.len,
    c.put_last.ensures.len,
  );
  capacity = omega (arith, c.put.ensures.capacity, c.put-2.ensures.capacity, c.put-3.ensures.capacity, c.put_first.ensures.capacity, c.put_last.ensures.capacity);
}
