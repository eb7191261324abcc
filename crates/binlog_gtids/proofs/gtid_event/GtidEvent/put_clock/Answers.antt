use Rattle.std.proofs.Common.{arith}
use Rattle.binlog_variable_fields.specs.Announced.{announced_written}
use Rattle.binlog_variable_fields.specs.LenEnc.{lenenc_written}
use Rattle.binlog_gtids.specs.Untagged.{logical_times, clock_of}
use Rattle.binlog_gtids.specs.Laws.UntaggedWriting.{clock_length, length-logical_times, put_four}
use Rattle.binlog_gtids.proofs.gtid_event.GtidEvent.put_clock.Goals as goal

pub returns : goal.returns
returns c =
    let g = c.args.self.now in
    record {
      items = put_four c.args.buf.now.items (logical_times.written (g.last_committed, g.sequence_number))
          (announced_written 7 36028797018963968 (g.immediate_commit_timestamp, g.original_commit_timestamp)) (lenenc_written g.tx_length)
          (announced_written 4 2147483648 (g.immediate_server_version, g.original_server_version))
          c.put_logical_times.new.buf.items c.put_times.new.buf.items c.put.new.buf.items c.put_versions.new.buf.items
          c.put_logical_times.ensures.items c.put_times.ensures.items c.put.ensures.items c.put_versions.ensures.items;
      len = omega (
        arith,
        clock_length (clock_of g),
        length-logical_times g.last_committed g.sequence_number,
        c.put_logical_times.ensures.len,
        c.put_times.ensures.len,
        c.put.ensures.len,
        c.put_versions.ensures.len,
      );
      capacity = omega (arith, c.put_logical_times.ensures.capacity, c.put_times.ensures.capacity, c.put.ensures.capacity, c.put_versions.ensures.capacity);
    }
