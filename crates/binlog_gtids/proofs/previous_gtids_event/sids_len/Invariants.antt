use Rattle.std.proofs.Common.{◌≡◌, ◌+◌, ◌≤◌, length, drop, min}
use Rattle.binlog_variable_fields.specs.Repeated.{each_written}
use Rattle.binlog_gtids.specs.PreviousGtids.{sid_written}
use Rattle.binlog_gtids.proofs.previous_gtids_event.sids_len.Given as goal

abbrev pub invariant-loop-sid : goal.invariant-loop-sid
invariant-loop-sid l =
    let written = each_written (sid_written l.with_tags) in
    record {
      total : min (l.len + length (written (drop l.sid-index l.sids))) 18446744073709551615 ≡ min (length (written l.sids)) 18446744073709551615;
      small : l.len ≤ 18446744073709551615;
    }
