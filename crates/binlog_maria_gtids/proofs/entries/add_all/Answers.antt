use Rattle.std.proofs.Common.{arith}
use Rattle.binlog_mariadb.specs.declared.maria_gtid.MariaGtid.{MariaGtid}
use Rattle.binlog_maria_gtids.proofs.LastGtids.{keeps_one_more}
use Rattle.binlog_maria_gtids.proofs.entries.add_all.Goals as goal

-- the default of a read
abbrev no_gtid : MariaGtid
no_gtid = record { domain = 0; server_id = 0; sequence = 0 }

pub loop-gtid-preserved : goal.loop-gtid-preserved
loop-gtid-preserved c = record {
  ascending = c.add.ensures.ascending;
  kept = keeps_one_more c.args.entries.now.items c.loop-gtid.entries.items c.add.new.entries.items c.args.gtids.now c.loop-gtid.gtid-index no_gtid (omega arith) c.loop-gtid.invariant.kept c.in_ok-add.ensures.ok;
  room = omega (arith, c.add.ensures.len, c.add.ensures.capacity, c.loop-gtid.invariant.room);
}
