use Rattle.std.proofs.Common.{refl, ◌∙◌, arith}
use Rattle.std.proofs.KnownBytes.{Appends-nil}
use Rattle.std.proofs.lemmas.Result.{err_from_is_err_and}
use Rattle.binlog_mariadb.specs.declared.maria_gtid.MariaGtid.{MariaGtid}
use Rattle.binlog_gtid_listing.proofs.MariaLines.{more_written, more_stop, all_written}
use Rattle.binlog_gtid_listing.proofs.maria_lines.write_gtids.Goals as goal

-- the default of a read
abbrev no_gtid : MariaGtid
no_gtid = record { domain = 0; server_id = 0; sequence = 0 }

pub loop-gtid-init : goal.loop-gtid-init
loop-gtid-init g c = record { written = Appends-nil _; writer = refl }

pub returns-in_err-write_missing-clause-writes : goal.returns-in_err-write_missing-clause-writes
returns-in_err-write_missing-clause-writes g c =
    let p = err_from_is_err_and c.from_residual.result c.from_residual.ensures.1 in
    rw (p.1, p.2) (more_stop c.args.others.now c.args.gtids.now _ _ _ c.loop-gtid.gtid-index no_gtid _ (omega arith) c.loop-gtid.invariant.written c.in_err-write_missing.ensures.writes)

pub loop-gtid-preserved : goal.loop-gtid-preserved
loop-gtid-preserved g c = record {
  written = more_written c.args.others.now c.args.gtids.now _ _ _ c.loop-gtid.gtid-index no_gtid (omega arith) c.loop-gtid.invariant.written c.in_ok-write_missing.ensures.writes;
  writer = c.in_ok-write_missing.ensures.writer ∙ c.loop-gtid.invariant.writer;
}

pub returns-clause-writes : goal.returns-clause-writes
returns-clause-writes g c = all_written c.args.others.now c.args.gtids.now _ (g.W.WriteCounted.contents c.args.output.now) _ c.loop-gtid.gtid-index (omega arith) c.loop-gtid.invariant.written
