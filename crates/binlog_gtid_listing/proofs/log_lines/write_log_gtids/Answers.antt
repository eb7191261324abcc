use Rattle.std.proofs.Common.{inl}
use Rattle.std.proofs.lemmas.Result.{err_from_is_err_and}
use Rattle.binlog_gtid_listing.proofs.LogLines.{lines_behind}
use Rattle.binlog_gtid_listing.proofs.log_lines.write_log_gtids.Goals as goal

pub returns-in_err-write_groups-clause-written : goal.returns-in_err-write_groups-clause-written
returns-in_err-write_groups-clause-written g c =
    let p = err_from_is_err_and c.from_residual.result c.from_residual.ensures.1 in
    rw (p.1, p.2) (inl c.in_err-write_groups.ensures.written)

pub returns-clause-written : goal.returns-clause-written
returns-clause-written g c = lines_behind c.args.has_gaps c.args.gtids.now c.args.maria_gtids.now c.args.others.now (g.W.WriteCounted.contents c.args.output.now) (g.W.WriteCounted.contents c.write_groups.new.output) (g.W.WriteCounted.contents c.write_maria_gtids.new.output) c.write_maria_gtids.result c.in_ok-write_groups.ensures.written c.write_maria_gtids.ensures.writes
