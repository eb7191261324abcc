use Rattle.std.proofs.Common.{◌∷◌, ◌∙◌, None, codes, get_or, arith}
use Rattle.std.proofs.lemmas.Result.{err_from_is_err_and}
use Rattle.binlog_variable_fields.specs.declared.gno_interval.GnoInterval.{GnoInterval}
use Rattle.binlog_gtids.specs.GnoSets.{AreApart}
use Rattle.binlog_gtid_listing.specs.GroupLines.{interval_text}
use Rattle.binlog_gtid_listing.proofs.Writing.{stop, behind_stop, has_number, first_written, more_written, more_stop, all_written}
use Rattle.binlog_gtid_listing.proofs.parts.write_intervals.Goals as goal

-- the default of a read
abbrev no_interval : GnoInterval
no_interval = record { start = 0; end = 0 }

pub returns-in_err-write_interval-clause-writes : goal.returns-in_err-write_interval-clause-writes
returns-in_err-write_interval-clause-writes g c =
    let p = err_from_is_err_and c.from_residual.result c.from_residual.ensures.1 in
    rw (c.in-Some.ensures.cases.0, p.1, p.2) (stop (interval_text c.in-Some.first.now) _ _ _ _ c.in_err-write_interval.ensures.writes)

pub loop-interval-init : goal.loop-interval-init
loop-interval-init g c =
    record {
      first = c.in-Some.first.now;
      all = c.in-Some.ensures.cases.0;
      written = first_written c.in-Some.first.now c.in-Some.rest.now _ _ None c.in_ok-write_interval.ensures.writes;
      writer = c.in_ok-write_interval.ensures.writer;
    }

pub returns-in_err-write_part-clause-writes : goal.returns-in_err-write_part-clause-writes
returns-in_err-write_part-clause-writes g c =
    let so_far = c.loop-interval.invariant in
    let i : GnoInterval = get_or c.in-Some.rest.now c.loop-interval.interval-index no_interval in
    let p = err_from_is_err_and c.from_residual-in_err-write_part.result c.from_residual-in_err-write_part.ensures.1 in
    rw (so_far.all, p.1, p.2)
    (more_stop so_far.first c.in-Some.rest.now _ _ _ c.loop-interval.interval-index no_interval _ (omega arith) so_far.written (stop (codes ",") (interval_text i) _ _ _ c.in_err-write_part.ensures.writes))

pub write_interval-requires-in-loop-interval : goal.write_interval-requires-in-loop-interval
write_interval-requires-in-loop-interval g c =
    let so_far = c.loop-interval.invariant in
    let apart : AreApart 0 (so_far.first ∷ c.in-Some.rest.now) = rw so_far.all at c.requires in
    has_number c.in-Some.rest.now so_far.first.end c.loop-interval.interval-index no_interval apart.3 (omega arith)

pub returns-in_err-write_interval-2-clause-writes : goal.returns-in_err-write_interval-2-clause-writes
returns-in_err-write_interval-2-clause-writes g c =
    let so_far = c.loop-interval.invariant in
    let i : GnoInterval = get_or c.in-Some.rest.now c.loop-interval.interval-index no_interval in
    let p = err_from_is_err_and c.from_residual-in_err-write_interval-2.result c.from_residual-in_err-write_interval-2.ensures.1 in
    rw (so_far.all, p.1, p.2)
    (more_stop so_far.first c.in-Some.rest.now _ _ _ c.loop-interval.interval-index no_interval _ (omega arith) so_far.written (behind_stop (codes ",") (interval_text i) _ _ _ _ c.in_ok-write_part.ensures.writes c.in_err-write_interval-2.ensures.writes))

pub loop-interval-preserved : goal.loop-interval-preserved
loop-interval-preserved g c =
    let so_far = c.loop-interval.invariant in
    record {
      first = so_far.first;
      all = so_far.all;
      written = more_written so_far.first c.in-Some.rest.now _ _ _ c.loop-interval.interval-index no_interval _ (omega arith) so_far.written c.in_ok-write_part.ensures.writes c.in_ok-write_interval-2.ensures.writes;
      writer = c.in_ok-write_interval-2.ensures.writer ∙ c.in_ok-write_part.ensures.writer ∙ so_far.writer;
    }

pub returns-clause-writes : goal.returns-clause-writes
returns-clause-writes g c =
    let so_far = c.loop-interval.invariant in
    rw so_far.all (all_written so_far.first c.in-Some.rest.now _ None _ c.loop-interval.interval-index (omega arith) so_far.written)
