use Rattle.std.proofs.Common.{inl, refl, subst}
use Rattle.std.proofs.lemmas.Result.{err_from_is_err_and}
use Rattle.binlog_gtids.specs.GnoSets.{AreApart}
use Rattle.binlog_gtid_listing.proofs.Groups.{line_written}
use Rattle.binlog_gtid_listing.proofs.group_lines.write_with_gaps.Goals as goal

pub returns-in_err-gaps-clause-written : goal.returns-in_err-gaps-clause-written
returns-in_err-gaps-clause-written g c =
    let p = err_from_is_err_and c.from_residual.result c.from_residual.ensures.1 in
    rw (p.1, p.2, c.in_err-gaps.ensures.memory) (inl (refl, refl, refl))

pub returns-clause-written : goal.returns-clause-written
returns-clause-written g c =
    line_written _ _ _ c.in_ok-gaps.gaps.items _ _ c.write_parts.result c.tag_text-text.ensures.tagged (subst (AreApart 0) c.intervals.ensures.list c.intervals.ensures.apart) c.in_ok-gaps.ensures.apart c.in_ok-gaps.ensures.missing
    (rw (c.tag_text-text.ensures.same, c.intervals.ensures.list, c.as_slice.ensures.value) at c.write_parts.ensures.writes)
