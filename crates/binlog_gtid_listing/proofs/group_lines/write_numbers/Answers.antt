use Rattle.std.proofs.Common.{subst}
use Rattle.binlog_gtids.specs.GnoSets.{AreApart}
use Rattle.binlog_gtid_listing.proofs.Groups.{numbers_written}
use Rattle.binlog_gtid_listing.proofs.group_lines.write_numbers.Goals as goal

pub returns-clause-written : goal.returns-clause-written
returns-clause-written g c =
    numbers_written _ _ _ _ _ c.write_parts.result c.tag_text-text.ensures.tagged (subst (AreApart 0) c.intervals.ensures.list c.intervals.ensures.apart)
    (rw (c.tag_text-text.ensures.same, c.intervals.ensures.list) at c.write_parts.ensures.writes)
