use Rattle.std.proofs.Common.{◌+◌}
use Rattle.binlog_variable_fields.specs.declared.gno_interval.GnoInterval.{GnoInterval}
use Rattle.binlog_gtids.proofs.GnoSets.{starts_here, starts_later}
use Rattle.binlog_gtids.proofs.gno_set.count_starting_behind.Goals as goal

none : GnoInterval
none = record { start = 0; end = 0 }

pub returns-then-not-starts_up_to : goal.returns-then-not-starts_up_to
returns-then-not-starts_up_to c =
    starts_here c.args.intervals.now c.args.from c.args.gno none c.requires.least
    (λ within. c.starts_up_to.ensures.above c.if-not-starts_up_to.true within none)

pub returns-then-not-starts_up_to-2 : goal.returns-then-not-starts_up_to-2
returns-then-not-starts_up_to-2 c =
    let later = starts_later c.args.intervals.now c.args.from c.args.gno none c.requires.least
    (c.starts_up_to.ensures.within c.if-not-starts_up_to.false) (c.starts_up_to.ensures.up_to c.if-not-starts_up_to.false none) in
    starts_here c.args.intervals.now (c.args.from + 1) c.args.gno none later
    (λ within. c.starts_up_to-2.ensures.above c.if-not-starts_up_to-2.true within none)
