use Rattle.std.proofs.Common.{◌+◌, ap, cond, refl, ◌∙◌, Bool, Option, Some}
use Rattle.std.specs.Prelude.{is_some}
use Rattle.change_statistics.specs.Intervals.{counts_of, interval_count}
use Rattle.change_statistics.specs.declared.event_counts.EventCounts.{EventCounts}
use Rattle.change_statistics.proofs.Numbers.{is_number}
use Rattle.change_statistics.proofs.intervals.IntervalStats.put.Goals as goal

pub returns-clause-ok : goal.returns-clause-ok
returns-clause-ok c = record {
  intervals = λ other.
      c.in_ok-insert.ensures.updates.0 other
      ∙ ap (λ (b : Bool). cond b (Some c.args.counts) (counts_of c.args.self.now other)) (is_number c.args.start other);
  number = c.in_ok-insert.ensures.len ∙ ap (λ (o : Option EventCounts). interval_count c.args.self.now + cond (is_some o) 0 1) c.in_ok-insert.ensures.old;
  ordered = c.in_ok-insert.ensures.ordered;
  seconds = refl;
  is_full = refl;
}
