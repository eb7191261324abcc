use Rattle.std.proofs.Common.{sym, ◌∙◌}
use Rattle.binlog_gtid_listing.proofs.Added.{adds_none, adds_unread, adds_data}
use Rattle.binlog_gtid_listing.proofs.adding.add_gtids.Goals as goal

pub returns-then-not-has_gtids : goal.returns-then-not-has_gtids
returns-then-not-has_gtids c = adds_none _ _ (sym c.has_gtids.ensures ∙ c.if-not-has_gtids.true)

pub returns-in-Ok-Some : goal.returns-in-Ok-Some
returns-in-Ok-Some c =
    adds_data _ c.in-Ok-Some.data _ _ _ (sym c.has_gtids.ensures ∙ c.if-not-has_gtids.false) (rw c.in-Ok-Some.field-0-is at c.in-Ok-Some.ensures)
    c.add_event-added.ensures.ok c.add_event-added.ensures.bad c.add_event-added.ensures.err

pub returns-in-Err : goal.returns-in-Err
returns-in-Err c = adds_unread _ _ c.in-Err.error (sym c.has_gtids.ensures ∙ c.if-not-has_gtids.false) c.in-Err.ensures
