use Rattle.std.proofs.Common.{Ok, Err, rules}
use Rattle.std.proofs.lemmas.Result.{err_from_is_err_and}
use Rattle.binlog_gtid_listing.proofs.Tracked.{gtids_stop, gtids_listed}
use Rattle.binlog_gtid_listing.proofs.listing.list_gtids_counted.Goals as goal

pub returns-in_err-write_groups-in-Ok-clause-lists : goal.returns-in_err-write_groups-in-Ok-clause-lists
returns-in_err-write_groups-in-Ok-clause-lists g c =
    let p = err_from_is_err_and c.from_residual.result c.from_residual.ensures.1 in
    rw (p.1, p.2)
    (gtids_listed _ _ (λ l. l.gtids) (λ l. g.W.WriteCounted.contents l.output.now) (λ l. l.has_errors) (λ old maps index item new does. does) (λ old maps index item error new none. none.0.1)
    _ _ _ _ _ _ _ (Err c.in_err-write_groups-in-Ok.field-0.0) (search rules) (search rules) (search rules) (search rules) c.in_err-write_groups-in-Ok.ensures.groups c.in_err-write_groups-in-Ok.ensures.written
    c.in-Ok.ensures.visits)

pub returns-in-Ok-clause-lists : goal.returns-in-Ok-clause-lists
returns-in-Ok-clause-lists g c =
    gtids_listed _ _ (λ l. l.gtids) (λ l. g.W.WriteCounted.contents l.output.now) (λ l. l.has_errors) (λ old maps index item new does. does) (λ old maps index item error new none. none.0.1)
    _ _ _ _ _ _ _ (Ok tt) (search rules) (search rules) (search rules) (search rules) c.in_ok-write_groups-in-Ok.ensures.groups c.in_ok-write_groups-in-Ok.ensures.written
    c.in-Ok.ensures.visits

pub returns-clause-lists : goal.returns-clause-lists
returns-clause-lists g c =
    gtids_stop _ _ (λ l. l.gtids) (λ l. g.W.WriteCounted.contents l.output.now) (λ l. l.has_errors) (λ old maps index item new does. does) (λ old maps index item error new none. none.0.1)
    _ _ _ c.in-Err.error _ _ (search rules) (search rules) c.in-Err.ensures.visits
