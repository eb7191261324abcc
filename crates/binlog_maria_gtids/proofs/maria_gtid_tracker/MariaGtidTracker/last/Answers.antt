use Rattle.std.proofs.Common.{◌≡◌, ◌∙◌, get_or, Some, ap, subst, sym, rules, ℕ}
use Rattle.binlog_mariadb.specs.declared.maria_gtid.MariaGtid.{MariaGtid}
use Rattle.binlog_maria_gtids.specs.LastGtids.{origin, AreAscending, IsAt, IsGapFor}
use Rattle.binlog_maria_gtids.proofs.LastGtids.{found_at, not_found}
use Rattle.binlog_maria_gtids.proofs.maria_gtid_tracker.MariaGtidTracker.last.Goals as goal

pub returns-in-Ok : goal.returns-in-Ok
returns-in-Ok c =
    let are : AreAscending c.args.self.now = subst AreAscending c.self.view_is c.self.invariant in
    let is : IsAt c.args.self.now (origin c.args.domain c.args.server_id) c.in-Ok.at = search rules in
    let there : get_or c.args.self.now c.in-Ok.at c.index.result.now ≡ c.index.result.now = search rules in
    ap (λ (n : ℕ). Some n) c.sequence.ensures ∙ sym (found_at c.args.self.now are (origin c.args.domain c.args.server_id) c.in-Ok.at is c.index.result.now ∙ ap (λ (g : MariaGtid). Some g.sequence) there)

pub returns-in-Err : goal.returns-in-Err
returns-in-Err c =
    let gap : IsGapFor c.args.self.now (origin c.args.domain c.args.server_id) c.in-Err.field-0 = search rules in
    sym (not_found c.args.self.now (origin c.args.domain c.args.server_id) c.in-Err.field-0 gap)
