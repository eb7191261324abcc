use Rattle.std.proofs.Common.{◌≡◌, Bool, Err, refl, ap}
use Rattle.binlog_filters.proofs.PassedOn.{refused_on}
use Rattle.binlog_filters.specs.Taking.{wants_behind}
use Rattle.binlog_filters.specs.declared.state.FilterState.{FilterState}
use Rattle.binlog_filters.proofs.filtered.FilteredVisitor.visit_error.Goals as goal

pub returns-clause-err : goal.returns-clause-err
returns-clause-err g c =
    let old = c.args.self.now in
    let state : FilterState = old.state in
    let wanted : record state { is_wanted = c.wants_behind-self.result } ≡ record state { is_wanted = wants_behind old.filter state.is_wanted c.args.error.now } =
    ap (λ (w : Bool). record state { is_wanted = w }) (rw c.filter.ensures at c.wants_behind-self.ensures)
    in
    refused_on c.visit_error.result g.T.Visitor.refuses old _ c.args.index (Err c.args.error.now) _ (wanted, refl) refl c.behind_error-self.ensures c.visit_error.ensures.err
