use Rattle.std.specs.Fn.{FnReturnsAt}
use Rattle.std.proofs.Common.{ℕ, List, rules}
use Rattle.binlog_file.specs.Verifications.{HandlesVerified}
use Rattle.binlog_visits.specs.Places.{LeavesVerified}
use Rattle.binlog_visits.proofs.Listed.{visits_listed}
use Rattle.binlog_visits.proofs.listing.list_verified_counted.Goals as goal

pub returns-clause-lists : goal.returns-clause-lists
returns-clause-lists g c =
    let gives : List ℕ → ℕ → Type 0 = λ bytes checksum. FnReturnsAt g.F.Fn c.args.f bytes checksum in
    rw (c.listed.ensures, c.has_errors-has_errors.ensures)
    (visits_listed _ _ (λ w. g.W.WriteCounted.contents w.output.now) (λ w. w.has_errors) g.L.ItemLines.line g.L.ItemLines.takes (λ old maps index item new does. does)
    (λ old maps index item error new none. none.0) (HandlesVerified gives) (LeavesVerified gives) _ _ _ _ _ _ (search rules) (search rules) (search rules) c.visit_verified_counted-answer.ensures.visits)
