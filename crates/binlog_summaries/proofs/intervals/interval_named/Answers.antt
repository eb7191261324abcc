use Rattle.std.proofs.Common.{◌≡◌, ℕ, List, ◌++◌, codes, ap, sym, ◌∙◌}
use Rattle.binlog_summaries.proofs.UnitCounts.{interval_of}
use Rattle.binlog_summaries.proofs.intervals.interval_named.Goals as goal

pub returns-in-Some : goal.returns-in-Some
returns-in-Some c =
    let cases = c.in-Some.ensures.cases in
    let is : c.args.name.now ≡ codes "time=" ++ c.in-Some.length.now = cases.1.1 ∙ ap (λ (rest : List ℕ). codes "time=" ++ rest) (sym cases.2) in
    interval_of c.args.name.now c.in-Some.length.now is c.seconds_in.result c.seconds_in.ensures
