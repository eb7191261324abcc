use Rattle.std.proofs.Common.{◌≡◌, ℕ, List, ◌++◌, ap, sym, ◌∙◌}
use Rattle.binlog_summaries.proofs.UnitCounts.{count_of}
use Rattle.binlog_summaries.proofs.intervals.seconds_with.Goals as goal

pub returns-in-Some : goal.returns-in-Some
returns-in-Some c =
    let cases = c.in-Some.ensures.cases in
    let is : c.args.length.now ≡ c.in-Some.count.now ++ c.args.letter.now = cases.1.1 ∙ ap (λ (front : List ℕ). front ++ c.args.letter.now) (sym cases.2) in
    count_of c.args.letter.now c.args.unit c.args.length.now c.in-Some.count.now is c.seconds_of.result c.seconds_of.ensures
