use Rattle.binlog_payload_filters.proofs.FilteredCopies.{filtered_copy}
use Rattle.binlog_payload_filters.proofs.laws.filtered_copies_are_logs.Goals as goal

pub returns : goal.returns
returns g c bytes old new tail_len all visited =
    filtered_copy (λ copier. g.W.Write.contents copier.output) bytes visited.stream visited.visited.items old new all visited.file visited.visited.are visited.visited.visited
