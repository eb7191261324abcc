use Rattle.binlog_filters.proofs.Patterns.{matches_exactly}
use Rattle.binlog_filters.proofs.laws.patterns_match.Goals as goal

pub returns : goal.returns
returns c = matches_exactly
