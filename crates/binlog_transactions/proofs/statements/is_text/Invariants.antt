use Rattle.std.proofs.Common.{◌≡◌, length}
use Rattle.binlog_transactions.specs.Statements.{is_text}
use Rattle.binlog_transactions.proofs.statements.is_text.Given as goal

abbrev pub invariant-bytes : goal.invariant-bytes
invariant-bytes l = is_text l.left l.wanted ≡ is_text l.text l.whole

abbrev pub decreases-bytes : goal.decreases-bytes
decreases-bytes l = length l.wanted
