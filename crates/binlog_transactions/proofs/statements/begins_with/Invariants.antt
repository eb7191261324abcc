use Rattle.std.proofs.Common.{◌≡◌, length}
use Rattle.binlog_transactions.specs.Statements.{begins_with}
use Rattle.binlog_transactions.proofs.statements.begins_with.Given as goal

abbrev pub invariant-bytes : goal.invariant-bytes
invariant-bytes l = begins_with l.left l.wanted ≡ begins_with l.text l.prefix

abbrev pub decreases-bytes : goal.decreases-bytes
decreases-bytes l = length l.wanted
