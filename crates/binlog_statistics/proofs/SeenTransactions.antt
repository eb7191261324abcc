-- Transactions that are seen one event after another.
use Rattle.std.proofs.Common.{◌≡◌, ℕ, List, [], ◌∷◌, ap, subst}
use Rattle.change_statistics.specs.Counting.{AddsEach}
use Rattle.change_statistics.specs.Facts.{Fact}
use Rattle.change_statistics.specs.Transactions.{Seen, seen_by, none_seen, ended, SeesEvent, SeesAll}
use Rattle.change_statistics.specs.WholeTransactions.{AreTransactionStats}
use Rattle.change_statistics.specs.declared.transaction_stats.TransactionStats.{TransactionStats}
use Rattle.change_statistics.proofs.HeldTransactions.{all_transactions}

abbrev pub Sees : TransactionStats → Fact → TransactionStats → Type 0
Sees old fact new = SeesEvent (seen_by old) fact (seen_by new)

sees_all : (facts : List Fact) (old new : TransactionStats) → AddsEach Sees facts old new → SeesAll facts (seen_by old) (seen_by new)
sees_all [] old new same = ap seen_by same
sees_all (fact ∷ facts) old new (mid, sees, rest) = (seen_by mid, sees, sees_all facts mid new rest)

pub all_seen : (limit : ℕ) (facts : List Fact) (old new : TransactionStats) → seen_by old ≡ none_seen limit → AddsEach Sees facts old new → AreTransactionStats limit facts (ended (seen_by new))
all_seen limit facts old new none added =
    all_transactions limit facts (seen_by new) (subst (λ (s : Seen). SeesAll facts s (seen_by new)) none (sees_all facts old new added))
