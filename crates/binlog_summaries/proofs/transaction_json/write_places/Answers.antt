use Rattle.std.proofs.Common.{◌≡◌, List, ◌++◌, codes, append_assoc}
use Rattle.json.specs.Token.{Token}
use Rattle.change_statistics.specs.Transactions.{duration_of}
use Rattle.change_statistics.specs.declared.transaction.Transaction.{Transaction}
use Rattle.binlog_summaries.specs.JsonLines.{number_member, time_member}
use Rattle.binlog_summaries.specs.TransactionJson.{position_member, places_members}
use Rattle.binlog_summaries.proofs.transaction_json.write_places.Goals as goal

-- Members that are written one behind the other.
five_added : (a b c d e old n m l k new : List Token) → n ≡ old ++ a → m ≡ n ++ b → l ≡ m ++ c → k ≡ l ++ d → new ≡ k ++ e → new ≡ old ++ (a ++ b ++ c ++ d ++ e)
five_added a b c d e old n m l k new first second third fourth fifth = rw (fifth, fourth, third, second, first) (simp append_assoc)

places_added : (t : Transaction) (old n m l k new : List Token) → n ≡ old ++ position_member t.begin_position → m ≡ n ++ number_member (codes "end_position") t.end_position
    → l ≡ m ++ number_member (codes "first_time") t.first_time → k ≡ l ++ number_member (codes "last_time") t.last_time → new ≡ k ++ time_member (codes "duration") (duration_of t)
    → new ≡ old ++ places_members t
places_added t old n m l k new =
    five_added (position_member t.begin_position) (number_member (codes "end_position") t.end_position) (number_member (codes "first_time") t.first_time)
    (number_member (codes "last_time") t.last_time) (time_member (codes "duration") (duration_of t)) old n m l k new

pub returns : goal.returns
returns c =
    let lasts = rw c.duration.ensures at c.in_ok-write_time.ensures in
    places_added c.args.transaction.now c.args.line.now _ _ _ _ _ c.in_ok-write_position.ensures c.in_ok-number_member.ensures.added c.in_ok-number_member-2.ensures.added
    c.in_ok-number_member-3.ensures.added lasts
