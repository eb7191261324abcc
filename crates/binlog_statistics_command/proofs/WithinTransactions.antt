-- The transactions that are counted are those of the events within them.
use Rattle.std.proofs.Common.{◌≡◌, ℕ, ◌+◌, Bool, true, false, cond, List, [], ◌∷◌, Option, Some, None, Result, Ok, Err, refl, sym, ap, ◌∙◌, subst}
use Rattle.binlog_wire.specs.declared.error.Error.{Error}
use Rattle.binlog_event_format.specs.Headers.{header_of}
use Rattle.binlog_file.specs.Events.{EventView}
use Rattle.binlog_file.specs.TableMapsInForce.{TableMaps}
use Rattle.binlog_visits.specs.TableMaps.{maps_behind}
use Rattle.binlog_visits.specs.Visits.{VisitRelation, Visits}
use Rattle.binlog_filters.specs.Taking.{begins_transaction, is_of_log}
use Rattle.binlog_statistics.specs.ItemFacts.{AreFactsIf, IsFact}
use Rattle.binlog_statistics.specs.declared.counter.Counter.{Counter}
use Rattle.change_statistics.specs.Facts.{Fact}
use Rattle.change_statistics.specs.Transactions.{Seen, SeesAll, added, begun, ended, none_seen, seen_by, with_current}
use Rattle.change_statistics.specs.WholeTransactions.{AreTransactionStats}
use Rattle.change_statistics.specs.declared.transaction.Transaction.{Transaction}
use Rattle.change_statistics.specs.declared.transaction_stats.TransactionStats.{TransactionStats}
use Rattle.change_statistics.proofs.HeldTransactions.{all_transactions}
use Rattle.binlog_statistics_command.specs.TransactionStatistics.{CountsBy, CountsTransactions}
use Rattle.binlog_statistics_command.specs.WithinTransactions.{AreFactsWithin, AreOfTransactions, is_within, within_by}
use Rattle.binlog_statistics_command.specs.declared.transaction_counter.TransactionCounter.{TransactionCounter}

abbrev Item : Type 0
Item = Result EventView Error

abbrev pub Counts : VisitRelation TransactionCounter
Counts old maps index item new = CountsTransactions old.counter maps item new.counter

-- ---- where no transaction has begun

abbrev seen_as : Option Transaction → (transactions limit : ℕ) → List Transaction → List ℕ → Seen
seen_as current transactions limit kept sizes = record { current = current; transactions = transactions; limit = limit; kept = kept; sizes = sizes }

ended_again : (current : Option Transaction) (n limit : ℕ) (kept : List Transaction) (sizes : List ℕ) → ended (ended (seen_as current n limit kept sizes)) ≡ ended (seen_as current n limit kept sizes)
ended_again None n limit kept sizes = refl
ended_again (Some t) n limit kept sizes = refl

ended_twice : (seen : Seen) → ended (ended seen) ≡ ended seen
ended_twice seen = ended_again seen.current seen.transactions seen.limit seen.kept seen.sizes

none_goes_on : (current : Option Transaction) (n limit : ℕ) (kept : List Transaction) (sizes : List ℕ) (fact : Fact)
    → with_current (ended (seen_as current n limit kept sizes)) fact ≡ ended (seen_as current n limit kept sizes)
none_goes_on None n limit kept sizes fact = refl
none_goes_on (Some t) n limit kept sizes fact = refl

idle : (seen : Seen) (fact : Fact) → with_current (ended seen) fact ≡ ended seen
idle seen fact = none_goes_on seen.current seen.transactions seen.limit seen.kept seen.sizes fact

-- ---- one event more

abbrev begun_in : Fact → Seen → Seen
begun_in fact seen = record seen { current = Some (begun fact) }

begins_now : (fact : Fact) (seen : Seen) → fact.begins ≡ true → added seen fact ≡ begun_in fact (ended seen)
begins_now fact seen is = ap (λ (b : Bool). cond b (begun_in fact (ended seen)) (with_current seen fact)) is

goes_on : (fact : Fact) (seen : Seen) → fact.begins ≡ false → added seen fact ≡ with_current seen fact
goes_on fact seen is = ap (λ (b : Bool). cond b (begun_in fact (ended seen)) (with_current seen fact)) is

begun_alike : (fact : Fact) (told seen : Seen) → fact.begins ≡ true → ended told ≡ ended seen → added told fact ≡ added seen fact
begun_alike fact told seen is same = begins_now fact told is ∙ ap (begun_in fact) same ∙ sym (begins_now fact seen is)

begins_as : (maps : TableMaps) (event : EventView) (fact : Fact) → IsFact maps event fact → fact.begins ≡ begins_transaction (header_of event.frame).event_type
begins_as maps event fact is = ap (λ (f : Fact). f.begins) is.4

-- ---- what is told of the events within transactions

-- In a transaction the same is seen; outside of one the last one has ended.
abbrev Links : (was : Bool) → (told seen : Seen) → Type 0
Links true told seen = told ≡ seen
Links false told seen = ended told ≡ seen

ends_alike : (was : Bool) (told seen : Seen) → Links was told seen → ended told ≡ ended seen
ends_alike true told seen same = ap ended same
ends_alike false told seen same = sym (ended_twice told) ∙ ap ended same

record Step (within : Bool) (maps : TableMaps) (item : Item) (told seen : Seen) : Type 0 where
  next : Seen
  links : Links within next seen
  adds : (others : List Fact) (end : Seen) → SeesAll others next end → (facts : List Fact) × AreFactsIf within maps item others facts × SeesAll facts told end

no_facts : (was : Bool) (maps : TableMaps) (error : Error) (others : List Fact) → AreFactsIf was maps (Err error) others others
no_facts true maps error others = refl
no_facts false maps error others = refl

event_step : (of_log begins was : Bool) (maps : TableMaps) (event : EventView) (told : Seen) (old new : Counter TransactionStats) → begins_transaction (header_of event.frame).event_type ≡ begins
    → Links was told (seen_by old.stats) → CountsBy of_log old maps (Ok event) new → Step (within_by of_log begins was) maps (Ok event) told (seen_by new.stats)
event_step true begins was maps event told old new is links one = record {
  next = told;
  links = ends_alike was told (seen_by old.stats) links ∙ sym one.0;
  adds = λ others end sees. (others, refl, sees);
}
event_step false true was maps event told old new is links ((fact, said, saw), place) = record {
  next = added told fact;
  links = begun_alike fact told (seen_by old.stats) (begins_as maps event fact said ∙ is) (ends_alike was told (seen_by old.stats) links) ∙ sym saw;
  adds = λ others end sees. (fact ∷ others, (fact, said, refl), (added told fact, refl, sees));
}
event_step false false true maps event told old new is links ((fact, said, saw), place) = record {
  next = added told fact;
  links = ap (λ (s : Seen). added s fact) links ∙ sym saw;
  adds = λ others end sees. (fact ∷ others, (fact, said, refl), (added told fact, refl, sees));
}
event_step false false false maps event told old new is links ((fact, said, saw), place) = record {
  next = told;
  links = sym (idle told fact) ∙ ap (λ (s : Seen). with_current s fact) links ∙ sym (goes_on fact (seen_by old.stats) (begins_as maps event fact said ∙ is)) ∙ sym saw;
  adds = λ others end sees. (others, refl, sees);
}

item_step : (was : Bool) (maps : TableMaps) (item : Item) (told : Seen) (old new : Counter TransactionStats) → Links was told (seen_by old.stats) → CountsTransactions old maps item new
    → Step (is_within was item) maps item told (seen_by new.stats)
item_step was maps (Ok event) told old new links one =
    event_step (is_of_log (header_of event.frame).event_type) (begins_transaction (header_of event.frame).event_type) was maps event told old new refl links one
item_step was maps (Err error) told old new links (same, place) = record {
  next = told;
  links = subst (λ (s : TransactionStats). Links was told (seen_by s)) (sym same) links;
  adds = λ others end sees. (others, no_facts was maps error others, sees);
}

record Told (was : Bool) (maps : TableMaps) (items : List Item) (told seen : Seen) : Type 0 where
  facts : List Fact
  are : AreFactsWithin was maps items facts
  end : Seen
  sees : SeesAll facts told end
  ends : ended end ≡ ended seen

all_told : (was : Bool) (maps : TableMaps) (index : ℕ) (items : List Item) (told : Seen) (old new : TransactionCounter) → Links was told (seen_by old.counter.stats) → Visits Counts maps index items old new
    → Told was maps items told (seen_by new.counter.stats)
all_told was maps index [] told old new links same = record {
  facts = [];
  are = refl;
  end = told;
  sees = refl;
  ends = ends_alike was told (seen_by old.counter.stats) links ∙ ap (λ (c : TransactionCounter). ended (seen_by c.counter.stats)) (sym same);
}
all_told was maps index (item ∷ items) told old new links (mid, one, visited) =
    let first = item_step was (maps_behind maps item) item told old.counter mid.counter links one in
    let rest = all_told (is_within was item) (maps_behind maps item) (index + 1) items first.next mid new first.links visited in
    let all = first.adds rest.facts rest.end rest.sees in
    record { facts = all.0; are = (rest.facts, rest.are, all.1); end = rest.end; sees = all.2; ends = rest.ends }

pub all_within : (limit : ℕ) (maps : TableMaps) (items : List Item) (old new : TransactionCounter) → seen_by old.counter.stats ≡ none_seen limit → Visits Counts maps 0 items old new
    → AreOfTransactions limit maps items (ended (seen_by new.counter.stats))
all_within limit maps items old new none visited =
    let told = all_told false maps 0 items (none_seen limit) old new (sym none) visited in
    record {
      facts = told.facts;
      within = told.are;
      counted = subst (AreTransactionStats limit told.facts) told.ends (all_transactions limit told.facts told.end told.sees);
    }
