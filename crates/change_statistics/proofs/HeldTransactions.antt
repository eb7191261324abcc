-- The statistics by transaction, event by event.
use Rattle.std.proofs.Common.{◌≡◌, ℕ, zero, suc, ◌+◌, ◌<◌, Bool, true, false, cond, List, [], ◌∷◌, length, take, Option, Some, None, refl, sym, ap, subst, ◌∙◌, arith}
use Rattle.std.specs.Prelude.{count_by, slice_index, replicate}
use Rattle.std.proofs.lemmas.List.{length-set}
use Rattle.std.proofs.lemmas.List.Sums.{sum_by-cons}
use Rattle.change_statistics.specs.Facts.{Rows, Fact}
use Rattle.change_statistics.specs.Counting.{saturated, counted}
use Rattle.change_statistics.specs.Transactions.{begun, extended, class_of, kept_with, sizes_with, Seen, none_seen, counted_one, ended, added, SeesAll}
use Rattle.change_statistics.specs.WholeCounts.{until_begin, transactions_in}
use Rattle.change_statistics.specs.WholeTransactions.{is_of_class, AreLargest, AreTransactionStats}
use Rattle.change_statistics.specs.declared.transaction.Transaction.{Transaction}
use Rattle.change_statistics.proofs.MoreCounted.{counted_more, counted_if_more}
use Rattle.change_statistics.proofs.GrownTransactions.{grown, all_of, all_are, AreSmall, all_small}
use Rattle.change_statistics.proofs.SizeClasses.{sizes_more}
use Rattle.change_statistics.proofs.SortedTransactions.{inserted, all_inserted, kept_is, taken_inserted, first_are_largest}

-- ---- which transactions are counted

abbrev seen_as : Option Transaction → (transactions limit : ℕ) → List Transaction → List ℕ → Seen
seen_as current transactions limit kept sizes = record { current = current; transactions = transactions; limit = limit; kept = kept; sizes = sizes }

-- These are counted one after another.
abbrev all_counted_in : List Transaction → Seen → Seen
all_counted_in [] seen = seen
all_counted_in (transaction ∷ transactions) seen = all_counted_in transactions (counted_one transaction seen)

-- The transactions of events, behind one that has begun, if there is one.
abbrev all_behind : Option Transaction → List Fact → List Transaction
all_behind None events = all_of events
all_behind (Some transaction) events = grown transaction (until_begin events) ∷ all_of events

-- All are counted, when the last one has ended.
all_seen : (events : List Fact) (current : Option Transaction) (n limit : ℕ) (kept : List Transaction) (sizes : List ℕ) (new : Seen) → SeesAll events (seen_as current n limit kept sizes) new
    → ended new ≡ all_counted_in (all_behind current events) (seen_as None n limit kept sizes)
all_seen [] None n limit kept sizes new same = ap ended same
all_seen [] (Some transaction) n limit kept sizes new same = ap ended same
all_seen (event ∷ events) current n limit kept sizes new (mid, is, rest) =
    by event.begins event.gtid event.bytes event.size event.end event.time event.rows current is
    (λ c m k z same. all_seen events c m limit k z new (subst (λ (s : Seen). SeesAll events s new) same rest))
  where
    by : (b : Bool) (gtid : List ℕ) (bytes size end time : ℕ) (said : Rows) (o : Option Transaction)
        → mid ≡ added (seen_as o n limit kept sizes) (record { begins = b; gtid = gtid; bytes = bytes; size = size; end = end; time = time; rows = said })
        → ((c : Option Transaction) (m : ℕ) (k : List Transaction) (z : List ℕ) → mid ≡ seen_as c m limit k z → ended new ≡ all_counted_in (all_behind c events) (seen_as None m limit k z))
        → ended new ≡ all_counted_in (all_behind o (record { begins = b; gtid = gtid; bytes = bytes; size = size; end = end; time = time; rows = said } ∷ events)) (seen_as None n limit kept sizes)
    by true gtid bytes size end time said None same others = others (Some (begun (record { begins = true; gtid = gtid; bytes = bytes; size = size; end = end; time = time; rows = said }))) n kept sizes same
    by true gtid bytes size end time said (Some t) same others =
        others (Some (begun (record { begins = true; gtid = gtid; bytes = bytes; size = size; end = end; time = time; rows = said }))) (counted n 1) (kept_with limit t kept) (sizes_with t.counts.bytes sizes) same
    by false gtid bytes size end time said None same others = others None n kept sizes same
    by false gtid bytes size end time said (Some t) same others =
        others (Some (extended t (record { begins = false; gtid = gtid; bytes = bytes; size = size; end = end; time = time; rows = said }))) n kept sizes same

-- ---- what is counted of them

counted_transactions : (transactions : List Transaction) (seen : Seen) (n : ℕ) → seen.transactions ≡ saturated n → (all_counted_in transactions seen).transactions ≡ saturated (n + length transactions)
counted_transactions [] seen n was = was ∙ ap saturated (omega arith)
counted_transactions (transaction ∷ transactions) seen n was =
    let long : (n + 1) + length transactions ≡ n + length (transaction ∷ transactions) = omega arith in
    counted_transactions transactions (counted_one transaction seen) (n + 1) (counted_more seen.transactions n 1 was) ∙ ap saturated long

kept_transactions : (transactions : List Transaction) (seen : Seen) (sorted : List Transaction) → seen.kept ≡ take seen.limit sorted
    → (all_counted_in transactions seen).kept ≡ take seen.limit (all_inserted transactions sorted)
kept_transactions [] seen sorted was = was
kept_transactions (transaction ∷ transactions) seen sorted was =
    kept_transactions transactions (counted_one transaction seen) (inserted transaction sorted)
    (kept_is seen.limit transaction seen.kept ∙ ap (λ (l : List Transaction). take seen.limit (inserted transaction l)) was ∙ taken_inserted seen.limit transaction sorted)

counted_sizes : (class : ℕ) → class < 65 → (transactions : List Transaction) (seen : Seen) (n : ℕ) → AreSmall transactions → length seen.sizes ≡ 65 → slice_index seen.sizes class ≡ saturated n
    → slice_index (all_counted_in transactions seen).sizes class ≡ saturated (n + count_by (is_of_class class) transactions)
counted_sizes class small [] seen n fit long was = was ∙ ap saturated (omega arith)
counted_sizes class small (transaction ∷ transactions) seen n (fits, rest) long was =
    let one : ℕ = cond (is_of_class class transaction) 1 0 in
    let more : count_by (is_of_class class) (transaction ∷ transactions) ≡ cond (is_of_class class transaction) 1 0 + count_by (is_of_class class) transactions =
    sum_by-cons (λ (t : Transaction). cond (is_of_class class t) 1 0) transaction transactions in
    let sum : (n + cond (is_of_class class transaction) 1 0) + count_by (is_of_class class) transactions ≡ n + count_by (is_of_class class) (transaction ∷ transactions) = omega (arith, more) in
    counted_sizes class small transactions (counted_one transaction seen) (n + cond (is_of_class class transaction) 1 0) rest
    (length-set seen.sizes (class_of transaction.counts.bytes) (counted (slice_index seen.sizes (class_of transaction.counts.bytes)) 1) ∙ long)
    (sizes_more class transaction.counts.bytes seen.sizes small fits long ∙ counted_if_more (is_of_class class transaction) (slice_index seen.sizes class) n was)
    ∙ ap saturated sum

all_none : (n class : ℕ) → slice_index (replicate n 0) class ≡ 0
all_none zero class = refl
all_none (suc n) zero = refl
all_none (suc n) (suc class) = all_none n class

take_none : (n : ℕ) (none : List Transaction) → none ≡ [] → take n none ≡ none
take_none zero none is = sym is
take_none (suc n) none is = rw is refl

-- ---- all

pub all_transactions : (limit : ℕ) (events : List Fact) (seen : Seen) → SeesAll events (none_seen limit) seen → AreTransactionStats limit events (ended seen)
all_transactions limit events seen saw =
    let all : ended seen ≡ all_counted_in (all_of events) (none_seen limit) = all_seen events None 0 limit [] (replicate 65 0) seen saw in
    record {
      all = all_of events;
      are = all_are events;
      transactions = ap (λ (s : Seen). s.transactions) all ∙ counted_transactions (all_of events) (none_seen limit) 0 refl ∙ ap saturated (omega arith);
      largest =
          subst (AreLargest limit (all_of events)) (sym (ap (λ (s : Seen). s.kept) all ∙ kept_transactions (all_of events) (none_seen limit) [] (sym (take_none limit [] refl))))
          (first_are_largest limit (all_of events));
      sizes = λ class small.
          ap (λ (s : Seen). slice_index s.sizes class) all
          ∙ counted_sizes class small (all_of events) (none_seen limit) 0 (all_small (transactions_in events) (all_of events) (all_are events)) refl (all_none 65 class)
          ∙ ap saturated (omega arith);
    }
