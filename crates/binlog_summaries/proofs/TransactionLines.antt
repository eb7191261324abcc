-- Lines of transactions that are written one behind the other.
use Rattle.std.proofs.Common.{◌≡◌, ℕ, suc, ◌+◌, ◌<◌, List, [], ◌∷◌, ◌++◌, codes, length, take, get_or, Option, Some, Result, OnOk, refl, sym, ap, subst, ◌∙◌, append_assoc, append-nil, arith}
use Rattle.std.specs.Prelude.{flat_map, slice_get, IfSome}
use Rattle.json.specs.Token.{Token}
use Rattle.std.specs.Io.KnownBytes.{Appends}
use Rattle.std.proofs.Math.Seq.{take-suc}
use Rattle.std.proofs.lemmas.List.{length-take-le}
use Rattle.change_statistics.proofs.WrittenTexts.{on_ok, appends_both, nothing_appended}
use Rattle.binlog_summaries.specs.StatsText.{Writes, number_line}
use Rattle.change_statistics.specs.Facts.{Name}
use Rattle.change_statistics.specs.Transactions.{Seen, duration_of}
use Rattle.change_statistics.specs.declared.event_counts.EventCounts.{EventCounts}
use Rattle.change_statistics.specs.declared.transaction.Transaction.{Transaction}
use Rattle.binlog_summaries.specs.TransactionText.{IsTransactionLine, IsTransactionText, AreTransactionTexts, IsTransactionsText, table_line, size_line, size_lines, places_text, gtid_text, counts_text, duration_text}
use Rattle.binlog_summaries.specs.TableText.{IsTimeOf}
use Rattle.change_statistics.proofs.WrittenLists.{taken_more, at_entry, flat_more}

lines_more : (transactions : List Transaction) (one : Transaction) (text line : List ℕ) → AreTransactionTexts transactions text → IsTransactionText one line
    → AreTransactionTexts (transactions ++ one ∷ []) (text ++ line)
lines_more [] one text line none is = (line, [], is, refl, ap (λ (t : List ℕ). t ++ line) none ∙ sym (append-nil line))
lines_more (first ∷ transactions) one text line (begun, rest, is_first, are, whole) is =
    (begun, rest ++ line, is_first, lines_more transactions one rest line are is, ap (λ (t : List ℕ). t ++ line) whole ∙ append_assoc begun rest line)

-- The one at an index is the next of the list.
next_taken : {X : Type 0} (xs : List X) (i : ℕ) (x : X) → i < length xs → x ≡ get_or xs i x → take (i + 1) xs ≡ take i xs ++ x ∷ []
next_taken {X} xs i x within is =
    let next : i + 1 ≡ suc i = omega arith in
    ap (λ (n : ℕ). take n xs) next ∙ take-suc xs i x within ∙ ap (λ (y : X). take i xs ++ y ∷ []) (sym is)

pub transaction_appended : (f : Transaction → List ℕ) (transactions : List Transaction) (i : ℕ) (one : Transaction) (old mid new : Option (List ℕ)) → i < length transactions → one ≡ get_or transactions i one
    → Appends old mid (flat_map f (take i transactions)) → Appends mid new (f one) → Appends old new (flat_map f (take (i + 1) transactions))
transaction_appended f transactions i one old mid new within is so_far line =
    subst (Appends old new) (sym (ap (flat_map f) (next_taken transactions i one within is) ∙ flat_more f (take i transactions) one))
    (appends_both old mid new (flat_map f (take i transactions)) (f one) so_far line)

pub no_transaction_written : (transactions : List Transaction) (old : Option (List ℕ)) → Writes (AreTransactionTexts (take 0 transactions)) old old
no_transaction_written transactions old = record { text = []; is = refl; appended = nothing_appended old }

pub transaction_written : (transactions : List Transaction) (i : ℕ) (one : Transaction) (old mid new : Option (List ℕ)) → i < length transactions → one ≡ get_or transactions i one
    → Writes (AreTransactionTexts (take i transactions)) old mid → Writes (IsTransactionText one) mid new → Writes (AreTransactionTexts (take (i + 1) transactions)) old new
transaction_written transactions i one old mid new within is so_far line = record {
  text = so_far.text ++ line.text;
  is = subst (λ (l : List Transaction). AreTransactionTexts l (so_far.text ++ line.text)) (sym (next_taken transactions i one within is)) (lines_more (take i transactions) one so_far.text line.text so_far.is line.is);
  appended = appends_both old mid new so_far.text line.text so_far.appended line.appended;
}

sizes_more : (class : ℕ) (counts : List ℕ) (count : ℕ) → size_lines class (counts ++ count ∷ []) ≡ size_lines class counts ++ size_line (class + length counts) count
sizes_more class [] count =
    let same : class + 0 ≡ class = omega arith in
    append-nil (size_line class count) ∙ ap (λ (n : ℕ). size_line n count) (sym same)
sizes_more class (first ∷ counts) count =
    let same : (class + 1) + length counts ≡ class + length (first ∷ counts) = omega arith in
    ap (λ (t : List ℕ). size_line class first ++ t) (sizes_more (class + 1) counts count ∙ ap (λ (n : ℕ). size_lines (class + 1) counts ++ size_line n count) same)
    ∙ sym (append_assoc (size_line class first) (size_lines (class + 1) counts) (size_line (class + length (first ∷ counts)) count))

-- The line of one class of sizes more.
pub size_written : (counts : List ℕ) (i : ℕ) (old mid new : Option (List ℕ)) → i < length counts → Appends old mid (size_lines 0 (take i counts)) → Appends mid new (size_line i (get_or counts i 0))
    → Appends old new (size_lines 0 (take (i + 1) counts))
size_written counts i old mid new within so_far one =
    let next : i + 1 ≡ suc i = omega arith in
    let long : 0 + length (take i counts) ≡ i = omega (arith, length-take-le i counts (omega arith)) in
    let more : size_lines 0 (take (i + 1) counts) ≡ size_lines 0 (take i counts) ++ size_line i (get_or counts i 0) =
    ap (size_lines 0) (ap (λ (n : ℕ). take n counts) next ∙ take-suc counts i 0 within) ∙ sizes_more 0 (take i counts) (get_or counts i 0)
    ∙ ap (λ (n : ℕ). size_lines 0 (take i counts) ++ size_line n (get_or counts i 0)) long in
    subst (Appends old new) (sym more) (appends_both old mid new (size_lines 0 (take i counts)) (size_line i (get_or counts i 0)) so_far one)

-- The parts of the line of a transaction.
pub whole_transaction : {T E : Type 0} (result : Result T E) (one : Transaction) (first last : List ℕ) (old places_end gtid_end counts_end first_end last_end new : Option (List ℕ))
    → IsTimeOf (codes " first ") (Some one.first_time) first → IsTimeOf (codes " last ") (Some one.last_time) last
    → Appends old places_end (places_text one) → Appends places_end gtid_end (gtid_text one.gtid) → Appends gtid_end counts_end (counts_text one.counts) → Appends counts_end first_end first → Appends first_end last_end last
    → OnOk result (Appends last_end new (duration_text (duration_of one))) → OnOk result (Writes (IsTransactionLine one) old new)
whole_transaction result one first last old places_end gtid_end counts_end first_end last_end new is_first is_last is_placed is_named is_counted is_begun is_ended end =
    let named : Appends old gtid_end (places_text one ++ gtid_text one.gtid) = appends_both old places_end gtid_end (places_text one) (gtid_text one.gtid) is_placed is_named in
    let counted : Appends old counts_end (places_text one ++ gtid_text one.gtid ++ counts_text one.counts) =
    appends_both old gtid_end counts_end (places_text one ++ gtid_text one.gtid) (counts_text one.counts) named is_counted in
    let before : Appends old last_end (places_text one ++ gtid_text one.gtid ++ counts_text one.counts ++ first ++ last) =
    appends_both old first_end last_end (places_text one ++ gtid_text one.gtid ++ counts_text one.counts ++ first) last
    (appends_both old counts_end first_end (places_text one ++ gtid_text one.gtid ++ counts_text one.counts) first counted is_begun) is_ended in
    on_ok result
    (λ (line_end : Appends last_end new (duration_text (duration_of one))). record {
      text = places_text one ++ gtid_text one.gtid ++ counts_text one.counts ++ first ++ last ++ duration_text (duration_of one);
      is = record { first = first; is_first = is_first; last = last; is_last = is_last; is = refl };
      appended = appends_both old last_end new (places_text one ++ gtid_text one.gtid ++ counts_text one.counts ++ first ++ last) (duration_text (duration_of one)) before line_end;
    })
    end

-- The parts of the whole text.
pub whole_text : {T E : Type 0} (result : Result T E) (seen : Seen) (old head_end sizes_end new : Option (List ℕ))
    → Appends old head_end (number_line (codes "transactions") seen.transactions) → Appends head_end sizes_end (size_lines 0 seen.sizes)
    → OnOk result (Writes (AreTransactionTexts seen.kept) sizes_end new) → OnOk result (Writes (IsTransactionsText seen) old new)
whole_text result seen old head_end sizes_end new head sizes lines =
    let above : Appends old sizes_end (number_line (codes "transactions") seen.transactions ++ size_lines 0 seen.sizes) =
    appends_both old head_end sizes_end (number_line (codes "transactions") seen.transactions) (size_lines 0 seen.sizes) head sizes in
    on_ok result
    (λ (written : Writes (AreTransactionTexts seen.kept) sizes_end new). record {
      text = number_line (codes "transactions") seen.transactions ++ size_lines 0 seen.sizes ++ written.text;
      is = (written.text, written.is, refl);
      appended = appends_both old sizes_end new (number_line (codes "transactions") seen.transactions ++ size_lines 0 seen.sizes) written.text above written.appended;
    })
    lines

-- The line of a transaction and those of its tables.
pub with_tables : {T E : Type 0} (result : Result T E) (one : Transaction) (old mid new : Option (List ℕ)) → Writes (IsTransactionLine one) old mid
    → OnOk result (Appends mid new (flat_map table_line one.tables.entries)) → OnOk result (Writes (IsTransactionText one) old new)
with_tables result one old mid new line tables =
    on_ok result
    (λ (appended : Appends mid new (flat_map table_line one.tables.entries)). record {
      text = line.text ++ flat_map table_line one.tables.entries;
      is = (line.text, line.is, refl);
      appended = appends_both old mid new line.text (flat_map table_line one.tables.entries) line.appended appended;
    })
    tables

-- The object of one table more.
pub table_added : (f : Name × EventCounts → List Token) (entries : List (Name × EventCounts)) (i : ℕ) (old mid new : List Token) → i < length entries → mid ≡ old ++ flat_map f (take i entries)
    → IfSome (slice_get entries i) (λ entry. new ≡ mid ++ f entry) → new ≡ old ++ flat_map f (take (i + 1) entries)
table_added f entries i old mid new within so_far one =
    let found = at_entry entries i (λ (entry : Name × EventCounts). new ≡ mid ++ f entry) within one in
    found.2 ∙ ap (λ (l : List Token). l ++ f found.0) so_far ∙ append_assoc old (flat_map f (take i entries)) (f found.0)
    ∙ ap (λ (l : List Token). old ++ l) (sym (ap (flat_map f) (taken_more entries i found.0 found.1) ∙ flat_more f (take i entries) found.0))
