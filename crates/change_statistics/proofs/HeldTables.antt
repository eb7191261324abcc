-- The statistics by table, fact by fact.
use Rattle.std.proofs.Common.{◌≡◌, ℕ, ◌+◌, ◌-◌, ◌^◌, ◌<◌, ◌≤◌, inl, inr, Bool, true, false, cond, ◌&&◌, ◌||◌, not, ltb, List, [], ◌∷◌, ◌++◌, length, Option, Some, None, refl, sym, ap, subst, ◌∙◌, arith, append_assoc, append-nil}
use Rattle.std.specs.Prelude.{filter, count_by, sum_by, slice_get, option_map, unwrap_or, is_some, is_none, MatchOption, ◌≢◌}
use Rattle.std.proofs.lemmas.List.{length_push}
use Rattle.std.proofs.lemmas.List.Sums.{sum_by_push}
use Rattle.std.proofs.lemmas.Bool.Decides.{nat_tests}
use Rattle.change_statistics.specs.Facts.{Name, Rows, nothing, unknown, rows, Fact}
use Rattle.change_statistics.specs.Names.{name_eq}
use Rattle.change_statistics.specs.Counting.{saturated, counted, counted_if, rows_as}
use Rattle.change_statistics.specs.Tables.{no_counts, with_rows, counts_named, AreEmpty, AddsRows, AddsChange, Adds, AddsAll}
use Rattle.change_statistics.specs.WholeCounts.{is_of, begins, size, time, rows_in, is_unread, is_unknown, of_table, sizes_of, transactions_in, touches}
use Rattle.change_statistics.specs.WholeTables.{AreTableCounts, AreTableStats}
use Rattle.change_statistics.specs.declared.facts.ChangeKind.{ChangeKind}
use Rattle.change_statistics.specs.declared.facts.ChangeKind.TheVariants.{Inserted, Updated, Deleted}
use Rattle.change_statistics.specs.declared.table_counts.TableCounts.{TableCounts}
use Rattle.change_statistics.specs.declared.table_counts.UnknownRows.{UnknownRows}
use Rattle.change_statistics.specs.declared.tables.TableStats.{TableStats}
use Rattle.change_statistics.proofs.MoreCounted.{counted_more, counted_if_more, count_more, filter_more, filter_same, first_more, last_more}
use Rattle.change_statistics.proofs.Transactions.{is_open, touching_more, open_more}
use Rattle.change_statistics.proofs.NamedTables.{same_name, own_name}

-- ---- booleans and numbers

and_false : (b : Bool) → (b && false) ≡ false
and_false true = refl
and_false false = refl

and_true : (b : Bool) → (b && true) ≡ b
and_true true = refl
and_true false = refl

-- Behind one fact more the transaction is another one than the last that was counted, exactly if no event of this one was counted.
opened : (b : Bool) (transactions n last : ℕ) (is : Bool) → transactions ≡ saturated n → last ≤ transactions → n + cond b 1 0 < 2 ^ 64 → (n < 2 ^ 64 → ltb last transactions ≡ is)
    → ltb last (counted_if b transactions) ≡ (b || is)
opened true transactions n last is was within small tells =
    let next : counted transactions 1 ≡ transactions + 1 = omega arith in
    rw next (grind (arith, nat_tests))
opened false transactions n last is was within small tells = tells (omega arith)

grows : (b : Bool) (transactions n last : ℕ) → transactions ≡ saturated n → last ≤ transactions → last ≤ counted_if b transactions
grows true transactions n last was within = omega arith
grows false transactions n last was within = within

no_fewer : (b : Bool) (n m : ℕ) → m ≡ n + cond b 1 0 → m < 2 ^ 64 → n < 2 ^ 64
no_fewer true n m is small = omega arith
no_fewer false n m is small = omega arith

not_itself : (n : ℕ) → ltb n n ≡ false
not_itself n = grind (arith, nat_tests)

positive : (n : ℕ) → ltb 0 (n + 1) ≡ true
positive n = grind (arith, nat_tests)

not_nil : (x : Fact) (l : List Fact) → x ∷ l ≡ [] → ⊥
not_nil x l none = cc

-- ---- one table

-- The counts are those of the facts, and tell whether the transaction in which these end has been counted.
pub record IsHeld (facts : List Fact) (name : Name) (transactions : ℕ) (counts : TableCounts) : Type 0 where
  pub all : AreTableCounts facts name counts
  pub within : counts.last_transaction ≤ transactions
  pub last : count_by begins facts < 2 ^ 64 → ltb counts.last_transaction transactions ≡ is_open name facts

module _ (facts : List Fact) (fact : Fact) (name : Name) (transactions : ℕ) (counts : TableCounts) (are : transactions ≡ saturated (count_by begins facts)) (was : IsHeld facts name transactions counts) where
  abbrev Next : ℕ
  Next = counted_if fact.begins transactions

  abbrev All : List Fact
  All = facts ++ fact ∷ []

  begun : count_by begins All ≡ count_by begins facts + cond fact.begins 1 0
  begun = count_more begins facts fact

  fewer : count_by begins All < 2 ^ 64 → count_by begins facts < 2 ^ 64
  fewer small = no_fewer fact.begins (count_by begins facts) (count_by begins All) begun small

  is_opened : count_by begins All < 2 ^ 64 → ltb counts.last_transaction Next ≡ (fact.begins || is_open name facts)
  is_opened small =
      opened fact.begins transactions (count_by begins facts) counts.last_transaction (is_open name facts) are was.within (subst (λ (n : ℕ). n < 2 ^ 64) begun small) was.last

  -- An event of another table, or of none.
  held_same : is_of name fact ≡ false → IsHeld All name Next counts
  held_same other =
      let same : of_table name facts ≡ of_table name All = sym (filter_same (is_of name) facts fact other) in
      let touching : count_by (touches name) (transactions_in All) ≡ count_by (touches name) (transactions_in facts) =
      touching_more name facts fact ∙ ap (λ (b : Bool). count_by (touches name) (transactions_in facts) + cond (b && (fact.begins || is_open name facts)) 1 0) other ∙ omega arith in
      record {
        all = record {
          inserted = was.all.inserted ∙ ap (λ (l : List Fact). saturated (sum_by (rows_in Inserted) l)) same;
          updated = was.all.updated ∙ ap (λ (l : List Fact). saturated (sum_by (rows_in Updated) l)) same;
          deleted = was.all.deleted ∙ ap (λ (l : List Fact). saturated (sum_by (rows_in Deleted) l)) same;
          events = was.all.events ∙ ap (λ (l : List Fact). saturated (length l)) same;
          unread_events = was.all.unread_events ∙ ap (λ (l : List Fact). saturated (count_by is_unread l)) same;
          bytes = was.all.bytes ∙ ap (λ (l : List Fact). saturated (sizes_of l)) same;
          transactions = λ small. was.all.transactions (fewer small) ∙ ap saturated (sym touching);
          first_time = was.all.first_time ∙ ap (λ (l : List Fact). option_map time (slice_get l 0)) same;
          last_time = was.all.last_time ∙ ap (λ (l : List Fact). option_map time (slice_get l (length l - 1))) same;
        };
        within = grows fact.begins transactions (count_by begins facts) counts.last_transaction are was.within;
        last = λ small.
            is_opened small ∙ sym (and_true (fact.begins || is_open name facts)) ∙ ap (λ (b : Bool). (fact.begins || is_open name facts) && not b) (sym other)
            ∙ sym (open_more name facts fact);
      }

  module _ (is : is_of name fact ≡ true) where
    more : of_table name All ≡ of_table name facts ++ fact ∷ []
    more = filter_more (is_of name) facts fact is

    sum_more : (f : Fact → ℕ) → sum_by f (of_table name All) ≡ sum_by f (of_table name facts) + f fact
    sum_more f = ap (sum_by f) more ∙ sum_by_push f (of_table name facts) fact

    touching_now : count_by begins All < 2 ^ 64 → count_by (touches name) (transactions_in facts) + cond (ltb counts.last_transaction Next) 1 0 ≡ count_by (touches name) (transactions_in All)
    touching_now small =
        ap (λ (b : Bool). count_by (touches name) (transactions_in facts) + cond b 1 0) (is_opened small)
        ∙ ap (λ (b : Bool). count_by (touches name) (transactions_in facts) + cond (b && (fact.begins || is_open name facts)) 1 0) (sym is)
        ∙ sym (touching_more name facts fact)

-- An event of the table.
held_more : (facts : List Fact) (begins_one : Bool) (gtid : List ℕ) (stored own_size end at : ℕ) (other name : Name) (kind : ChangeKind) (count : Option ℕ) (transactions : ℕ) (counts : TableCounts)
    → transactions ≡ saturated (count_by begins facts) → IsHeld facts name transactions counts → name_eq other name ≡ true
    → IsHeld (facts ++ record { begins = begins_one; gtid = gtid; bytes = stored; size = own_size; end = end; time = at; rows = rows other kind count } ∷ []) name (counted_if begins_one transactions)
    (with_rows counts (counted_if begins_one transactions) own_size at kind count)
held_more facts begins_one gtid stored own_size end at other name kind count transactions counts are was is =
    let fact : Fact = record { begins = begins_one; gtid = gtid; bytes = stored; size = own_size; end = end; time = at; rows = rows other kind count } in
    let l : List Fact = of_table name facts in
    let sums : (f : Fact → ℕ) → sum_by f (of_table name (facts ++ fact ∷ [])) ≡ sum_by f l + f fact = sum_more facts fact name transactions counts are was is in
    let now : of_table name (facts ++ fact ∷ []) ≡ l ++ fact ∷ [] = more facts fact name transactions counts are was is in
    record {
      all = record {
        inserted = counted_more counts.inserted (sum_by (rows_in Inserted) l) (rows_as Inserted kind count) was.all.inserted ∙ ap saturated (sym (sums (rows_in Inserted)));
        updated = counted_more counts.updated (sum_by (rows_in Updated) l) (rows_as Updated kind count) was.all.updated ∙ ap saturated (sym (sums (rows_in Updated)));
        deleted = counted_more counts.deleted (sum_by (rows_in Deleted) l) (rows_as Deleted kind count) was.all.deleted ∙ ap saturated (sym (sums (rows_in Deleted)));
        events = counted_more counts.events (length l) 1 was.all.events ∙ ap saturated (sym (ap length now ∙ length_push l fact));
        unread_events =
            counted_if_more (is_none count) counts.unread_events (count_by is_unread l) was.all.unread_events
            ∙ ap saturated (sym (ap (count_by is_unread) now ∙ count_more is_unread l fact));
        bytes = counted_more counts.bytes (sizes_of l) own_size was.all.bytes ∙ ap saturated (sym (sums size));
        transactions = λ small.
            counted_if_more (ltb counts.last_transaction (counted_if begins_one transactions)) counts.transactions (count_by (touches name) (transactions_in facts))
            (was.all.transactions (fewer facts fact name transactions counts are was small))
            ∙ ap saturated (touching_now facts fact name transactions counts are was is small);
        first_time = first_more time l fact counts.first_time was.all.first_time ∙ ap (λ (xs : List Fact). option_map time (slice_get xs 0)) (sym now);
        last_time = last_more time l fact ∙ ap (λ (xs : List Fact). option_map time (slice_get xs (length xs - 1))) (sym now);
      };
      within = omega arith;
      last = λ small.
          not_itself (counted_if begins_one transactions) ∙ sym (and_false (begins_one || is_open name facts))
          ∙ ap (λ (b : Bool). (begins_one || is_open name facts) && not b) (sym is) ∙ sym (open_more name facts fact);
    }

-- ---- all tables

abbrev counts_at : TableStats → Name → TableCounts
counts_at stats name = unwrap_or (counts_named stats name) no_counts

-- The statistics are those of the facts.
pub record Held (facts : List Fact) (stats : TableStats) : Type 0 where
  pub tables : (name : Name) → IsHeld facts name stats.transactions (counts_at stats name)
  pub there : (name : Name) → is_some (counts_named stats name) ≡ ltb 0 (length (of_table name facts))
  pub transactions : stats.transactions ≡ saturated (count_by begins facts)
  pub unknown_events : stats.unknown.events ≡ saturated (count_by is_unknown facts)
  pub unknown_bytes : stats.unknown.bytes ≡ saturated (sizes_of (filter is_unknown facts))

none_held : (stats : TableStats) → AreEmpty stats → Held [] stats
none_held stats empty =
    let none : (name : Name) → counts_named stats name ≡ None = λ name. rw empty.tables refl in
    record {
      tables = λ name. rw (none name, empty.transactions) (record {
        all = record {
          inserted = refl;
          updated = refl;
          deleted = refl;
          events = refl;
          unread_events = refl;
          bytes = refl;
          transactions = λ small. refl;
          first_time = refl;
          last_time = refl;
        };
        within = omega arith;
        last = λ small. refl;
      });
      there = λ name. rw (none name) refl;
      transactions = empty.transactions;
      unknown_events = rw empty.unknown refl;
      unknown_bytes = rw empty.unknown refl;
    }

module _ (facts : List Fact) (old : TableStats) (was : Held facts old) (begins_one : Bool) (gtid : List ℕ) (stored own_size end at : ℕ) where
  abbrev With : Rows → Fact
  With said = record { begins = begins_one; gtid = gtid; bytes = stored; size = own_size; end = end; time = at; rows = said }

  abbrev Then : ℕ
  Then = counted_if begins_one old.transactions

  counted_transactions : (said : Rows) → Then ≡ saturated (count_by begins (facts ++ With said ∷ []))
  counted_transactions said =
      counted_if_more begins_one old.transactions (count_by begins facts) was.transactions ∙ ap saturated (sym (count_more begins facts (With said)))

  there_same : (said : Rows) (name : Name) → is_of name (With said) ≡ false → is_some (counts_named old name) ≡ ltb 0 (length (of_table name (facts ++ With said ∷ [])))
  there_same said name other = was.there name ∙ ap (λ (l : List Fact). ltb 0 (length l)) (sym (filter_same (is_of name) facts (With said) other))

  known_events : (said : Rows) → is_unknown (With said) ≡ false → old.unknown.events ≡ saturated (count_by is_unknown (facts ++ With said ∷ []))
  known_events said known =
      let same : count_by is_unknown (facts ++ With said ∷ []) ≡ count_by is_unknown facts =
      count_more is_unknown facts (With said) ∙ ap (λ (b : Bool). count_by is_unknown facts + cond b 1 0) known ∙ omega arith in
      was.unknown_events ∙ ap saturated (sym same)

  known_bytes : (said : Rows) → is_unknown (With said) ≡ false → old.unknown.bytes ≡ saturated (sizes_of (filter is_unknown (facts ++ With said ∷ [])))
  known_bytes said known = was.unknown_bytes ∙ ap (λ (l : List Fact). saturated (sizes_of l)) (sym (filter_same is_unknown facts (With said) known))

  nothing_held : Held (facts ++ With nothing ∷ []) (record old { transactions = Then })
  nothing_held = record {
    tables = λ name. held_same facts (With nothing) name old.transactions (counts_at old name) was.transactions (was.tables name) refl;
    there = λ name. there_same nothing name refl;
    transactions = counted_transactions nothing;
    unknown_events = known_events nothing refl;
    unknown_bytes = known_bytes nothing refl;
  }

  unknown_held : Held (facts ++ With unknown ∷ []) (record old { transactions = Then; unknown = record { events = counted old.unknown.events 1; bytes = counted old.unknown.bytes own_size } })
  unknown_held = record {
    tables = λ name. held_same facts (With unknown) name old.transactions (counts_at old name) was.transactions (was.tables name) refl;
    there = λ name. there_same unknown name refl;
    transactions = counted_transactions unknown;
    unknown_events =
        counted_more old.unknown.events (count_by is_unknown facts) 1 was.unknown_events ∙ ap saturated (sym (count_more is_unknown facts (With unknown)));
    unknown_bytes =
        counted_more old.unknown.bytes (sizes_of (filter is_unknown facts)) own_size was.unknown_bytes
        ∙ ap saturated (sym (ap sizes_of (filter_more is_unknown facts (With unknown) refl) ∙ sum_by_push size (filter is_unknown facts) (With unknown)));
  }

  module _ (own : Name) (kind : ChangeKind) (count : Option ℕ) (new : TableStats) (adds : AddsRows old Then own_size at own kind count new) where
    abbrev Event : Fact
    Event = With (rows own kind count)

    abbrev Written : TableCounts
    Written = with_rows (counts_at old own) Then own_size at kind count

    own_counts : counts_named new own ≡ Some Written
    own_counts = adds.tables own ∙ ap (λ (b : Bool). cond b (Some Written) (counts_named old own)) (own_name own)

    other_counts : (name : Name) → name_eq own name ≡ false → counts_named new name ≡ counts_named old name
    other_counts name other = adds.tables name ∙ ap (λ (b : Bool). cond b (Some Written) (counts_named old name)) other

    own_held : IsHeld (facts ++ Event ∷ []) own Then (counts_at new own)
    own_held =
        subst (λ (found : Option TableCounts). IsHeld (facts ++ Event ∷ []) own Then (unwrap_or found no_counts)) (sym own_counts)
        (held_more facts begins_one gtid stored own_size end at own own kind count old.transactions (counts_at old own) was.transactions (was.tables own) (own_name own))

    each_held : (name : Name) (b : Bool) → name_eq own name ≡ b → IsHeld (facts ++ Event ∷ []) name Then (counts_at new name)
    each_held name true is = subst (λ (n : Name). IsHeld (facts ++ Event ∷ []) n Then (counts_at new n)) (same_name own name is) own_held
    each_held name false other =
        subst (λ (found : Option TableCounts). IsHeld (facts ++ Event ∷ []) name Then (unwrap_or found no_counts)) (sym (other_counts name other))
        (held_same facts Event name old.transactions (counts_at old name) was.transactions (was.tables name) other)

    own_there : is_some (counts_named new own) ≡ ltb 0 (length (of_table own (facts ++ Event ∷ [])))
    own_there =
        let long : length (of_table own (facts ++ Event ∷ [])) ≡ length (of_table own facts) + 1 =
        ap length (filter_more (is_of own) facts Event (own_name own)) ∙ length_push (of_table own facts) Event in
        ap is_some own_counts ∙ sym (ap (ltb 0) long ∙ positive (length (of_table own facts)))

    each_there : (name : Name) (b : Bool) → name_eq own name ≡ b → is_some (counts_named new name) ≡ ltb 0 (length (of_table name (facts ++ Event ∷ [])))
    each_there name true is = subst (λ (n : Name). is_some (counts_named new n) ≡ ltb 0 (length (of_table n (facts ++ Event ∷ [])))) (same_name own name is) own_there
    each_there name false other = ap is_some (other_counts name other) ∙ there_same (rows own kind count) name other

    rows_held : Held (facts ++ Event ∷ []) new
    rows_held = record {
      tables = λ name. subst (λ (n : ℕ). IsHeld (facts ++ Event ∷ []) name n (counts_at new name)) (sym adds.transactions) (each_held name (name_eq own name) refl);
      there = λ name. each_there name (name_eq own name) refl;
      transactions = adds.transactions ∙ counted_transactions (rows own kind count);
      unknown_events = ap (λ (u : UnknownRows). u.events) adds.unknown ∙ known_events (rows own kind count) refl;
      unknown_bytes = ap (λ (u : UnknownRows). u.bytes) adds.unknown ∙ known_bytes (rows own kind count) refl;
    }

  one_held : (said : Rows) (new : TableStats) → AddsChange old Then own_size at said new → new.is_full ≡ false → Held (facts ++ With said ∷ []) new
  one_held nothing new same room = subst (Held (facts ++ With nothing ∷ [])) (sym same) nothing_held
  one_held unknown new same room = subst (Held (facts ++ With unknown ∷ [])) (sym same) unknown_held
  one_held (rows own kind count) new (inl adds) room = rows_held own kind count new adds
  one_held (rows own kind count) new (inr none) room = absurd (let full : true ≡ false = sym (ap (λ (s : TableStats). s.is_full) none.2) ∙ room in cc)

-- What is full stays full.
stays_full : (facts : List Fact) (old new : TableStats) → AddsAll facts old new → old.is_full ≡ true → new.is_full ≡ true
stays_full [] old new same full = ap (λ (s : TableStats). s.is_full) same ∙ full
stays_full (fact ∷ facts) old new (mid, inl kept, rest) full = stays_full facts mid new rest (ap (λ (s : TableStats). s.is_full) kept.1 ∙ full)
stays_full (fact ∷ facts) old new (mid, inr added, rest) full = absurd (let no : true ≡ false = sym full ∙ added.0 in cc)

fact_held : (facts : List Fact) (old new : TableStats) (fact : Fact) → Held facts old → Adds old fact new → new.is_full ≡ false → Held (facts ++ fact ∷ []) new
fact_held facts old new fact was (inl kept) room = absurd (let no : true ≡ false = sym kept.0 ∙ sym (ap (λ (s : TableStats). s.is_full) kept.1) ∙ room in cc)
fact_held facts old new fact was (inr added) room = one_held facts old was fact.begins fact.gtid fact.bytes fact.size fact.end fact.time fact.rows new added.1 room

all_held : (done facts : List Fact) (old new : TableStats) → Held done old → AddsAll facts old new → new.is_full ≡ false → Held (done ++ facts) new
all_held done [] old new was same room = subst (Held (done ++ [])) (sym same) (subst (λ (l : List Fact). Held l old) (sym (append-nil done)) was)
all_held done (fact ∷ facts) old new was (mid, added, rest) room = by (λ held. all_held (done ++ fact ∷ []) facts mid new held rest room) mid.is_full refl
  where
    by : (Held (done ++ fact ∷ []) mid → Held ((done ++ fact ∷ []) ++ facts) new) → (b : Bool) → mid.is_full ≡ b → Held (done ++ fact ∷ facts) new
    by goes_on true full = absurd (let no : true ≡ false = sym (stays_full facts mid new rest full) ∙ room in cc)
    by goes_on false room_yet =
        subst (λ (l : List Fact). Held l new) (append_assoc done (fact ∷ []) facts)
        (goes_on (fact_held done old mid fact was added room_yet))

matched : (facts : List Fact) (name : Name) (l : List Fact) (found : Option TableCounts) → is_some found ≡ ltb 0 (length l) → AreTableCounts facts name (unwrap_or found no_counts)
    → MatchOption found (l ≡ []) (λ counts. (l ≢ []) × AreTableCounts facts name counts)
matched facts name [] None there are = refl
matched facts name (x ∷ l) None there are =
    let long : length (x ∷ l) ≡ length l + 1 = omega arith in
    absurd (let no : false ≡ true = there ∙ ap (ltb 0) long ∙ positive (length l) in cc)
matched facts name [] (Some counts) there are = absurd cc
matched facts name (x ∷ l) (Some counts) there are = (not_nil x l, are)

pub all_counted : (facts : List Fact) (old new : TableStats) → AreEmpty old → AddsAll facts old new → new.is_full ≡ false → AreTableStats facts new
all_counted facts old new empty added room =
    let held : Held facts new = all_held [] facts old new (none_held old empty) added room in
    record {
      tables = λ name. matched facts name (of_table name facts) (counts_named new name) (held.there name) (held.tables name).all;
      transactions = held.transactions;
      unknown_events = held.unknown_events;
      unknown_bytes = held.unknown_bytes;
    }
