-- What is seen of a whole log.
use Rattle.std.proofs.Common.{◌≡◌, ℕ, ◌+◌, ◌<◌, ◌^◌, Bool, List, [], ◌∷◌, ◌++◌, length, IfSome, OnOk, Option, Some, None, Result, Ok, Err, refl, sym, ap, subst, ◌∙◌, append_assoc, append-nil}
use Rattle.binlog_wire.specs.declared.error.Error.{Error}
use Rattle.binlog_events.specs.Events.{EventView}
use Rattle.binlog_file.specs.TableMapsInForce.{TableMaps, no_table_maps}
use Rattle.binlog_visits.specs.TableMaps.{maps_behind}
use Rattle.binlog_visits.specs.Places.{first_place}
use Rattle.binlog_visits.specs.Visits.{VisitsVerifiedLog}
use Rattle.binlog_payload_visits.specs.Parts.{Part, maps_behind_part}
use Rattle.binlog_payload_visits.specs.Splicing.{Shown, outside, inside, AreSpliced, VisitsShown}
use Rattle.binlog_payload_visits.specs.declared.spliced.Spliced.{Spliced}
use Rattle.binlog_payload_visits.proofs.Splicing.{all_spliced}
use Rattle.crc32_ieee.specs.Checksums.{IsCrc32}
use Rattle.binlog_later_changes.specs.Later.{Look}
use Rattle.binlog_later_changes.specs.Looks.{At, at_of, in_front, SeesItemIf, SeesPartIf, AreSeen, tail_looks}
use Rattle.binlog_later_changes.specs.Logs.{most_bytes, sees, refuses, visits_part, VisitsWhole, SeesLog, FindsLater}
use Rattle.binlog_later_changes.specs.RowsLeft.{Left, left_of}
use Rattle.binlog_later_changes.specs.Tables.{Holds, Grows}
use Rattle.binlog_later_changes.specs.Visits.{Sees, VisitsItem, VisitsOne, EndsLog}
use Rattle.binlog_later_changes.specs.declared.later_changes.LaterChanges.{LaterChanges}
use Rattle.binlog_later_changes.specs.declared.later_rules.LaterRules.{LaterRules}
use Rattle.binlog_later_changes.specs.declared.later_scan.LaterScan.{LaterScan}
use Rattle.binlog_later_changes.specs.declared.later_tables.LaterTables.{LaterTables}
use Rattle.binlog_later_changes.specs.declared.undone_events.RowsPlace.{RowsPlace}

pub grows_none : (tables : LaterTables) → Grows [] tables tables
grows_none tables = λ looks h. subst (λ (l : List Look). Holds l tables) (sym (append-nil looks)) h

pub grows_both : (one two : List Look) (old mid new : LaterTables) → Grows one old mid → Grows two mid new → Grows (one ++ two) old new
grows_both one two old mid new a b = λ looks h. subst (λ (l : List Look). Holds l new) (append_assoc looks one two) (b (looks ++ one) (a looks h))

-- These are seen of what was shown.
record SeesShown (rules : LaterRules) (log : ℕ) (at : At) (maps part_maps : TableMaps) (shown : List Shown) (old new : LaterScan) : Type 0 where
  looks : List Look
  each : AreSeen rules log at maps part_maps shown looks (at_of new)
  is_rules : new.rules ≡ rules
  is_log : new.log ≡ log
  grows : Grows looks old.tables new.tables

shown_seen : (rules : LaterRules) (log : ℕ) (at : At) (maps part_maps : TableMaps) (shown : List Shown) (old new : LaterScan) → old.rules ≡ rules → old.log ≡ log → at_of old ≡ at
    → VisitsShown VisitsItem visits_part maps part_maps shown old new → SeesShown rules log at maps part_maps shown old new
shown_seen rules log at maps part_maps [] old new is_rules is_log is_at same = record {
  looks = [];
  each = (refl, ap at_of same ∙ is_at);
  is_rules = ap (λ (s : LaterScan). s.rules) same ∙ is_rules;
  is_log = ap (λ (s : LaterScan). s.log) same ∙ is_log;
  grows = subst (λ (t : LaterTables). Grows [] old.tables t) (sym (ap (λ (s : LaterScan). s.tables) same)) (grows_none old.tables);
}
shown_seen rules log at maps part_maps (outside index item ∷ shown) old new is_rules is_log is_at (mid, one, visited) =
    let seen = subst (λ (s : LaterRules). SeesItemIf s log at.is_stopped at (maps_behind maps item) index item one.looks (at_of mid)) is_rules
    (subst (λ (n : ℕ). SeesItemIf old.rules n at.is_stopped at (maps_behind maps item) index item one.looks (at_of mid)) is_log
    (subst (λ (a : At). SeesItemIf old.rules old.log a.is_stopped a (maps_behind maps item) index item one.looks (at_of mid)) is_at
    (subst (λ (a : At). SeesItemIf old.rules old.log old.is_stopped (at_of old) (maps_behind maps item) index item one.looks a) (sym one.sees.at) one.seen))) in
    let rest = shown_seen rules log (at_of mid) (maps_behind maps item) no_table_maps shown mid new (one.sees.rules ∙ is_rules) (one.sees.log ∙ is_log) refl visited in
    record {
      looks = one.looks ++ rest.looks;
      each = (one.looks, rest.looks, at_of mid, seen, rest.each, refl);
      is_rules = rest.is_rules;
      is_log = rest.is_log;
      grows = grows_both one.looks rest.looks old.tables mid.tables new.tables one.sees.grows rest.grows;
    }
shown_seen rules log at maps part_maps (inside index number part ∷ shown) old new is_rules is_log is_at (mid, one, visited) =
    let seen = subst (λ (s : LaterRules). SeesPartIf s log at.is_stopped at (maps_behind_part part_maps part) part one.looks (at_of mid)) is_rules
    (subst (λ (n : ℕ). SeesPartIf old.rules n at.is_stopped at (maps_behind_part part_maps part) part one.looks (at_of mid)) is_log
    (subst (λ (a : At). SeesPartIf old.rules old.log a.is_stopped a (maps_behind_part part_maps part) part one.looks (at_of mid)) is_at
    (subst (λ (a : At). SeesPartIf old.rules old.log old.is_stopped (at_of old) (maps_behind_part part_maps part) part one.looks a) (sym one.sees.at) one.seen))) in
    let rest = shown_seen rules log (at_of mid) maps (maps_behind_part part_maps part) shown mid new (one.sees.rules ∙ is_rules) (one.sees.log ∙ is_log) refl visited in
    record {
      looks = one.looks ++ rest.looks;
      each = (one.looks, rest.looks, at_of mid, seen, rest.each, refl);
      is_rules = rest.is_rules;
      is_log = rest.is_log;
      grows = grows_both one.looks rest.looks old.tables mid.tables new.tables one.sees.grows rest.grows;
    }

pub finds_later : (rules : LaterRules) (log : ℕ) (undone : List RowsPlace) (bytes : List ℕ) (changes found : LaterChanges) (old between : Spliced LaterScan) (ended : LaterScan) (tail_len : Option ℕ)
    → old.limit ≡ most_bytes → old.visitor.rules ≡ rules → old.visitor.log ≡ log → at_of old.visitor ≡ in_front (left_of changes.rows) undone → old.visitor.tables ≡ changes.tables
    → VisitsVerifiedLog IsCrc32 sees refuses bytes old (Ok tail_len) between → EndsLog tail_len between.visitor ended → found.tables ≡ ended.tables → left_of found.rows ≡ (at_of ended).rows
    → (at_of ended).left ≡ [] → FindsLater rules log undone bytes changes found
finds_later rules log undone bytes changes found old between ended tail_len limit is_rules is_log is_at is_tables visits ends same_tables same_rows met =
    let visited = visits.visited in
    let spliced = all_spliced VisitsItem visits_part (first_place visits.stream).state.table_maps 0 visited.items old between visited.visited in
    let seen = shown_seen rules log (in_front (left_of changes.rows) undone) (first_place visits.stream).state.table_maps no_table_maps spliced.0.shown old.visitor between.visitor is_rules is_log is_at spliced.0.visited in
    let tail = tail_looks rules log (at_of between.visitor).is_stopped tail_len (at_of between.visitor) in
    let tail_grows : Grows tail between.visitor.tables ended.tables =
    subst (λ (s : LaterRules). Grows (tail_looks s log (at_of between.visitor).is_stopped tail_len (at_of between.visitor)) between.visitor.tables ended.tables) seen.is_rules
    (subst (λ (n : ℕ). Grows (tail_looks between.visitor.rules n (at_of between.visitor).is_stopped tail_len (at_of between.visitor)) between.visitor.tables ended.tables) seen.is_log ends.sees.grows) in
    record {
      looks = seen.looks ++ tail;
      sees = record {
        stream = visits.stream;
        file = visits.file;
        items = visited.items;
        are = visited.are;
        shown = spliced.0.shown;
        spliced = subst (λ (l : ℕ). AreSpliced l 0 visited.items spliced.0.shown) limit spliced.0.are;
        seen = seen.looks;
        end = at_of between.visitor;
        each = seen.each;
        met = sym ends.left ∙ ap (λ (a : At). a.left) (sym ends.sees.at) ∙ met;
        rows = same_rows ∙ ap (λ (a : At). a.rows) ends.sees.at ∙ ends.rows;
        tail_len = tail_len;
        tail = visited.tail;
        is = refl;
      };
      grows = subst (λ (t : LaterTables). Grows (seen.looks ++ tail) changes.tables t) (sym same_tables)
          (subst (λ (t : LaterTables). Grows (seen.looks ++ tail) t ended.tables) is_tables
          (grows_both seen.looks tail old.visitor.tables between.visitor.tables ended.tables seen.grows tail_grows));
    }

pub whole_if : (answer : Result (Unit {0}) Error) (remaining : Option (List ℕ)) (old between : Spliced LaterScan) (ended : LaterScan) (tail_len : Option ℕ)
    → IfSome remaining (λ bytes. length bytes < 2 ^ 64 → VisitsVerifiedLog IsCrc32 sees refuses bytes old (Ok tail_len) between) → OnOk answer (EndsLog tail_len between.visitor ended)
    → OnOk answer (VisitsWhole remaining old (record between { visitor = ended }))
whole_if (Ok done) remaining old between ended tail_len visits ends = record { tail_len = tail_len; between = between; visits = visits; ends = ends }
whole_if (Err error) remaining old between ended tail_len visits ends = tt

pub later_if : (found : Option LaterChanges) (remaining : Option (List ℕ)) (rules : LaterRules) (log : ℕ) (undone : List RowsPlace) (changes : LaterChanges) (old between : Spliced LaterScan) (ended : LaterScan) (tail_len : Option ℕ)
    → old.limit ≡ most_bytes → old.visitor.rules ≡ rules → old.visitor.log ≡ log → at_of old.visitor ≡ in_front (left_of changes.rows) undone → old.visitor.tables ≡ changes.tables
    → IfSome remaining (λ bytes. length bytes < 2 ^ 64 → VisitsVerifiedLog IsCrc32 sees refuses bytes old (Ok tail_len) between) → EndsLog tail_len between.visitor ended
    → IfSome found (λ own. (own.tables ≡ ended.tables) × (left_of own.rows ≡ (at_of ended).rows) × ((at_of ended).left ≡ []))
    → IfSome found (λ own. IfSome remaining (λ bytes. length bytes < 2 ^ 64 → FindsLater rules log undone bytes changes own))
later_if None remaining rules log undone changes old between ended tail_len limit is_rules is_log is_at is_tables visits ends found = tt
later_if (Some own) None rules log undone changes old between ended tail_len limit is_rules is_log is_at is_tables visits ends found = tt
later_if (Some own) (Some bytes) rules log undone changes old between ended tail_len limit is_rules is_log is_at is_tables visits ends (same_tables, same_rows, met) =
    λ small. finds_later rules log undone bytes changes own old between ended tail_len limit is_rules is_log is_at is_tables (visits small) ends same_tables same_rows met
