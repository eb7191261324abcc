-- What a visitor has written that writes a line for each item, and what a listing by its visits is.
use Rattle.std.proofs.Common.{◌≡◌, inl, inr, ℕ, ◌+◌, ◌^◌, ◌<◌, Bool, true, false, ◌||◌, List, [], ◌∷◌, ◌++◌, length, Option, Some, None, IfSome, Result, Ok, Err, is_err, refl, sym, ap, subst, ◌∙◌, arith, append_assoc, append-nil}
use Rattle.std.specs.List.{list_any}
use Rattle.std.specs.Io.KnownBytes.{Appends}
use Rattle.std.proofs.KnownBytes.{Appends-nil, Appends-trans}
use Rattle.binlog_ends.specs.Counts.{AppendsFront}
use Rattle.binlog_wire.specs.declared.error.Error.{Error}
use Rattle.binlog_wire.specs.declared.error.Error.TheVariants.{EndOfInput, InvalidFileHeader, Memory, Reader, Writer}
use Rattle.binlog_wire.specs.Errors.{is_environment_error}
use Rattle.binlog_file.specs.Events.{EventView}
use Rattle.binlog_file.specs.TableMapsInForce.{TableMaps}
use Rattle.binlog_file.specs.Verifications.{Handling}
use Rattle.binlog_visits.specs.Places.{Place, first_place, Left}
use Rattle.binlog_visits.specs.TableMaps.{maps_behind, maps_after}
use Rattle.binlog_visits.specs.Visits.{VisitRelation, RefusalRelation, Visits, VisitsAll, VisitsBefore, VisitsUntil, VisitsItems, VisitsFile, VisitsBytes, IsNoFile}
use Rattle.binlog_visits.specs.LineVisits.{WritesNoItem}
use Rattle.binlog_visits.specs.Lines.{listing, listed, ListsAll, ListsBefore, ListsBeforeLine, ListsFront, ListsItems, ListsFile, ListsBytes}

-- `line` is that of the listing.
module _ (line : ℕ → Result EventView Error → List ℕ) where
  -- One more line.
  pub listing-more : (index : ℕ) (items : List (Result EventView Error)) (item : Result EventView Error)
      → listing line index (items ++ item ∷ []) ≡ listing line index items ++ line (index + length items) item
  listing-more index [] item = append-nil (line index item) ∙ ap (λ i. line i item) {y = index + 0} (omega arith)
  listing-more index (x ∷ items) item =
      let same : (index + 1) + length items ≡ index + length (x ∷ items) = omega arith in
      ap (λ l. line index x ++ l) (listing-more (index + 1) items item ∙ ap (λ i. listing line (index + 1) items ++ line i item) same)
      ∙ sym (append_assoc (line index x) (listing line (index + 1) items) (line (index + length (x ∷ items)) item))

or_false : (b : Bool) → b ≡ (b || false)
or_false true = refl
or_false false = refl

or_or : (a b c : Bool) → ((a || b) || c) ≡ (a || (b || c))
or_or true b c = refl
or_or false b c = refl

-- `contents` is what a visitor's writer has, and `errors` what it has noted of items that `noted` holds for.
module _ {T : Type 0} (visits : VisitRelation T) (contents : T → Option (List ℕ)) (errors : T → Bool) (line : ℕ → Result EventView Error → List ℕ) (noted : Result EventView Error → Bool)
    (writes : (old : T) (maps : TableMaps) (index : ℕ) (item : Result EventView Error) (new : T) → visits old maps index item new
    → Appends (contents old) (contents new) (line index item) × (errors new ≡ (errors old || noted item))) where
  -- The lines of all items are written.
  pub all_written : (maps : TableMaps) (index : ℕ) (items : List (Result EventView Error)) (old new : T) → Visits visits maps index items old new
      → Appends (contents old) (contents new) (listing line index items)
  all_written maps index [] old new same = subst (λ (t : T). Appends (contents old) (contents t) []) (sym same) (Appends-nil (contents old))
  all_written maps index (item ∷ items) old new (mid, one, rest) =
      Appends-trans (contents old) (contents mid) (contents new) _ _ (writes old (maps_behind maps item) index item mid one).0 (all_written (maps_behind maps item) (index + 1) items mid new rest)

  -- An error is noted if one of the items is noted.
  pub all_noted : (maps : TableMaps) (index : ℕ) (items : List (Result EventView Error)) (old new : T) → Visits visits maps index items old new
      → errors new ≡ (errors old || list_any noted items)
  all_noted maps index [] old new same = ap errors same ∙ or_false (errors old)
  all_noted maps index (item ∷ items) old new (mid, one, rest) =
      all_noted (maps_behind maps item) (index + 1) items mid new rest
      ∙ ap (λ (b : Bool). b || list_any noted items) (writes old (maps_behind maps item) index item mid one).1 ∙ or_or (errors old) (noted item) (list_any noted items)

  -- `takes` says for which items making the line may take memory.
  module _ (refuses : RefusalRelation T) (takes : Result EventView Error → Type 0)
      (stops : (old : T) (maps : TableMaps) (index : ℕ) (item : Result EventView Error) (error : Error) (new : T) → refuses old maps index item error new
      → WritesNoItem line takes index item (contents old) error (contents new)) (handles : Handling) (left : Left) where
    -- All that is written of the first items is a prefix of the listing.
    front_of : (error : Error) (start : Place) (old new : T) → VisitsBefore visits refuses handles left error start old new → ListsFront handles left line takes start (contents old) (contents new)
    front_of error start old new some = record {
      items = some.items;
      place = some.place;
      first = some.first;
      written = record {
        front = listing line 0 some.items;
        cut = [];
        whole = sym (append-nil (listing line 0 some.items));
        written = all_written start.state.table_maps 0 some.items old new some.visited;
      };
    }

    before_of : (error : Error) (start : Place) (old new : T) → (some : VisitsBefore visits refuses handles left error start old new)
        → ListsBefore handles left line takes error start (contents old) some.after (contents new)
    before_of error start old new some = record {
      items = some.items;
      place = some.place;
      first = some.first;
      written = all_written start.state.table_maps 0 some.items old new some.visited;
      refused = some.refused;
      outside = some.outside;
    }

    error_of : (error : Error) (start : Place) (old : Option (List ℕ)) (after : Place) (new : Option (List ℕ)) → ListsBefore handles left line takes error start old after new
        → ListsFront handles left line takes start old new → ListsItems handles left line takes start old (Err error) after new
    error_of Writer start old after new before front = front
    error_of Memory start old after new before front = inl before
    error_of error start old after new before front = before

    -- The writer failed in the line of an item.
    cut_of : (error : Error) (start : Place) (old new : T) → (some : VisitsUntil visits refuses handles left error start old new)
        → AppendsFront (contents some.mid) (contents new) (line (length some.items) some.item) → ListsFront handles left line takes start (contents old) (contents new)
    cut_of error start old new some wrote =
        let at : 0 + length some.items ≡ length some.items = omega arith in
        let lines : listing line 0 (some.items ++ some.item ∷ []) ≡ listing line 0 some.items ++ line (length some.items) some.item =
        listing-more line 0 some.items some.item ∙ ap (λ (i : ℕ). listing line 0 some.items ++ line i some.item) at in
        record {
          items = some.items ++ some.item ∷ [];
          place = some.place;
          first = some.first;
          written = record {
            front = listing line 0 some.items ++ wrote.front;
            cut = wrote.cut;
            whole = lines ∙ ap (λ (l : List ℕ). listing line 0 some.items ++ l) wrote.whole ∙ sym (append_assoc (listing line 0 some.items) wrote.front wrote.cut);
            written = Appends-trans (contents old) (contents some.mid) (contents new) _ _ (all_written start.state.table_maps 0 some.items old some.mid some.visited) wrote.written;
          };
        }

    -- An allocation failed for the line of an item.
    memory_of : (error : Error) (start : Place) (old new : T) → (some : VisitsUntil visits refuses handles left error start old new) → takes some.item → contents new ≡ contents some.mid
        → ListsBeforeLine handles left line takes start (contents old) some.place (contents new)
    memory_of error start old new some grows same = record {
      items = some.items;
      item = some.item;
      grows = grows;
      first = some.first;
      written =
          subst (λ (w : Option (List ℕ)). Appends (contents old) w (listing line 0 some.items)) (sym same)
          (all_written start.state.table_maps 0 some.items old some.mid some.visited);
    }

    until_of : (error : Error) (start : Place) (old new : T) → (some : VisitsUntil visits refuses handles left error start old new)
        → WritesNoItem line takes (length some.items) some.item (contents some.mid) error (contents new)
        → ListsItems handles left line takes start (contents old) (Err error) some.place (contents new)
    until_of error start old new some (inl writer) =
        subst (λ (e : Error). ListsItems handles left line takes start (contents old) (Err e) some.place (contents new)) (sym writer.0) (cut_of error start old new some writer.1)
    until_of error start old new some (inr memory) =
        subst (λ (e : Error). ListsItems handles left line takes start (contents old) (Err e) some.place (contents new)) (sym memory.0)
        (inr (memory_of error start old new some memory.1 memory.2))

    -- What is listed where the visits ended with an error.
    pub stopped : (error : Error) (start : Place) (old new : T) → VisitsItems visits refuses handles left start old (Err error) new
        → (after : Place) × ListsItems handles left line takes start (contents old) (Err error) after (contents new)
    stopped error start old new (inl some) =
        (some.after, error_of error start (contents old) some.after (contents new) (before_of error start old new some) (front_of error start old new some))
    stopped error start old new (inr some) =
        (some.place, until_of error start old new some (stops some.mid (maps_after start.state.table_maps (some.items ++ some.item ∷ [])) (length some.items) some.item error new some.refused))

-- ---- a whole file

-- What the error of an item isn't.
no_header_error : (handles : Handling) (left : Left) (line : ℕ → Result EventView Error → List ℕ) (takes : Result EventView Error → Type 0) (error : Error) (bytes : List ℕ) (old new : Option (List ℕ))
    → ListsFile handles left line takes bytes old (Err error) new → ListsBytes handles left line takes bytes old (Err error) new
no_header_error handles left line takes EndOfInput bytes old new file = absurd (let outside : is_environment_error EndOfInput ≡ true = file.lists.outside in cc)
no_header_error handles left line takes InvalidFileHeader bytes old new file = absurd (let outside : is_environment_error InvalidFileHeader ≡ true = file.lists.outside in cc)
no_header_error handles left line takes Reader bytes old new file = inl file
no_header_error handles left line takes error bytes old new file = file

-- Nothing is written of what is no file.
not_listed : (handles : Handling) (left : Left) (line : ℕ → Result EventView Error → List ℕ) (takes : Result EventView Error → Type 0) (error : Error) (bytes : List ℕ) (old : Option (List ℕ))
    → IsNoFile error bytes → ListsBytes handles left line takes bytes old (Err error) old
not_listed handles left line takes EndOfInput bytes old none = (none, Appends-nil old)
not_listed handles left line takes InvalidFileHeader bytes old none = (none.0, none.1, Appends-nil old)
not_listed handles left line takes Reader bytes old none = inr (Appends-nil old)
not_listed handles left line takes error bytes old none = absurd none

-- A visitor that writes the line of each item, and notes each error.
module _ {T : Type 0} (visits : VisitRelation T) (refuses : RefusalRelation T) (contents : T → Option (List ℕ)) (errors : T → Bool) (line : ℕ → Result EventView Error → List ℕ)
    (takes : Result EventView Error → Type 0)
    (writes : (old : T) (maps : TableMaps) (index : ℕ) (item : Result EventView Error) (new : T) → visits old maps index item new
    → Appends (contents old) (contents new) (line index item) × (errors new ≡ (errors old || is_err item)))
    (stops : (old : T) (maps : TableMaps) (index : ℕ) (item : Result EventView Error) (error : Error) (new : T) → refuses old maps index item error new
    → WritesNoItem line takes index item (contents old) error (contents new)) (handles : Handling) (left : Left) where
  all_listed : (tail_len : Option ℕ) (start : Place) (old new : T) → errors old ≡ false → VisitsAll visits refuses handles left tail_len start old new
      → ListsAll handles left line takes start (contents old) (errors new) (contents new)
  all_listed tail_len start old new none all = record {
    items = all.items;
    are = all.are;
    written = all_written visits contents errors line is_err writes start.state.table_maps 0 all.items old new all.visited;
    errors = all_noted visits contents errors line is_err writes start.state.table_maps 0 all.items old new all.visited ∙ ap (λ (b : Bool). b || list_any is_err all.items) none;
  }

  file_listed : (bytes : List ℕ) (old : T) (answer : Result (Option ℕ) Error) (new : T) → errors old ≡ false → VisitsFile visits refuses handles left bytes old answer new
      → ListsFile handles left line takes bytes (contents old) (listed answer (errors new)) (contents new)
  file_listed bytes old (Ok len) new none file = record {
    stream = file.stream;
    file = file.file;
    after = record (first_place file.stream) { ended = true };
    lists = (all_listed len (first_place file.stream) old new none file.visited, refl);
  }
  file_listed bytes old (Err error) new none file =
      let lists = stopped visits contents errors line is_err writes refuses takes stops handles left error (first_place file.stream) old new file.visited in
      record { stream = file.stream; file = file.file; after = lists.0; lists = lists.1 }

  bytes_listed : (bytes : List ℕ) (old : T) (answer : Result (Option ℕ) Error) (new : T) → errors old ≡ false → VisitsBytes visits refuses handles left bytes old answer new
      → ListsBytes handles left line takes bytes (contents old) (listed answer (errors new)) (contents new)
  bytes_listed bytes old (Ok len) new none file = file_listed bytes old (Ok len) new none file
  bytes_listed bytes old (Err error) new none (inl file) = no_header_error handles left line takes error bytes (contents old) (contents new) (file_listed bytes old (Err error) new none file)
  bytes_listed bytes old (Err error) new none (inr no_file) =
      subst (λ (t : T). ListsBytes handles left line takes bytes (contents old) (Err error) (contents t)) (sym no_file.1)
      (not_listed handles left line takes error bytes (contents old) no_file.0)

  -- The visits of a file are its listing, from what the writer had before to what it has behind them.
  pub visits_listed : (known : Option (List ℕ)) (before behind : Option (List ℕ)) (old : T) (answer : Result (Option ℕ) Error) (new : T) → errors old ≡ false → contents old ≡ before → contents new ≡ behind
      → IfSome known (λ bytes. length bytes < 2 ^ 64 → VisitsBytes visits refuses handles left bytes old answer new)
      → IfSome known (λ bytes. length bytes < 2 ^ 64 → ListsBytes handles left line takes bytes before (listed answer (errors new)) behind)
  visits_listed None before behind old answer new none begins ends visited = tt
  visits_listed (Some bytes) before behind old answer new none begins ends visited = λ few.
      subst (λ (b : Option (List ℕ)). ListsBytes handles left line takes bytes b (listed answer (errors new)) behind) begins
      (subst (λ (e : Option (List ℕ)). ListsBytes handles left line takes bytes (contents old) (listed answer (errors new)) e) ends (bytes_listed bytes old answer new none (visited few)))

-- What was written to a borrowed output was written to the output.
pub listed_along : (known : Option (List ℕ)) (lists : List ℕ → Option (List ℕ) → Option (List ℕ) → Type 0) (old borrowed after new : Option (List ℕ)) → borrowed ≡ old → after ≡ new
    → IfSome known (λ bytes. length bytes < 2 ^ 64 → lists bytes borrowed after) → IfSome known (λ bytes. length bytes < 2 ^ 64 → lists bytes old new)
listed_along known lists old borrowed after new begins ends listed =
    subst (λ (b : Option (List ℕ)). IfSome known (λ bytes. length bytes < 2 ^ 64 → lists bytes b new)) begins
    (subst (λ (e : Option (List ℕ)). IfSome known (λ bytes. length bytes < 2 ^ 64 → lists bytes borrowed e)) ends listed)
