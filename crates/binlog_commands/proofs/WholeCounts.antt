-- The counts of all items.
use Rattle.std.proofs.Common.{◌≡◌, ℕ, ◌+◌, ◌-◌, ◌<◌, ◌≤◌, Bool, true, false, cond, eqb, ltb, List, [], ◌∷◌, ◌++◌, length, get_or, set, Option, Some, None, Result, Ok, Err, refl, sym, ap, subst, ◌∙◌, arith, append_assoc, append-nil}
use Rattle.std.specs.Prelude.{filter, All, count_by, sum_by, slice_get, MatchOption, option_map, unwrap_or, is_err}
use Rattle.std.specs.Result.{result_ok}
use Rattle.std.proofs.lemmas.List.{length_push, get_or-replicate, get_or-set_same, get_or-set_other, length-set}
use Rattle.std.proofs.lemmas.List.Elements.{All-nil, All-cons, All-append, All-weaker, filter_map-append, filter-append}
use Rattle.std.proofs.lemmas.List.Sums.{length-filter, sum_by-append, sum_by_push}
use Rattle.std.proofs.lemmas.Bool.Decides.{nat_tests}
use Rattle.binlog_wire.specs.declared.error.Error.{Error}
use Rattle.binlog_events.specs.Events.{EventView}
use Rattle.binlog_file.specs.TableMapsInForce.{TableMaps}
use Rattle.binlog_visits.specs.TableMaps.{maps_behind}
use Rattle.binlog_visits.specs.Visits.{VisitRelation, Visits}
use Rattle.binlog_commands.specs.Counting.{saturated, counted, counted_if, none_counted, Counts}
use Rattle.binlog_commands.specs.Statistics.{no_items, larger, CountsItem}
use Rattle.binlog_commands.specs.WholeCounts.{events_in, type_of, size_of, time_of, of_type, bytes_of, is_begin, is_checked, first_of, last_of, IsLargest, AreCounted, AreTallied}
use Rattle.binlog_commands.specs.declared.stats.Stats.{Stats}
use Rattle.binlog_commands.specs.declared.stats.Largest.{Largest}
use Rattle.binlog_commands.specs.declared.tally.Tally.{Tally}

-- ---- one count more

counted_more : (old n more : ℕ) → old ≡ saturated n → counted old more ≡ saturated (n + more)
counted_more old n more was = omega arith

counted_if_more : (b : Bool) (old n : ℕ) → old ≡ saturated n → counted_if b old ≡ saturated (n + cond b 1 0)
counted_if_more true old n was = counted_more old n 1 was
counted_if_more false old n was = omega arith

-- the sum behind an event that may be of the type
module _ (place type more n new : ℕ) (counts : List ℕ) (within : type < length counts) (was : get_or counts type 0 ≡ saturated n) where
  set_more : (b : Bool) → eqb place type ≡ b → new ≡ n + cond b more 0 → get_or (set counts place (counted (get_or counts place 0) more)) type 0 ≡ saturated new
  set_more true same is =
      let here : place ≡ type = grind (arith, nat_tests) in
      rw here (get_or-set_same counts type (counted (get_or counts type 0) more) 0 within ∙ counted_more (get_or counts type 0) n more was ∙ ap saturated (sym is))
  set_more false other is =
      let apart : type ≡ place → ⊥ = λ same. grind (arith, nat_tests) in
      get_or-set_other counts place type (counted (get_or counts place 0) more) 0 apart ∙ was ∙ ap saturated (omega arith)

module _ {X : Type 0} (p : X → Bool) (xs : List X) (x : X) where
  count_more : count_by p (xs ++ x ∷ []) ≡ count_by p xs + cond (p x) 1 0
  count_more = sum_by_push (λ (y : X). cond (p y) 1 0) xs x

  length_more : length (filter p (xs ++ x ∷ [])) ≡ length (filter p xs) + cond (p x) 1 0
  length_more = length-filter p (xs ++ x ∷ []) ∙ count_more ∙ ap (λ (n : ℕ). n + cond (p x) 1 0) (sym (length-filter p xs))

  sum_one : (f : X → ℕ) (b : Bool) → p x ≡ b → sum_by f (filter p (x ∷ [])) ≡ cond b (f x) 0
  sum_one f true is = rw is (omega arith)
  sum_one f false is = rw is refl

  sum_more : (f : X → ℕ) → sum_by f (filter p (xs ++ x ∷ [])) ≡ sum_by f (filter p xs) + cond (p x) (f x) 0
  sum_more f = ap (sum_by f) (filter-append p xs (x ∷ [])) ∙ sum_by-append f (filter p xs) (filter p (x ∷ [])) ∙ ap (λ (n : ℕ). sum_by f (filter p xs) + n) (sum_one f (p x) refl)

-- ---- the first one and the last one

first_more : (f : EventView → ℕ) (events : List EventView) (event : EventView) (old : Option ℕ) → old ≡ option_map f (first_of events)
    → Some (unwrap_or old (f event)) ≡ option_map f (first_of (events ++ event ∷ []))
first_more f [] event old was = rw was refl
first_more f (first ∷ events) event old was = rw was refl

get_last : (events : List EventView) (event : EventView) → slice_get (events ++ event ∷ []) (length events) ≡ Some event
get_last [] event = refl
get_last (first ∷ events) event = get_last events event

last_more : (events : List EventView) (event : EventView) → last_of (events ++ event ∷ []) ≡ Some event
last_more events event =
    let end : length (events ++ event ∷ []) - 1 ≡ length events = omega (arith, length_push events event) in
    ap (slice_get (events ++ event ∷ [])) end ∙ get_last events event

-- ---- one item more

event_more : (items : List (Result EventView Error)) (event : EventView) → events_in (items ++ Ok event ∷ []) ≡ events_in items ++ event ∷ []
event_more items event = filter_map-append result_ok items (Ok event ∷ [])

no_error_more : (items : List (Result EventView Error)) (event : EventView) → count_by is_err (items ++ Ok event ∷ []) ≡ count_by is_err items
no_error_more items event = omega (arith, count_more is_err items (Ok event))

error_more : (items : List (Result EventView Error)) (error : Error) → events_in (items ++ Err error ∷ []) ≡ events_in items
error_more items error = filter_map-append result_ok items (Err error ∷ []) ∙ append-nil (events_in items)

-- ---- the largest event

abbrev Below : EventView → EventView → Type 0
Below event other = size_of other < size_of event

abbrev UpTo : EventView → EventView → Type 0
UpTo event other = size_of other ≤ size_of event

-- the same event, with one item more behind it, which is no larger event
stays_largest : (items : List (Result EventView Error)) (item : Result EventView Error) (largest : Largest) (is : IsLargest items largest)
    → All (UpTo is.event) (events_in (item ∷ [])) → IsLargest (items ++ item ∷ []) largest
stays_largest items item largest is no_larger = record {
  before = is.before;
  event = is.event;
  behind = is.behind ++ item ∷ [];
  whole = ap (λ (xs : List (Result EventView Error)). xs ++ item ∷ []) is.whole ∙ append_assoc is.before (Ok is.event ∷ is.behind) (item ∷ []);
  index = is.index;
  size = is.size;
  type = is.type;
  smaller = is.smaller;
  no_larger =
      subst (All (UpTo is.event)) (sym (filter_map-append result_ok is.behind (item ∷ [])))
      (All-append (UpTo is.event) (events_in is.behind) (events_in (item ∷ [])) is.no_larger no_larger);
}

-- all events up to now are smaller than a larger one than the largest
all_smaller : (items : List (Result EventView Error)) (largest : Largest) (is : IsLargest items largest) (event : EventView) → largest.size < size_of event → All (Below event) (events_in items)
all_smaller items largest is event less =
    let more : size_of is.event < size_of event = subst (λ (n : ℕ). n < size_of event) is.size less in
    let front : All (Below event) (events_in is.before) = All-weaker (Below is.event) (Below event) (λ x small. omega arith) (events_in is.before) is.smaller in
    let end : All (Below event) (events_in is.behind) = All-weaker (UpTo is.event) (Below event) (λ x small. omega arith) (events_in is.behind) is.no_larger in
    let split : events_in items ≡ events_in is.before ++ is.event ∷ events_in is.behind = ap events_in is.whole ∙ filter_map-append result_ok is.before (Ok is.event ∷ is.behind) in
    subst (All (Below event)) (sym split)
    (All-append (Below event) (events_in is.before) (is.event ∷ events_in is.behind) front (All-cons (Below event) is.event (events_in is.behind) more end))

abbrev pub as_largest : ℕ → EventView → Largest
as_largest index event = record { index = index; size = size_of event; event_type = type_of event }

is_new_largest : (items : List (Result EventView Error)) (event : EventView) → All (Below event) (events_in items) → IsLargest (items ++ Ok event ∷ []) (as_largest (length items) event)
is_new_largest items event smaller =
    record { before = items; event = event; behind = []; whole = refl; index = refl; size = refl; type = refl; smaller = smaller; no_larger = All-nil (UpTo event) }

-- what is to hold of the largest event, if there is one
abbrev pub FindsLargest : List (Result EventView Error) → Option Largest → Type 0
FindsLargest items found = MatchOption found (events_in items ≡ []) (IsLargest items)

larger_by : (items : List (Result EventView Error)) (event : EventView) (largest : Largest) (b : Bool) → ltb largest.size (size_of event) ≡ b → IsLargest items largest
    → FindsLargest (items ++ Ok event ∷ []) (cond b (Some (as_largest (length items) event)) (Some largest))
larger_by items event largest true less is = is_new_largest items event (all_smaller items largest is event (grind (arith, nat_tests)))
larger_by items event largest false more is =
    let up_to : size_of event ≤ size_of is.event = subst (λ (n : ℕ). size_of event ≤ n) is.size (grind (arith, nat_tests)) in
    stays_largest items (Ok event) largest is (All-cons (UpTo is.event) event [] up_to (All-nil (UpTo is.event)))

event_largest : (items : List (Result EventView Error)) (event : EventView) (found : Option Largest) → FindsLargest items found
    → FindsLargest (items ++ Ok event ∷ []) (larger found (as_largest (length items) event))
event_largest items event None none = is_new_largest items event (subst (All (Below event)) (sym none) (All-nil (Below event)))
event_largest items event (Some largest) is = larger_by items event largest (ltb largest.size (size_of event)) refl is

error_largest : (items : List (Result EventView Error)) (error : Error) (found : Option Largest) → FindsLargest items found → FindsLargest (items ++ Err error ∷ []) found
error_largest items error None none = error_more items error ∙ none
error_largest items error (Some largest) is = stays_largest items (Err error) largest is (All-nil (UpTo is.event))

-- ---- all items

-- What holds before some items, and stays with each one more, holds behind them.
module _ {T : Type 0} (visits : VisitRelation T) (holds : List (Result EventView Error) → T → Type 0)
    (more : (items : List (Result EventView Error)) (item : Result EventView Error) (maps : TableMaps) (old new : T) → holds items old → visits old maps (length items) item new → holds (items ++ item ∷ []) new) where
  all_visited : (maps : TableMaps) (done items : List (Result EventView Error)) (old new : T) → holds done old → Visits visits maps (length done) items old new → holds (done ++ items) new
  all_visited maps done [] old new was same = subst (holds (done ++ [])) (sym same) (subst (λ (xs : List (Result EventView Error)). holds xs old) (sym (append-nil done)) was)
  all_visited maps done (item ∷ items) old new was (mid, visited, rest) =
      subst (λ (xs : List (Result EventView Error)). holds xs new) (append_assoc done (item ∷ []) items)
      (all_visited (maps_behind maps item) (done ++ item ∷ []) items mid new (more done item (maps_behind maps item) old mid was visited)
      (subst (λ (n : ℕ). Visits visits (maps_behind maps item) n items mid new) (sym (length_push done item)) rest))

-- ---- statistics

pub record Counted (items : List (Result EventView Error)) (stats : Stats) : Type 0 where
  pub all : AreCounted items stats
  pub events_wide : length stats.events ≡ 256
  pub bytes_wide : length stats.bytes ≡ 256

pub none_is_counted : Counted [] no_items
none_is_counted = record {
  all = record {
    events = λ type within. get_or-replicate 256 type 0 0 within;
    bytes = λ type within. get_or-replicate 256 type 0 0 within;
    errors = refl;
    transactions = refl;
    first_time = refl;
    last_time = refl;
    largest = refl;
  };
  events_wide = refl;
  bytes_wide = refl;
}

abbrev pub with_event : Stats → ℕ → EventView → Stats
with_event old index event = record {
  events = set old.events (type_of event) (counted (get_or old.events (type_of event) 0) 1);
  bytes = set old.bytes (type_of event) (counted (get_or old.bytes (type_of event) 0) (length event.frame));
  errors = old.errors;
  transactions = counted_if (is_begin event) old.transactions;
  first_time = Some (unwrap_or old.first_time (time_of event));
  last_time = Some (time_of event);
  largest = larger old.largest (as_largest index event);
}

module _ (items : List (Result EventView Error)) (old : Stats) (was : Counted items old) where
  module _ (event : EventView) where
    events_more : (type : ℕ) → type < 256 → get_or (with_event old (length items) event).events type 0 ≡ saturated (length (of_type type (events_in (items ++ Ok event ∷ []))))
    events_more type within =
        set_more (type_of event) type 1 (length (of_type type (events_in items))) (length (of_type type (events_in (items ++ Ok event ∷ [])))) old.events (omega (arith, was.events_wide)) (was.all.events type within)
        (eqb (type_of event) type) refl
        (ap (λ (es : List EventView). length (of_type type es)) (event_more items event) ∙ length_more (λ (e : EventView). eqb (type_of e) type) (events_in items) event)

    bytes_more : (type : ℕ) → type < 256 → get_or (with_event old (length items) event).bytes type 0 ≡ saturated (bytes_of (of_type type (events_in (items ++ Ok event ∷ []))))
    bytes_more type within =
        set_more (type_of event) type (length event.frame) (bytes_of (of_type type (events_in items))) (bytes_of (of_type type (events_in (items ++ Ok event ∷ [])))) old.bytes (omega (arith, was.bytes_wide)) (was.all.bytes type within)
        (eqb (type_of event) type) refl
        (ap (λ (es : List EventView). bytes_of (of_type type es)) (event_more items event) ∙ sum_more (λ (e : EventView). eqb (type_of e) type) (events_in items) event (λ (e : EventView). length e.frame))

    event_counted : Counted (items ++ Ok event ∷ []) (with_event old (length items) event)
    event_counted = record {
      all = record {
        events = events_more;
        bytes = bytes_more;
        errors = was.all.errors ∙ ap saturated (sym (no_error_more items event));
        transactions =
            counted_if_more (is_begin event) old.transactions (count_by is_begin (events_in items)) was.all.transactions
            ∙ ap saturated (sym (ap (count_by is_begin) (event_more items event) ∙ count_more is_begin (events_in items) event));
        first_time = first_more time_of (events_in items) event old.first_time was.all.first_time ∙ ap (λ (es : List EventView). option_map time_of (first_of es)) (sym (event_more items event));
        last_time = sym (ap (λ (es : List EventView). option_map time_of (last_of es)) (event_more items event) ∙ ap (option_map time_of) (last_more (events_in items) event));
        largest = event_largest items event old.largest was.all.largest;
      };
      events_wide = length-set old.events (type_of event) _ ∙ was.events_wide;
      bytes_wide = length-set old.bytes (type_of event) _ ∙ was.bytes_wide;
    }

  error_counted : (error : Error) → Counted (items ++ Err error ∷ []) (record old { errors = counted old.errors 1 })
  error_counted error =
      let same : events_in items ≡ events_in (items ++ Err error ∷ []) = sym (error_more items error) in
      record {
        all = record {
          events = λ type within. was.all.events type within ∙ ap (λ (es : List EventView). saturated (length (of_type type es))) same;
          bytes = λ type within. was.all.bytes type within ∙ ap (λ (es : List EventView). saturated (bytes_of (of_type type es))) same;
          errors = counted_more old.errors (count_by is_err items) 1 was.all.errors ∙ ap saturated (sym (count_more is_err items (Err error)));
          transactions = was.all.transactions ∙ ap (λ (es : List EventView). saturated (count_by is_begin es)) same;
          first_time = was.all.first_time ∙ ap (λ (es : List EventView). option_map time_of (first_of es)) same;
          last_time = was.all.last_time ∙ ap (λ (es : List EventView). option_map time_of (last_of es)) same;
          largest = error_largest items error old.largest was.all.largest;
        };
        events_wide = was.events_wide;
        bytes_wide = was.bytes_wide;
      }

abbrev CountsAt : VisitRelation Stats
CountsAt old maps index item new = CountsItem old index item new

pub item_counted : (items : List (Result EventView Error)) (item : Result EventView Error) (maps : TableMaps) (old new : Stats) → Counted items old → CountsAt old maps (length items) item new → Counted (items ++ item ∷ []) new
item_counted items (Ok event) maps old new was is = subst (Counted (items ++ Ok event ∷ [])) (sym is) (event_counted items old was event)
item_counted items (Err error) maps old new was is = subst (Counted (items ++ Err error ∷ [])) (sym is) (error_counted items old was error)

pub all_counted : (maps : TableMaps) (items : List (Result EventView Error)) (new : Stats) → Visits CountsAt maps 0 items no_items new → AreCounted items new
all_counted maps items new visited = (all_visited CountsAt Counted item_counted maps [] items no_items new none_is_counted visited).all

-- ---- tallies

abbrev pub Tallies : VisitRelation Tally
Tallies old maps index item new = Counts old item new

item_tallied : (items : List (Result EventView Error)) (item : Result EventView Error) (maps : TableMaps) (old new : Tally) → AreTallied items old → Tallies old maps (length items) item new → AreTallied (items ++ item ∷ []) new
item_tallied items (Ok event) maps old new was is = subst (AreTallied (items ++ Ok event ∷ [])) (sym is) (record {
  events = counted_more old.events (length (events_in items)) 1 was.events ∙ ap saturated (sym (ap length (event_more items event) ∙ length_push (events_in items) event));
  bytes =
      counted_more old.bytes (bytes_of (events_in items)) (length event.frame) was.bytes
      ∙ ap saturated (sym (ap bytes_of (event_more items event) ∙ sum_by_push (λ (e : EventView). length e.frame) (events_in items) event));
  checksums =
      counted_if_more (is_checked event) old.checksums (count_by is_checked (events_in items)) was.checksums
      ∙ ap saturated (sym (ap (count_by is_checked) (event_more items event) ∙ count_more is_checked (events_in items) event));
  errors = was.errors ∙ ap saturated (sym (no_error_more items event));
})
item_tallied items (Err error) maps old new was is =
    let same : events_in items ≡ events_in (items ++ Err error ∷ []) = sym (error_more items error) in
    subst (AreTallied (items ++ Err error ∷ [])) (sym is) (record {
      events = was.events ∙ ap (λ (es : List EventView). saturated (length es)) same;
      bytes = was.bytes ∙ ap (λ (es : List EventView). saturated (bytes_of es)) same;
      checksums = was.checksums ∙ ap (λ (es : List EventView). saturated (count_by is_checked es)) same;
      errors = counted_more old.errors (count_by is_err items) 1 was.errors ∙ ap saturated (sym (count_more is_err items (Err error)));
    })

none_is_tallied : AreTallied [] none_counted
none_is_tallied = record { events = refl; bytes = refl; checksums = refl; errors = refl }

pub all_tallied : (maps : TableMaps) (items : List (Result EventView Error)) (new : Tally) → Visits Tallies maps 0 items none_counted new → AreTallied items new
all_tallied maps items new visited = all_visited Tallies AreTallied item_tallied maps [] items none_counted new none_is_tallied visited
