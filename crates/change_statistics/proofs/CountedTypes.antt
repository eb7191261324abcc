-- The counts by type, event by event.
use Rattle.std.proofs.Common.{◌≡◌, ℕ, ◌+◌, ◌<◌, Bool, true, false, cond, eqb, List, [], ◌∷◌, ◌++◌, length, get_or, set, Option, Some, None, refl, sym, ap, subst, ◌∙◌, arith, append_assoc, append-nil}
use Rattle.std.specs.Prelude.{filter, count_by, sum_by, is_none}
use Rattle.std.proofs.lemmas.List.{get_or-replicate, get_or-set_same, get_or-set_other, length-set}
use Rattle.std.proofs.lemmas.List.Elements.{filter_map-append, filter-append}
use Rattle.std.proofs.lemmas.List.Sums.{length-filter, sum_by-append}
use Rattle.std.proofs.lemmas.Bool.Decides.{nat_tests}
use Rattle.change_statistics.specs.Counting.{saturated, counted, AddsEach}
use Rattle.change_statistics.specs.TypeCounting.{Typed, no_type_counts, with_typed, with_error, CountsTyped}
use Rattle.change_statistics.specs.WholeTypes.{event_at, events_in, of_type, bytes_of, AreTypeCounts}
use Rattle.change_statistics.specs.declared.type_counts.TypeCounts.{TypeCounts}
use Rattle.change_statistics.proofs.MoreCounted.{counted_more, count_more}

-- ---- one event more

-- the sum behind an event that may be of the type
module _ (place type more n new : ℕ) (counts : List ℕ) (within : type < length counts) (was : get_or counts type 0 ≡ saturated n) where
  set_more : (b : Bool) → eqb place type ≡ b → new ≡ n + cond b more 0 → get_or (set counts place (counted (get_or counts place 0) more)) type 0 ≡ saturated new
  set_more true same is =
      let here : place ≡ type = grind (arith, nat_tests) in
      rw here (get_or-set_same counts type (counted (get_or counts type 0) more) 0 within ∙ counted_more (get_or counts type 0) n more was ∙ ap saturated (sym is))
  set_more false other is =
      let apart : type ≡ place → ⊥ = λ same. grind (arith, nat_tests) in
      get_or-set_other counts place type (counted (get_or counts place 0) more) 0 apart ∙ was ∙ ap saturated (omega arith)

module _ {X : Type 0} (p : X → Bool) (xs : List X) (x : X) where
  length_more : length (filter p (xs ++ x ∷ [])) ≡ length (filter p xs) + cond (p x) 1 0
  length_more = length-filter p (xs ++ x ∷ []) ∙ count_more p xs x ∙ ap (λ (n : ℕ). n + cond (p x) 1 0) (sym (length-filter p xs))

  sum_one : (f : X → ℕ) (b : Bool) → p x ≡ b → sum_by f (filter p (x ∷ [])) ≡ cond b (f x) 0
  sum_one f true is = rw is (omega arith)
  sum_one f false is = rw is refl

  sum_more : (f : X → ℕ) → sum_by f (filter p (xs ++ x ∷ [])) ≡ sum_by f (filter p xs) + cond (p x) (f x) 0
  sum_more f = ap (sum_by f) (filter-append p xs (x ∷ [])) ∙ sum_by-append f (filter p xs) (filter p (x ∷ [])) ∙ ap (λ (n : ℕ). sum_by f (filter p xs) + n) (sum_one f (p x) refl)

event_more : (items : List (Option Typed)) (event : Typed) → events_in (items ++ Some event ∷ []) ≡ events_in items ++ event ∷ []
event_more items event = filter_map-append event_at items (Some event ∷ [])

error_more : (items : List (Option Typed)) → events_in (items ++ None ∷ []) ≡ events_in items
error_more items = filter_map-append event_at items (None ∷ []) ∙ append-nil (events_in items)

-- ---- all events

record Held (items : List (Option Typed)) (counts : TypeCounts) : Type 0 where
  all : AreTypeCounts items counts
  events_wide : length counts.events ≡ 256
  bytes_wide : length counts.bytes ≡ 256

none_held : Held [] no_type_counts
none_held = record {
  all = record { events = λ type within. get_or-replicate 256 type 0 0 within; bytes = λ type within. get_or-replicate 256 type 0 0 within; errors = refl };
  events_wide = refl;
  bytes_wide = refl;
}

module _ (items : List (Option Typed)) (old : TypeCounts) (was : Held items old) where
  module _ (event : Typed) where
    events_more : (type : ℕ) → type < 256 → get_or (with_typed old event.type event.bytes).events type 0 ≡ saturated (length (of_type type (events_in (items ++ Some event ∷ []))))
    events_more type within =
        set_more event.type type 1 (length (of_type type (events_in items))) (length (of_type type (events_in (items ++ Some event ∷ [])))) old.events (omega (arith, was.events_wide)) (was.all.events type within)
        (eqb event.type type) refl
        (ap (λ (es : List Typed). length (of_type type es)) (event_more items event) ∙ length_more (λ (e : Typed). eqb e.type type) (events_in items) event)

    bytes_more : (type : ℕ) → type < 256 → get_or (with_typed old event.type event.bytes).bytes type 0 ≡ saturated (bytes_of (of_type type (events_in (items ++ Some event ∷ []))))
    bytes_more type within =
        set_more event.type type event.bytes (bytes_of (of_type type (events_in items))) (bytes_of (of_type type (events_in (items ++ Some event ∷ [])))) old.bytes (omega (arith, was.bytes_wide)) (was.all.bytes type within)
        (eqb event.type type) refl
        (ap (λ (es : List Typed). bytes_of (of_type type es)) (event_more items event) ∙ sum_more (λ (e : Typed). eqb e.type type) (events_in items) event (λ (e : Typed). e.bytes))

    event_held : Held (items ++ Some event ∷ []) (with_typed old event.type event.bytes)
    event_held = record {
      all = record {
        events = events_more;
        bytes = bytes_more;
        errors = was.all.errors ∙ ap saturated (sym (omega (arith, count_more is_none items (Some event))));
      };
      events_wide = length-set old.events event.type _ ∙ was.events_wide;
      bytes_wide = length-set old.bytes event.type _ ∙ was.bytes_wide;
    }

  error_held : Held (items ++ None ∷ []) (with_error old)
  error_held =
      let same : events_in items ≡ events_in (items ++ None ∷ []) = sym (error_more items) in
      record {
        all = record {
          events = λ type within. was.all.events type within ∙ ap (λ (es : List Typed). saturated (length (of_type type es))) same;
          bytes = λ type within. was.all.bytes type within ∙ ap (λ (es : List Typed). saturated (bytes_of (of_type type es))) same;
          errors = counted_more old.errors (count_by is_none items) 1 was.all.errors ∙ ap saturated (sym (count_more is_none items None));
        };
        events_wide = was.events_wide;
        bytes_wide = was.bytes_wide;
      }

one_held : (items : List (Option Typed)) (old : TypeCounts) (item : Option Typed) (new : TypeCounts) → Held items old → CountsTyped old item new → Held (items ++ item ∷ []) new
one_held items old (Some event) new was is = subst (Held (items ++ Some event ∷ [])) (sym is) (event_held items old was event)
one_held items old None new was is = subst (Held (items ++ None ∷ [])) (sym is) (error_held items old was)

all_held : (done items : List (Option Typed)) (old new : TypeCounts) → Held done old → AddsEach CountsTyped items old new → Held (done ++ items) new
all_held done [] old new was same = subst (Held (done ++ [])) (sym same) (subst (λ (l : List (Option Typed)). Held l old) (sym (append-nil done)) was)
all_held done (item ∷ items) old new was (mid, one, rest) =
    subst (λ (l : List (Option Typed)). Held l new) (append_assoc done (item ∷ []) items) (all_held (done ++ item ∷ []) items mid new (one_held done old item mid was one) rest)

pub all_typed : (items : List (Option Typed)) (new : TypeCounts) → AddsEach CountsTyped items no_type_counts new → AreTypeCounts items new
all_typed items new added = (all_held [] items no_type_counts new none_held added).all
