-- The statistics by time, fact by fact.
use Rattle.std.proofs.Common.{◌≡◌, ℕ, ◌+◌, inl, inr, Bool, true, false, cond, ltb, eqb, List, [], ◌∷◌, ◌++◌, length, Option, Some, None, refl, sym, ap, subst, ◌∙◌, arith, append_assoc, append-nil}
use Rattle.std.specs.Prelude.{unwrap_or, is_some, MatchOption, ◌≢◌}
use Rattle.std.specs.BTreeMap.{IsOrdered}
use Rattle.std.specs.Int.NonZero.{non_zero_u32_get}
use Rattle.std.specs.List.Sorted.{IsStrictlySortedBy}
use Rattle.std.specs.Ordering.{nat_cmp}
use Rattle.std.proofs.lemmas.Bool.Decides.{nat_tests}
use Rattle.std.proofs.lemmas.List.{length_push}
use Rattle.change_statistics.specs.Facts.{Fact}
use Rattle.change_statistics.specs.Intervals.{seconds_of, start_of, counts_of, CountsNoInterval, PutsInterval, AddsToInterval, AddsByTime, AddsAllByTime}
use Rattle.change_statistics.specs.WholeIntervals.{lies_in, of_interval, AreIntervalStats}
use Rattle.change_statistics.specs.WholeCounts.{bytes}
use Rattle.change_statistics.specs.WholeEvents.{AreEventCounts}
use Rattle.change_statistics.specs.EventCounting.{no_event_counts, with_event}
use Rattle.change_statistics.specs.declared.event_counts.EventCounts.{EventCounts}
use Rattle.change_statistics.specs.declared.intervals.IntervalStats.{IntervalStats}
use Rattle.change_statistics.proofs.MoreCounted.{filter_more, filter_same}
use Rattle.change_statistics.proofs.CountedEvents.{none_counted, one_counted}
use Rattle.change_statistics.proofs.Numbers.{same_number, own_number}

-- ---- all intervals

abbrev counts_at : IntervalStats → ℕ → EventCounts
counts_at stats interval = unwrap_or (counts_of stats interval) no_event_counts

-- The statistics are those of the facts.
pub record Held (seconds : ℕ) (facts : List Fact) (stats : IntervalStats) : Type 0 where
  pub width : seconds_of stats ≡ seconds
  pub intervals : (interval : ℕ) → AreEventCounts bytes (of_interval seconds interval facts) (counts_at stats interval)
  pub there : (interval : ℕ) → is_some (counts_of stats interval) ≡ ltb 0 (length (of_interval seconds interval facts))
  pub ordered : IsOrdered nat_cmp stats.intervals

nothing_ordered : (stats : IntervalStats) → stats.intervals.entries ≡ [] → IsOrdered nat_cmp stats.intervals
unfolding IsStrictlySortedBy
nothing_ordered stats none = rw none tt

none_held : (stats : IntervalStats) → CountsNoInterval stats → Held (seconds_of stats) [] stats
none_held stats empty =
    let none : (interval : ℕ) → counts_of stats interval ≡ None = λ interval. rw empty.intervals refl in
    record {
      width = refl;
      intervals = λ interval. rw (none interval) (none_counted bytes);
      there = λ interval. rw (none interval) refl;
      ordered = nothing_ordered stats empty.intervals;
    }

positive : (n : ℕ) → ltb 0 (n + 1) ≡ true
positive n = grind (arith, nat_tests)

module _ (seconds : ℕ) (facts : List Fact) (fact : Fact) (old new : IntervalStats) (was : Held seconds facts old) where
  -- where the interval of the event begins
  abbrev Own : ℕ
  Own = start_of seconds fact.time

  abbrev Of : ℕ → List Fact
  Of interval = of_interval seconds interval facts

  abbrev Then : ℕ → List Fact
  Then interval = of_interval seconds interval (facts ++ fact ∷ [])

  abbrev Counted : EventCounts
  Counted = with_event (counts_at old Own) fact.bytes fact

  module _ (puts : PutsInterval old Own Counted new) where
    of_own : Then Own ≡ Of Own ++ fact ∷ []
    of_own = filter_more (lies_in seconds Own) facts fact (own_number Own)

    of_other : (interval : ℕ) → eqb Own interval ≡ false → Then interval ≡ Of interval
    of_other interval other = filter_same (lies_in seconds interval) facts fact other

    own_counts : counts_of new Own ≡ Some Counted
    own_counts = puts.intervals Own ∙ ap (λ (b : Bool). cond b (Some Counted) (counts_of old Own)) (own_number Own)

    other_counts : (interval : ℕ) → eqb Own interval ≡ false → counts_of new interval ≡ counts_of old interval
    other_counts interval other = puts.intervals interval ∙ ap (λ (b : Bool). cond b (Some Counted) (counts_of old interval)) other

    own_held : AreEventCounts bytes (Then Own) (counts_at new Own)
    own_held =
        subst (λ (found : Option EventCounts). AreEventCounts bytes (Then Own) (unwrap_or found no_event_counts)) (sym own_counts)
        (subst (λ (l : List Fact). AreEventCounts bytes l Counted) (sym of_own) (one_counted bytes (Of Own) fact (counts_at old Own) (was.intervals Own)))

    each_held : (interval : ℕ) (b : Bool) → eqb Own interval ≡ b → AreEventCounts bytes (Then interval) (counts_at new interval)
    each_held interval true is = subst (λ (i : ℕ). AreEventCounts bytes (Then i) (counts_at new i)) (same_number Own interval is) own_held
    each_held interval false other =
        subst (λ (found : Option EventCounts). AreEventCounts bytes (Then interval) (unwrap_or found no_event_counts)) (sym (other_counts interval other))
        (subst (λ (l : List Fact). AreEventCounts bytes l (counts_at old interval)) (sym (of_other interval other)) (was.intervals interval))

    own_there : is_some (counts_of new Own) ≡ ltb 0 (length (Then Own))
    own_there = ap is_some own_counts ∙ sym (ap (λ (l : List Fact). ltb 0 (length l)) of_own ∙ ap (ltb 0) (length_push (Of Own) fact) ∙ positive (length (Of Own)))

    each_there : (interval : ℕ) (b : Bool) → eqb Own interval ≡ b → is_some (counts_of new interval) ≡ ltb 0 (length (Then interval))
    each_there interval true is = subst (λ (i : ℕ). is_some (counts_of new i) ≡ ltb 0 (length (Then i))) (same_number Own interval is) own_there
    each_there interval false other =
        ap is_some (other_counts interval other) ∙ was.there interval ∙ ap (λ (l : List Fact). ltb 0 (length l)) (sym (of_other interval other))

    put_held : Held seconds (facts ++ fact ∷ []) new
    put_held = record {
      width = ap non_zero_u32_get puts.seconds ∙ was.width;
      intervals = λ interval. each_held interval (eqb Own interval) refl;
      there = λ interval. each_there interval (eqb Own interval) refl;
      ordered = puts.ordered;
    }

-- What is full stays full.
stays_full : (facts : List Fact) (old new : IntervalStats) → AddsAllByTime facts old new → old.is_full ≡ true → new.is_full ≡ true
stays_full [] old new same full = ap (λ (s : IntervalStats). s.is_full) same ∙ full
stays_full (fact ∷ facts) old new (mid, inl kept, rest) full = stays_full facts mid new rest (ap (λ (s : IntervalStats). s.is_full) kept.1 ∙ full)
stays_full (fact ∷ facts) old new (mid, inr added, rest) full = absurd (let no : true ≡ false = sym full ∙ added.0 in cc)

added_held : (seconds : ℕ) (facts : List Fact) (fact : Fact) (old new : IntervalStats) → Held seconds facts old → AddsToInterval old (start_of (seconds_of old) fact.time) fact new → Held seconds (facts ++ fact ∷ []) new
added_held seconds facts fact old new was added =
    put_held seconds facts fact old new was
    (subst (λ (s : ℕ). PutsInterval old (start_of s fact.time) (with_event (counts_at old (start_of s fact.time)) fact.bytes fact) new) was.width added.1)

fact_held : (seconds : ℕ) (facts : List Fact) (fact : Fact) (old new : IntervalStats) → Held seconds facts old → AddsByTime old fact new → new.is_full ≡ false
    → Held seconds (facts ++ fact ∷ []) new
fact_held seconds facts fact old new was (inl kept) room = absurd (let no : true ≡ false = sym kept.0 ∙ sym (ap (λ (s : IntervalStats). s.is_full) kept.1) ∙ room in cc)
fact_held seconds facts fact old new was (inr (empty, inl added)) room = added_held seconds facts fact old new was added
fact_held seconds facts fact old new was (inr (empty, inr none)) room = absurd (let full : true ≡ false = sym (ap (λ (s : IntervalStats). s.is_full) none.2) ∙ room in cc)

all_held : (seconds : ℕ) (done facts : List Fact) (old new : IntervalStats) → Held seconds done old → AddsAllByTime facts old new → new.is_full ≡ false → Held seconds (done ++ facts) new
all_held seconds done [] old new was same room =
    subst (Held seconds (done ++ [])) (sym same) (subst (λ (l : List Fact). Held seconds l old) (sym (append-nil done)) was)
all_held seconds done (fact ∷ facts) old new was (mid, added, rest) room = by (λ held. all_held seconds (done ++ fact ∷ []) facts mid new held rest room) mid.is_full refl
  where
    by : (Held seconds (done ++ fact ∷ []) mid → Held seconds ((done ++ fact ∷ []) ++ facts) new) → (b : Bool) → mid.is_full ≡ b → Held seconds (done ++ fact ∷ facts) new
    by goes_on true full = absurd (let no : true ≡ false = sym (stays_full facts mid new rest full) ∙ room in cc)
    by goes_on false room_yet =
        subst (λ (l : List Fact). Held seconds l new) (append_assoc done (fact ∷ []) facts)
        (goes_on (fact_held seconds done fact old mid was added room_yet))

not_nil : (x : Fact) (l : List Fact) → x ∷ l ≡ [] → ⊥
not_nil x l none = cc

matched : (l : List Fact) (found : Option EventCounts) → is_some found ≡ ltb 0 (length l) → AreEventCounts bytes l (unwrap_or found no_event_counts)
    → MatchOption found (l ≡ []) (λ counts. (l ≢ []) × AreEventCounts bytes l counts)
matched [] None there are = refl
matched (x ∷ l) None there are =
    let long : length (x ∷ l) ≡ length l + 1 = omega arith in
    absurd (let no : false ≡ true = there ∙ ap (ltb 0) long ∙ positive (length l) in cc)
matched [] (Some counts) there are = absurd cc
matched (x ∷ l) (Some counts) there are = (not_nil x l, are)

pub all_counted_by_time : (facts : List Fact) (old new : IntervalStats) → CountsNoInterval old → AddsAllByTime facts old new → new.is_full ≡ false → AreIntervalStats (seconds_of old) facts new
all_counted_by_time facts old new empty added room =
    let held : Held (seconds_of old) facts new = all_held (seconds_of old) [] facts old new (none_held old empty) added room in
    record {
      width = held.width;
      intervals = λ interval. matched (of_interval (seconds_of old) interval facts) (counts_of new interval) (held.there interval) (held.intervals interval);
      ordered = held.ordered;
    }
