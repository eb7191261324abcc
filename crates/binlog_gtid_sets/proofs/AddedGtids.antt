-- What intervals and entries add, one after the other.
use Rattle.std.proofs.Common.{◌≡◌, ℕ, zero, suc, ◌^◌, ◌<◌, ◌≤◌, Bool, true, false, ltb, leb, cond, ◌&&◌, ◌||◌, List, [], ◌∷◌, length, drop, get_or, Option, Some, None, refl, arith}
use Rattle.std.specs.Option.{option_or}
use Rattle.std.proofs.lemmas.Bool.Decides.{nat_tests}
use Rattle.binlog_variable_fields.specs.declared.gno_interval.GnoInterval.{GnoInterval}
use Rattle.binlog_gtids.specs.declared.previous_gtids_sid.PreviousGtidsSid.{PreviousGtidsSid}
use Rattle.binlog_gtids.specs.GnoSets.{is_within, is_held}
use Rattle.binlog_event_data.specs.declared.event_data.EventData.{EventData}
use Rattle.binlog_event_data.specs.declared.event_data.EventData.TheVariants as variants
use Rattle.binlog_gtids.specs.declared.gtid_event.GtidEvent.{GtidEvent}
use Rattle.binlog_gtids.specs.declared.previous_gtids_event.PreviousGtidsEvent.{PreviousGtidsEvent}
use Rattle.binlog_gtid_sets.specs.AddedGtids.{bad_gno_in, bad_gno, bad_gno_listed, is_listed, is_added, bad_gno_of}
use Rattle.binlog_gtid_sets.specs.GtidGroups.{Pair, pair_of, is_same}

-- If the first of two options is None, each of them is.
first_none : (a b : Option ℕ) → option_or a b ≡ None → a ≡ None
first_none None b h = refl
first_none (Some x) b h = absurd cc

rest_none : (a b : Option ℕ) → option_or a b ≡ None → b ≡ None
rest_none None b h = h
rest_none (Some x) b h = absurd cc

pub good_at : (is : List GnoInterval) (k : ℕ) (d : GnoInterval) → k < length is → bad_gno (drop k is) ≡ None → bad_gno_in (get_or is k d) ≡ None
good_at [] k d within good = absurd (omega arith)
good_at (i ∷ is) zero d within good = first_none (bad_gno_in i) (bad_gno is) good
good_at (i ∷ is) (suc k) d within good = good_at is k d (omega arith) good

pub good_after : (is : List GnoInterval) (k : ℕ) → bad_gno (drop k is) ≡ None → bad_gno (drop (suc k) is) ≡ None
good_after [] k good = refl
good_after (i ∷ is) zero good = rest_none (bad_gno_in i) (bad_gno is) good
good_after (i ∷ is) (suc k) good = good_after is k good

-- The bounds of an interval that has numbers, all of them allowed.
module _ (i : GnoInterval) (some : i.start < i.end) where
  bounds_by : (a b c : Bool) → ltb i.start i.end ≡ a → (leb 1 i.start && ltb i.start (2 ^ 63)) ≡ b → ltb (2 ^ 63) i.end ≡ c
      → cond a (cond b (cond c (Some (2 ^ 63)) None) (Some i.start)) None ≡ None → (1 ≤ i.start) × (i.end ≤ 2 ^ 63)
  bounds_by true true false f g h good = (grind (arith, nat_tests), grind (arith, nat_tests))
  bounds_by true true true f g h good = absurd cc
  bounds_by true false c f g h good = absurd cc
  bounds_by false b c f g h good = absurd (grind (arith, nat_tests))

  pub good_bounds : bad_gno_in i ≡ None → (1 ≤ i.start) × (i.end ≤ 2 ^ 63)
  good_bounds good = bounds_by (ltb i.start i.end) (leb 1 i.start && ltb i.start (2 ^ 63)) (ltb (2 ^ 63) i.end) refl refl refl good

-- An interval without numbers.
pub none_in : (i : GnoInterval) (n : ℕ) → i.end ≤ i.start → is_within i n ≡ false
none_in i n le = grind (arith, nat_tests)

and_or : (same a b t : Bool) → ((same && b) || ((same && a) || t)) ≡ ((same && (a || b)) || t)
and_or true true true t = refl
and_or true true false t = refl
and_or true false b t = refl
and_or false a b t = refl

-- One more interval.
pub interval_held : (is : List GnoInterval) (k n : ℕ) (d : GnoInterval) (same old new : Bool) → k < length is → new ≡ ((same && is_within (get_or is k d) n) || old)
    → ((same && is_held (drop (suc k) is) n) || new) ≡ ((same && is_held (drop k is) n) || old)
interval_held [] k n d same old new within put = absurd (omega arith)
interval_held (i ∷ is) zero n d same old new within put = rw put (and_or same (is_within i n) (is_held is n) old)
interval_held (i ∷ is) (suc k) n d same old new within put = interval_held is k n d same old new (omega arith) put

-- An interval without the number changes nothing.
pub same_held : (same inside old : Bool) → inside ≡ false → old ≡ ((same && inside) || old)
same_held true inside old none = rw none refl
same_held false inside old none = refl

pub entry_good : (es : List PreviousGtidsSid) (k : ℕ) (d : PreviousGtidsSid) → k < length es → bad_gno_listed (drop k es) ≡ None → bad_gno (get_or es k d).intervals ≡ None
entry_good [] k d within good = absurd (omega arith)
entry_good (e ∷ es) zero d within good = first_none (bad_gno e.intervals) (bad_gno_listed es) good
entry_good (e ∷ es) (suc k) d within good = entry_good es k d (omega arith) good

pub entries_good : (es : List PreviousGtidsSid) (k : ℕ) → bad_gno_listed (drop k es) ≡ None → bad_gno_listed (drop (suc k) es) ≡ None
entries_good [] k good = refl
entries_good (e ∷ es) zero good = rest_none (bad_gno e.intervals) (bad_gno_listed es) good
entries_good (e ∷ es) (suc k) good = entries_good es k good

or_swap : (a b t : Bool) → (b || (a || t)) ≡ ((a || b) || t)
or_swap true true t = refl
or_swap true false t = refl
or_swap false b t = refl

-- One more entry.
pub entry_held : (es : List PreviousGtidsSid) (k n : ℕ) (q : Pair) (d : PreviousGtidsSid) (old new : Bool) → k < length es
    → new ≡ ((is_same (pair_of (get_or es k d).uuid (get_or es k d).tag) q && is_held (get_or es k d).intervals n) || old)
    → (is_listed (drop (suc k) es) q n || new) ≡ (is_listed (drop k es) q n || old)
entry_held [] k n q d old new within put = absurd (omega arith)
entry_held (e ∷ es) zero n q d old new within put = rw put (or_swap (is_same (pair_of e.uuid e.tag) q && is_held e.intervals n) (is_listed es q n) old)
entry_held (e ∷ es) (suc k) n q d old new within put = entry_held es k n q d old new (omega arith) put

-- ---- other events

pub adds_nothing : (event : EventData) → ((x : GtidEvent) → event ≡ variants.GtidEvent x → ⊥) → ((x : PreviousGtidsEvent) → event ≡ variants.PreviousGtidsEvent x → ⊥)
    → (p : Pair) (n : ℕ) → is_added event p n ≡ false
adds_nothing (variants.GtidEvent x) other none p n = absurd (other x refl)
adds_nothing (variants.PreviousGtidsEvent x) other none p n = absurd (none x refl)
adds_nothing _ other none p n = refl

pub refuses_nothing : (event : EventData) → ((x : GtidEvent) → event ≡ variants.GtidEvent x → ⊥) → ((x : PreviousGtidsEvent) → event ≡ variants.PreviousGtidsEvent x → ⊥)
    → bad_gno_of event ≡ None
refuses_nothing (variants.GtidEvent x) other none = absurd (other x refl)
refuses_nothing (variants.PreviousGtidsEvent x) other none = absurd (none x refl)
refuses_nothing _ other none = refl
