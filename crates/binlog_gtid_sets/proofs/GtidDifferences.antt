-- What one set of GTIDs contains and another doesn't, group by group and entry by entry.
use Rattle.std.proofs.Common.{◌≡◌, ℕ, zero, suc, ◌+◌, ◌<◌, ◌≤◌, Bool, true, false, cond, ◌&&◌, ◌||◌, not, List, [], ◌∷◌, ◌++◌, length, drop, get_or, Result, Ok, Err, IfOk, OnOk, ◌↔◌, add-one, refl, sym, ap, subst, ◌∙◌, inl, inr, arith}
use Rattle.std.specs.Prelude.{IsTrue}
use Rattle.std.specs.declared.cmp.Ordering.TheVariants.{Less}
use Rattle.std.specs.Ordering.{is_eq}
use Rattle.std.proofs.lemmas.Bool.{cases_lt}
use Rattle.std.proofs.lemmas.List.{get_or_read}
use Rattle.binlog_variable_fields.specs.declared.gno_interval.GnoInterval.{GnoInterval}
use Rattle.binlog_gtids.specs.declared.previous_gtids_sid.PreviousGtidsSid.{PreviousGtidsSid}
use Rattle.binlog_gtids.specs.GnoSets.{is_held}
use Rattle.binlog_gtid_sets.specs.declared.gtid_group.GtidGroup.{GtidGroup}
use Rattle.binlog_gtid_sets.specs.AddedGtids.{is_listed}
use Rattle.binlog_gtid_sets.specs.GtidGroups.{Pair, pair_of, pair_in, compare_pairs, is_same, intervals_of, is_tracked, AreGroups, AreBelow}
use Rattle.binlog_gtid_sets.proofs.GtidGroups.{not_both, lookup_absent, same_intervals, own_intervals, same_itself, Added, added_in_gap, are_in_gap, gap_above, pushed, below_pushed}

-- ---- the groups of one set in another

-- a GTID of the set is in a group
abbrev pub InGroup : List GtidGroup → Pair → ℕ → GtidGroup → Type 0
InGroup groups q n d = (k : ℕ) × (k < length groups) × (is_same (pair_in (get_or groups k d)) q ≡ true) × (is_held (get_or groups k d).gnos n ≡ true)

module _ (g : GtidGroup) (groups : List GtidGroup) (q : Pair) (n : ℕ) (d : GtidGroup) where
  in_group_by : (b : Bool) → is_same (pair_in g) q ≡ b → is_held (cond b g.gnos (intervals_of groups q)) n ≡ true → (is_tracked groups q n ≡ true → InGroup groups q n d)
      → InGroup (g ∷ groups) q n d
  in_group_by true f h rest = (0, omega arith, f, h)
  in_group_by false f h rest = let there = rest h in (suc there.0, omega (arith, there.1), there.2, there.3)

pub in_group : (groups : List GtidGroup) (q : Pair) (n : ℕ) (d : GtidGroup) → is_tracked groups q n ≡ true → InGroup groups q n d
in_group [] q n d h = absurd cc
in_group (g ∷ groups) q n d h = in_group_by g groups q n d (is_same (pair_in g) q) refl h (λ h. in_group groups q n d h)

-- the other set contains the numbers of the first groups
abbrev pub ContainsFirst : List GtidGroup → List GtidGroup → ℕ → Type 0
ContainsFirst groups others at =
    (k : ℕ) (d : GtidGroup) → k < at → (n : ℕ) → is_held (get_or groups k d).gnos n ≡ true → is_tracked others (pair_in (get_or groups k d)) n ≡ true

-- one more group
pub group_contained : (groups others : List GtidGroup) (at : ℕ) (g : GtidGroup) → at < length groups → g ≡ get_or groups at g → ContainsFirst groups others at
    → ((n : ℕ) → is_held g.gnos n ≡ true → is_tracked others (pair_in g) n ≡ true) → ContainsFirst groups others (at + 1)
group_contained groups others at g within g_is each here k d less n held = elim (cases_lt k at) [
  | inl before ↦ each k d before n held
  | inr after ↦ (
      let same : k ≡ at = omega arith in
      let there : get_or groups k d ≡ g = ap (λ (i : ℕ). get_or groups i d) same ∙ sym (get_or_read groups at g within g_is d) in
      ap (λ (x : GtidGroup). is_tracked others (pair_in x) n) there ∙ here n (ap (λ (x : GtidGroup). is_held x.gnos n) (sym there) ∙ held))
]

-- the set contains the numbers of its own group
pub group_tracked : (groups : List GtidGroup) → AreGroups groups → (at n : ℕ) (g : GtidGroup) → at < length groups → g ≡ get_or groups at g → is_held g.gnos n ≡ true → is_tracked groups (pair_in g) n ≡ true
group_tracked groups are at n g within g_is held = ap (λ (is : List GnoInterval). is_held is n) (own_intervals groups are at g within g_is) ∙ held

pub subset_done : (groups others : List GtidGroup) (at : ℕ) → length groups ≤ at → ContainsFirst groups others at → (q : Pair) (n : ℕ) → (d : GtidGroup) → is_tracked groups q n ≡ true → is_tracked others q n ≡ true
subset_done groups others at past each q n d h =
    let there = in_group groups q n d h in
    let found = each there.0 d (omega (arith, there.1)) n there.3 in
    ap (λ (is : List GnoInterval). is_held is n) (sym (same_intervals others (pair_in (get_or groups there.0 d)) q there.2)) ∙ found

-- ---- the difference, one group after the other

pub tail_groups : (g : GtidGroup) (groups : List GtidGroup) → AreGroups (g ∷ groups) → AreGroups groups
tail_groups g groups are = record {
  ascending = λ i j d less within. are.ascending (suc i) (suc j) d (omega arith) (omega arith);
  filled = λ i d within. are.filled (suc i) d (omega arith);
}

-- no later group has the pair of the first
pub after_first : (g : GtidGroup) (groups : List GtidGroup) (q : Pair) → AreGroups (g ∷ groups) → is_same (pair_in g) q ≡ true → intervals_of groups q ≡ []
after_first g groups q are same =
    lookup_absent groups q (λ j d less. not_both (pair_in g) (pair_in (get_or groups j d)) q (ap is_eq (are.ascending 0 (suc j) d (omega arith) (omega arith))) same)

here_by : (held gone old : Bool) → (((held && not gone) || old) || (false && not gone)) ≡ (old || (held && not gone))
here_by true true true = refl
here_by true true false = refl
here_by true false true = refl
here_by true false false = refl
here_by false gone true = refl
here_by false gone false = refl

module _ (g : GtidGroup) (groups others : List GtidGroup) (q : Pair) (n : ℕ) (are : AreGroups (g ∷ groups)) (old new : Bool) where
  left_by : (b : Bool) → is_same (pair_in g) q ≡ b → new ≡ ((b && (is_held g.gnos n && not (is_tracked others (pair_in g) n))) || old)
      → (new || (is_tracked groups q n && not (is_tracked others q n))) ≡ (old || (is_held (cond b g.gnos (intervals_of groups q)) n && not (is_tracked others q n)))
  left_by true f put =
      let none : intervals_of groups q ≡ [] = after_first g groups q are f in
      let alike : is_tracked others (pair_in g) n ≡ is_tracked others q n = ap (λ (is : List GnoInterval). is_held is n) (same_intervals others (pair_in g) q f) in
      rw (put, none, alike) (here_by (is_held g.gnos n) (is_tracked others q n) old)
  left_by false f put = rw put refl

-- one more group
pub group_left : (groups others : List GtidGroup) (k n : ℕ) (q : Pair) (d : GtidGroup) (old new : Bool) → AreGroups groups → k < length groups
    → new ≡ ((is_same (pair_in (get_or groups k d)) q && (is_held (get_or groups k d).gnos n && not (is_tracked others (pair_in (get_or groups k d)) n))) || old)
    → (new || (is_tracked (drop (suc k) groups) q n && not (is_tracked others q n))) ≡ (old || (is_tracked (drop k groups) q n && not (is_tracked others q n)))
group_left [] others k n q d old new are within put = absurd (omega arith)
group_left (g ∷ groups) others zero n q d old new are within put = left_by g groups others q n are old new (is_same (pair_in g) q) refl put
group_left (g ∷ groups) others (suc k) n q d old new are within put = group_left groups others k n q d old new (tail_groups g groups are) (omega arith) put

pub group_step : (groups others : List GtidGroup) (k n : ℕ) (q : Pair) (g : GtidGroup) (old new : Bool) → AreGroups groups → k < length groups → g ≡ get_or groups k g
    → new ≡ ((is_same (pair_in g) q && (is_held g.gnos n && not (is_tracked others (pair_in g) n))) || old)
    → (new || (is_tracked (drop (k + 1) groups) q n && not (is_tracked others q n))) ≡ (old || (is_tracked (drop k groups) q n && not (is_tracked others q n)))
group_step groups others k n q g old new are within g_is put =
    rw add-one (group_left groups others k n q g old new are within
    (put ∙ ap (λ (x : GtidGroup). (is_same (pair_in x) q && (is_held x.gnos n && not (is_tracked others (pair_in x) n))) || old) g_is))

-- ---- one group more at the end, or none

some_length : (is : List GnoInterval) → (is ≡ [] → ⊥) → 0 < length is
some_length [] some = absurd (some refl)
some_length (i ∷ is) some = omega arith

and_none : (same held gone old : Bool) → held ≡ false → old ≡ ((same && held) || old)
and_none true held gone old none = rw none refl
and_none false held gone old none = refl

pub no_group : (groups : List GtidGroup) (p : Pair) (is : List GnoInterval) (h : ℕ → Bool) → is ≡ [] → ((n : ℕ) → is_held is n ≡ h n) → Added groups groups p h
no_group groups p is h none held q n = and_none (is_same p q) (h n) false (is_tracked groups q n) (sym (held n) ∙ ap (λ (is : List GnoInterval). is_held is n) none)

module _ (groups : List GtidGroup) (are : AreGroups groups) (p : Pair) (below : AreBelow groups p) (h : ℕ → Bool)
    (g : GtidGroup) (pair : pair_in g ≡ p) (some : g.gnos ≡ [] → ⊥) (held : (n : ℕ) → is_held g.gnos n ≡ h n) where
  pub are_pushed : {T E : Type 0} (r : Result T E) (new : List GtidGroup) → OnOk r (new ≡ groups ++ g ∷ []) → OnOk r (AreGroups new)
  are_pushed (Ok x) new put =
      subst AreGroups (sym (put ∙ pushed groups g)) (are_in_gap groups are p (length groups) (gap_above groups p below) h g (some_length g.gnos some) pair held)
  are_pushed (Err x) new put = tt

  pub added_pushed : {T E : Type 0} (r : Result T E) (new : List GtidGroup) → OnOk r (new ≡ groups ++ g ∷ []) → OnOk r (Added groups new p h)
  added_pushed (Ok x) new put =
      subst (λ (gs : List GtidGroup). Added groups gs p h) (sym (put ∙ pushed groups g))
      (added_in_gap groups are p (length groups) (gap_above groups p below) h g (some_length g.gnos some) pair held)
  added_pushed (Err x) new put = tt

  pub below_after : {T E : Type 0} (r : Result T E) (new : List GtidGroup) → OnOk r (new ≡ groups ++ g ∷ [])
      → OnOk r ((q : Pair) → AreBelow groups q → compare_pairs p q ≡ Less → AreBelow new q)
  below_after (Ok x) new put = λ q before less.
      subst (λ (gs : List GtidGroup). AreBelow gs q) (sym put) (below_pushed groups g q before (ap (λ (r : Pair). compare_pairs r q) pair ∙ less))
  below_after (Err x) new put = tt

-- ---- what is asked of one group

pub pair_made : (sid sid2 tag tag2 : List ℕ) → sid ≡ sid2 → tag ≡ tag2 → (let p : Pair = record { sid = sid; tag = tag } in p) ≡ record { sid = sid2; tag = tag2 }
pair_made sid sid2 tag tag2 e f = ap (λ (s : List ℕ). record { sid = s; tag = tag }) e ∙ ap (λ (t : List ℕ). record { sid = sid2; tag = t }) f

abbrev pub Holds : List GnoInterval → List GnoInterval → Type 0
Holds is others = (n : ℕ) → is_held is n ≡ true → is_held others n ≡ true

-- the same test of equal lists
pub holds_same : (r : Bool) (is is2 others found : List GnoInterval) → is ≡ is2 → found ≡ others → IsTrue r ↔ Holds is others → IsTrue r ↔ Holds is2 found
holds_same r is is2 others found e f h =
    subst (λ (x : List GnoInterval). IsTrue r ↔ Holds x found) e (subst (λ (x : List GnoInterval). IsTrue r ↔ Holds is x) (sym f) h)

kept : (a : Bool) → a ≡ (a && true)
kept true = refl
kept false = refl

-- a copy has what isn't in an empty list
pub all_missing : {E : Type 0} (r : Result (List GnoInterval) E) (is found : List GnoInterval) → found ≡ [] → IfOk r (λ copy. copy ≡ is)
    → IfOk r (λ copy. (n : ℕ) → is_held copy n ≡ (is_held is n && not (is_held found n)))
all_missing (Ok copy) is found none same = λ n.
    ap (λ (x : List GnoInterval). is_held x n) same ∙ kept (is_held is n) ∙ ap (λ (x : List GnoInterval). is_held is n && not (is_held x n)) (sym none)
all_missing (Err e) is found none same = tt

-- ---- the GTIDs of entries

or_true : (a b : Bool) → b ≡ true → (a || b) ≡ true
or_true true b h = refl
or_true false b h = h

and_true : (a b : Bool) → a ≡ true → b ≡ true → (a && b) ≡ true
and_true a b f g = rw (f, g) refl

-- a number of an entry is listed under the entry's pair
pub listed_at : (es : List PreviousGtidsSid) (k n : ℕ) (d : PreviousGtidsSid) → k < length es → is_held (get_or es k d).intervals n ≡ true
    → is_listed es (pair_of (get_or es k d).uuid (get_or es k d).tag) n ≡ true
listed_at [] k n d within h = absurd (omega arith)
listed_at (e ∷ es) zero n d within h = rw (same_itself (pair_of e.uuid e.tag), h) refl
listed_at (e ∷ es) (suc k) n d within h =
    let p = pair_of (get_or es k d).uuid (get_or es k d).tag in
    or_true (is_same (pair_of e.uuid e.tag) p && is_held e.intervals n) (is_listed es p n) (listed_at es k n d (omega arith) h)

-- a GTID that is listed is in an entry
abbrev pub InEntry : List PreviousGtidsSid → Pair → ℕ → PreviousGtidsSid → Type 0
InEntry es q n d = (k : ℕ) × (k < length es) × (is_same (pair_of (get_or es k d).uuid (get_or es k d).tag) q ≡ true) × (is_held (get_or es k d).intervals n ≡ true)

module _ (e : PreviousGtidsSid) (es : List PreviousGtidsSid) (q : Pair) (n : ℕ) (d : PreviousGtidsSid) where
  in_entry_by : (a b : Bool) → is_same (pair_of e.uuid e.tag) q ≡ a → is_held e.intervals n ≡ b → ((a && b) || is_listed es q n) ≡ true → (is_listed es q n ≡ true → InEntry es q n d)
      → InEntry (e ∷ es) q n d
  in_entry_by true true f g h rest = (0, omega arith, f, g)
  in_entry_by true false f g h rest = let there = rest h in (suc there.0, omega (arith, there.1), there.2, there.3)
  in_entry_by false b f g h rest = let there = rest h in (suc there.0, omega (arith, there.1), there.2, there.3)

pub in_entry : (es : List PreviousGtidsSid) (q : Pair) (n : ℕ) (d : PreviousGtidsSid) → is_listed es q n ≡ true → InEntry es q n d
in_entry [] q n d h = absurd cc
in_entry (e ∷ es) q n d h = in_entry_by e es q n d (is_same (pair_of e.uuid e.tag) q) (is_held e.intervals n) refl refl h (λ h. in_entry es q n d h)

-- the set contains the numbers of the first entries
abbrev pub ContainsEntries : List PreviousGtidsSid → List GtidGroup → ℕ → Type 0
ContainsEntries es groups at =
    (k : ℕ) (d : PreviousGtidsSid) → k < at → (n : ℕ) → is_held (get_or es k d).intervals n ≡ true → is_tracked groups (pair_of (get_or es k d).uuid (get_or es k d).tag) n ≡ true

-- one more entry
pub entry_contained : (es : List PreviousGtidsSid) (groups : List GtidGroup) (at : ℕ) (e : PreviousGtidsSid) → at < length es → e ≡ get_or es at e → ContainsEntries es groups at
    → ((n : ℕ) → is_held e.intervals n ≡ true → is_tracked groups (pair_of e.uuid e.tag) n ≡ true) → ContainsEntries es groups (at + 1)
entry_contained es groups at e within e_is each here k d less n held = elim (cases_lt k at) [
  | inl before ↦ each k d before n held
  | inr after ↦ (
      let same : k ≡ at = omega arith in
      let there : get_or es k d ≡ e = ap (λ (i : ℕ). get_or es i d) same ∙ sym (get_or_read es at e within e_is d) in
      ap (λ (x : PreviousGtidsSid). is_tracked groups (pair_of x.uuid x.tag) n) there ∙ here n (ap (λ (x : PreviousGtidsSid). is_held x.intervals n) (sym there) ∙ held))
]

-- a number of an entry is listed
pub entry_listed : (es : List PreviousGtidsSid) (at n : ℕ) (e : PreviousGtidsSid) → at < length es → e ≡ get_or es at e → is_held e.intervals n ≡ true → is_listed es (pair_of e.uuid e.tag) n ≡ true
entry_listed es at n e within e_is held =
    ap (λ (x : PreviousGtidsSid). is_listed es (pair_of x.uuid x.tag) n) e_is ∙ listed_at es at n e within (ap (λ (x : PreviousGtidsSid). is_held x.intervals n) (sym e_is) ∙ held)

pub entries_done : (es : List PreviousGtidsSid) (groups : List GtidGroup) (at : ℕ) → length es ≤ at → ContainsEntries es groups at → (q : Pair) (n : ℕ) → (d : PreviousGtidsSid) → is_listed es q n ≡ true
    → is_tracked groups q n ≡ true
entries_done es groups at past each q n d h =
    let there = in_entry es q n d h in
    let found = each there.0 d (omega (arith, there.1)) n there.3 in
    ap (λ (is : List GnoInterval). is_held is n) (sym (same_intervals groups (pair_of (get_or es there.0 d).uuid (get_or es there.0 d).tag) q there.2)) ∙ found

-- what a set contains adds nothing
pub absorbed : (listed held : Bool) → (listed ≡ true → held ≡ true) → held ≡ (listed || held)
absorbed true held h = h refl
absorbed false held h = refl
