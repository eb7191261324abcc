-- A text as its parts are appended.
use Rattle.std.proofs.Common.{◌≡◌, ℕ, zero, suc, ◌<◌, ◌≤◌, List, [], ◌∷◌, ◌++◌, length, drop, get_or, flat_map, Option, Some, refl, sym, ap, subst, ◌∙◌, inl, inr, arith, append_assoc, append-nil}
use Rattle.std.proofs.lemmas.Bool.{cases_lt}
use Rattle.binlog_variable_fields.specs.declared.gno_interval.GnoInterval.{GnoInterval}
use Rattle.binlog_gtids.specs.GnoSets.{AreApart}
use Rattle.binlog_gtid_sets.specs.declared.gtid_group.GtidGroup.{GtidGroup}
use Rattle.binlog_gtid_sets.specs.GtidGroups.{pair_of, intervals_of, AreGroups}
use Rattle.binlog_gtid_sets.proofs.GtidGroups.{own_intervals}
use Rattle.binlog_gtid_text.specs.Printing.{interval_text, group_text, text_from}
use Rattle.binlog_gtid_text.specs.Laws.Printing.{IsWritable, AreWritable}

-- one more part
part_put : (part rest old new whole : List ℕ) → new ≡ old ++ part → old ++ (part ++ rest) ≡ whole → new ++ rest ≡ whole
part_put part rest old new whole put so_far = ap (λ (t : List ℕ). t ++ rest) put ∙ append_assoc old part rest ∙ so_far

-- ---- intervals

pub interval_put : (is : List GnoInterval) (k : ℕ) (d : GnoInterval) (old new whole : List ℕ) → k < length is → new ≡ old ++ interval_text (get_or is k d)
    → old ++ flat_map interval_text (drop k is) ≡ whole → new ++ flat_map interval_text (drop (suc k) is) ≡ whole
interval_put [] k d old new whole within put so_far = absurd (omega arith)
interval_put (i ∷ is) zero d old new whole within put so_far = part_put (interval_text i) (flat_map interval_text is) old new whole put so_far
interval_put (i ∷ is) (suc k) d old new whole within put so_far = interval_put is k d old new whole (omega arith) put so_far

pub intervals_put : (is : List GnoInterval) (k : ℕ) (text whole : List ℕ) → length is ≤ k → text ++ flat_map interval_text (drop k is) ≡ whole → text ≡ whole
intervals_put [] zero text whole past h = sym (append-nil text) ∙ h
intervals_put [] (suc k) text whole past h = sym (append-nil text) ∙ h
intervals_put (i ∷ is) zero text whole past h = absurd (omega arith)
intervals_put (i ∷ is) (suc k) text whole past h = intervals_put is k text whole (omega arith) h

pub interval_filled : (is : List GnoInterval) (k low : ℕ) (d : GnoInterval) → k < length is → AreApart low (drop k is) → (get_or is k d).start < (get_or is k d).end
interval_filled [] k low d within apart = absurd (omega arith)
interval_filled (i ∷ is) zero low d within apart = apart.1
interval_filled (i ∷ is) (suc k) low d within apart = interval_filled is k low d (omega arith) apart

pub next_apart : (is : List GnoInterval) (k low : ℕ) → k < length is → AreApart low (drop k is) → (end : ℕ) × AreApart end (drop (suc k) is)
next_apart [] k low within apart = absurd (omega arith)
next_apart (i ∷ is) zero low within apart = (i.end, apart.3)
next_apart (i ∷ is) (suc k) low within apart = next_apart is k low (omega arith) apart

-- ---- groups

any_default : (groups : List GtidGroup) (i : ℕ) (a b : GtidGroup) → i < length groups → get_or groups i a ≡ get_or groups i b
any_default [] i a b within = absurd (omega arith)
any_default (g ∷ groups) zero a b within = refl
any_default (g ∷ groups) (suc i) a b within = any_default groups i a b (omega arith)

-- the group at an index, by what is asked of the set
pub group_is : (groups : List GtidGroup) → AreGroups groups → (i : ℕ) → i < length groups → (sid : List ℕ) (tag : Option (List ℕ))
    → ((d : GtidGroup) → sid ≡ (get_or groups i d).sid) → ((d : GtidGroup) → tag ≡ (get_or groups i d).tag) → (d : GtidGroup)
    → record { sid = sid; tag = tag; gnos = intervals_of groups (pair_of sid tag) } ≡ get_or groups i d
group_is groups are i within sid tag sids tags d =
    let g = get_or groups i d in
    ap (λ (s : List ℕ). record { sid = s; tag = tag; gnos = intervals_of groups (pair_of s tag) }) (sids d)
    ∙ ap (λ (t : Option (List ℕ)). record { sid = g.sid; tag = t; gnos = intervals_of groups (pair_of g.sid t) }) (tags d)
    ∙ ap (λ (is : List GnoInterval). record { sid = g.sid; tag = g.tag; gnos = is }) (own_intervals groups are i g within (any_default groups i d g within))

pub group_put : (groups : List GtidGroup) (i : ℕ) (last next : Option (List ℕ)) (d : GtidGroup) (old new whole : List ℕ) → i < length groups → new ≡ old ++ group_text last (get_or groups i d)
    → next ≡ Some (get_or groups i d).sid → old ++ text_from last (drop i groups) ≡ whole → new ++ text_from next (drop (suc i) groups) ≡ whole
group_put [] i last next d old new whole within put source so_far = absurd (omega arith)
group_put (g ∷ groups) zero last next d old new whole within put source so_far =
    ap (λ (s : Option (List ℕ)). new ++ text_from s groups) source ∙ part_put (group_text last g) (text_from (Some g.sid) groups) old new whole put so_far
group_put (g ∷ groups) (suc i) last next d old new whole within put source so_far = group_put groups i last next d old new whole (omega arith) put source so_far

pub groups_put : (groups : List GtidGroup) (i : ℕ) (last : Option (List ℕ)) (text whole : List ℕ) → length groups ≤ i → text ++ text_from last (drop i groups) ≡ whole → text ≡ whole
groups_put [] zero last text whole past h = sym (append-nil text) ∙ h
groups_put [] (suc i) last text whole past h = sym (append-nil text) ∙ h
groups_put (g ∷ groups) zero last text whole past h = absurd (omega arith)
groups_put (g ∷ groups) (suc i) last text whole past h = groups_put groups i last text whole (omega arith) h

-- the groups below an index can be written
abbrev pub AreWritableBelow : List GtidGroup → ℕ → Type 0
AreWritableBelow groups at = (k : ℕ) (d : GtidGroup) → k < at → IsWritable (get_or groups k d)

pub writable_more : (groups : List GtidGroup) (at : ℕ) → AreWritableBelow groups at → ((d : GtidGroup) → IsWritable (get_or groups at d)) → AreWritableBelow groups (suc at)
writable_more groups at below here k d less = elim (cases_lt k at) [
  | inl before ↦ below k d before
  | inr after ↦ (let same : at ≡ k = omega arith in subst (λ (i : ℕ). IsWritable (get_or groups i d)) same (here d))
]

pub all_writable : (groups : List GtidGroup) (at : ℕ) → length groups ≤ at → AreWritableBelow groups at → AreWritable groups
all_writable [] at past below = tt
all_writable (g ∷ groups) zero past below = absurd (omega arith)
all_writable (g ∷ groups) (suc at) past below = (below 0 g (omega arith), all_writable groups at (omega arith) (λ k d less. below (suc k) d (omega arith)))
