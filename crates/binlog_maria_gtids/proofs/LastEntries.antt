-- The last GTID of an origin, and entries that are determined by the last ones.
use Rattle.std.proofs.Common.{◌≡◌, ◌⊎◌, inl, inr, ℕ, suc, ◌<◌, Bool, true, false, cond, List, [], ◌∷◌, length, get_or, Option, Some, None, refl, sym, ap, subst, ◌∙◌, arith}
use Rattle.std.specs.Prelude.{MatchOption}
use Rattle.std.specs.Option.{option_or}
use Rattle.std.specs.declared.cmp.Ordering.{Ordering}
use Rattle.std.specs.declared.cmp.Ordering.TheVariants.{Less, Equal, Greater}
use Rattle.std.specs.Ordering.{ordering_reverse, is_eq}
use Rattle.std.specs.Cmp.{tied_itself}
use Rattle.binlog_mariadb.specs.declared.maria_gtid.MariaGtid.{MariaGtid}
use Rattle.binlog_maria_gtids.specs.LastGtids.{Origin, origin_of, compare_origins, is_of, sequence_for, last_of, AreAscending}
use Rattle.binlog_maria_gtids.specs.LastEntries.{HasNone, IsLast}
use Rattle.binlog_maria_gtids.proofs.LastGtids.{origins_total, is_of_by, none_last, origin_same}

-- ---- the last GTID

first_is : (g : MariaGtid) (gs : List MariaGtid) (o : Origin) (b : Bool) → is_of o g ≡ b → HasNone gs o → MatchOption (sequence_for o g) (HasNone (g ∷ gs) o) (IsLast (g ∷ gs) o)
first_is g gs o true same none = rw same (record { before = []; gtid = g; behind = gs; whole = refl; same = same; number = refl; none = none })
first_is g gs o false same none = subst (λ (b : Bool). MatchOption (cond b (Some g.sequence) None) (HasNone (g ∷ gs) o) (IsLast (g ∷ gs) o)) (sym same) (same, none)

more_is : (g : MariaGtid) (gs : List MariaGtid) (o : Origin) (n : ℕ) → IsLast gs o n → IsLast (g ∷ gs) o n
more_is g gs o n last = record {
  before = g ∷ last.before;
  gtid = last.gtid;
  behind = last.behind;
  whole = ap (λ (xs : List MariaGtid). g ∷ xs) last.whole;
  same = last.same;
  number = last.number;
  none = last.none;
}

last_by : (g : MariaGtid) (gs : List MariaGtid) (o : Origin) (found : Option ℕ) → MatchOption found (HasNone gs o) (IsLast gs o)
    → MatchOption (option_or found (sequence_for o g)) (HasNone (g ∷ gs) o) (IsLast (g ∷ gs) o)
last_by g gs o None none = first_is g gs o (is_of o g) refl none
last_by g gs o (Some n) last = more_is g gs o n last

pub last_is : (gs : List MariaGtid) (o : Origin) → MatchOption (last_of gs o) (HasNone gs o) (IsLast gs o)
last_is [] o = tt
last_is (g ∷ gs) o = last_by g gs o (last_of gs o) (last_is gs o)

-- ---- the entries

-- The entries behind the first one ascend, too.
tail_ascends : (g : MariaGtid) (gs : List MariaGtid) → AreAscending (g ∷ gs) → AreAscending gs
tail_ascends g gs are = record { ascending = λ i j d less within. are.ascending (suc i) (suc j) d (omega arith) (omega arith) }

own_origin : (g : MariaGtid) → is_of (origin_of g) g ≡ true
own_origin g = is_of_by g (origin_of g) ∙ ap is_eq (tied_itself origins_total (origin_of g))

-- No entry behind the first one has its origin, or one before it.
none_behind_first : (g : MariaGtid) (gs : List MariaGtid) (o : Origin) → AreAscending (g ∷ gs) → (compare_origins o (origin_of g) ≡ Less) ⊎ (o ≡ origin_of g) → last_of gs o ≡ None
none_behind_first g gs o are low = none_last gs o (λ j d least less. apart j d less low)
  where
    later : (j : ℕ) (d : MariaGtid) → j < length gs → compare_origins (origin_of g) (origin_of (get_or gs j d)) ≡ Less
    later j d less = are.ascending 0 (suc j) d (omega arith) (omega arith)

    apart : (j : ℕ) (d : MariaGtid) → j < length gs → (compare_origins o (origin_of g) ≡ Less) ⊎ (o ≡ origin_of g) → is_of o (get_or gs j d) ≡ false
    apart j d less (inl before) =
        let x = origin_of (get_or gs j d) in
        let rises : compare_origins o x ≡ Less = origins_total.trans o (origin_of g) x before (later j d less) in
        is_of_by (get_or gs j d) o ∙ ap is_eq (origins_total.antisymm x o ∙ ap ordering_reverse rises)
    apart j d less (inr same) =
        let x = origin_of (get_or gs j d) in
        let rises : compare_origins o x ≡ Less = rw same (later j d less) in
        is_of_by (get_or gs j d) o ∙ ap is_eq (origins_total.antisymm x o ∙ ap ordering_reverse rises)

-- The last sequence number of the first entry's origin is its own.
own_last : (g : MariaGtid) (gs : List MariaGtid) → AreAscending (g ∷ gs) → last_of (g ∷ gs) (origin_of g) ≡ Some g.sequence
own_last g gs are = rw (none_behind_first g gs (origin_of g) are (inr refl), own_origin g) refl

-- An origin before that of the first entry has none.
none_before : (g : MariaGtid) (gs : List MariaGtid) (o : Origin) → AreAscending (g ∷ gs) → compare_origins o (origin_of g) ≡ Less → last_of (g ∷ gs) o ≡ None
none_before g gs o are before =
    let other : is_of o g ≡ false = is_of_by g o ∙ ap is_eq (origins_total.antisymm (origin_of g) o ∙ ap ordering_reverse before) in
    rw (none_behind_first g gs o are (inl before), other) refl

some_not_none : (x : Option ℕ) (n : ℕ) → x ≡ Some n → x ≡ None → ⊥
some_not_none x n some none = cc

module _ (g h : MariaGtid) (gs hs : List MariaGtid) (a : AreAscending (g ∷ gs)) (b : AreAscending (h ∷ hs)) (same : (o : Origin) → last_of (g ∷ gs) o ≡ last_of (h ∷ hs) o) where
  not_before : compare_origins (origin_of g) (origin_of h) ≡ Less → ⊥
  not_before before = some_not_none (last_of (g ∷ gs) (origin_of g)) g.sequence (own_last g gs a) (same (origin_of g) ∙ none_before h hs (origin_of g) b before)

  origins_by : (r : Ordering) → compare_origins (origin_of g) (origin_of h) ≡ r → (compare_origins (origin_of h) (origin_of g) ≡ Less → ⊥) → origin_of g ≡ origin_of h
  origins_by Less is not_after = absurd (not_before is)
  origins_by Equal is not_after = origin_same g (origin_of h) (is_of_by g (origin_of h) ∙ ap is_eq is)
  origins_by Greater is not_after = absurd (not_after (origins_total.antisymm (origin_of h) (origin_of g) ∙ ap ordering_reverse is))

  sequences : origin_of g ≡ origin_of h → g.sequence ≡ h.sequence
  sequences origins =
      let found : Some g.sequence ≡ Some h.sequence =
      sym (own_last g gs a) ∙ same (origin_of g) ∙ ap (λ (o : Origin). last_of (h ∷ hs) o) origins ∙ own_last h hs b in cc

gtid_same : (g h : MariaGtid) → origin_of g ≡ origin_of h → g.sequence ≡ h.sequence → g ≡ h
gtid_same g h origins numbers =
    let with_origin : Origin → ℕ → MariaGtid = λ (o : Origin) (n : ℕ). record { domain = o.domain; server_id = o.server_id; sequence = n } in
    ap (λ (o : Origin). with_origin o g.sequence) origins ∙ ap (with_origin (origin_of h)) numbers

-- Behind the first entry both have the same, too.
rest_by : (g : MariaGtid) (gs hs : List MariaGtid) (o : Origin) (b : Bool) → is_of o g ≡ b → AreAscending (g ∷ gs) → AreAscending (g ∷ hs) → last_of (g ∷ gs) o ≡ last_of (g ∷ hs) o → last_of gs o ≡ last_of hs o
rest_by g gs hs o true of a b same =
    let own : o ≡ origin_of g = sym (origin_same g o of) in
    none_behind_first g gs o a (inr own) ∙ sym (none_behind_first g hs o b (inr own))
rest_by g gs hs o false of a b same =
    let drops : (xs : List MariaGtid) → option_or (last_of xs o) (sequence_for o g) ≡ last_of xs o = λ xs. rw of (or_none (last_of xs o)) in
    sym (drops gs) ∙ same ∙ drops hs
  where
    or_none : (x : Option ℕ) → option_or x None ≡ x
    or_none None = refl
    or_none (Some n) = refl

pub entries_one : (first second : List MariaGtid) → AreAscending first → AreAscending second → ((o : Origin) → last_of first o ≡ last_of second o) → first ≡ second
entries_one [] [] a b same = refl
entries_one [] (h ∷ hs) a b same = absurd (some_not_none (last_of (h ∷ hs) (origin_of h)) h.sequence (own_last h hs b) (sym (same (origin_of h))))
entries_one (g ∷ gs) [] a b same = absurd (some_not_none (last_of (g ∷ gs) (origin_of g)) g.sequence (own_last g gs a) (same (origin_of g)))
entries_one (g ∷ gs) (h ∷ hs) a b same =
    let origins : origin_of g ≡ origin_of h = origins_by g h gs hs a b same (compare_origins (origin_of g) (origin_of h)) refl (not_before h g hs gs b a (λ o. sym (same o))) in
    let first : g ≡ h = gtid_same g h origins (sequences g h gs hs a b same origins) in
    let other : AreAscending (g ∷ hs) = rw first b in
    let agree : (o : Origin) → last_of (g ∷ gs) o ≡ last_of (g ∷ hs) o = λ o. same o ∙ ap (λ (k : MariaGtid). last_of (k ∷ hs) o) (sym first) in
    let rest : gs ≡ hs = entries_one gs hs (tail_ascends g gs a) (tail_ascends g hs other) (λ o. rest_by g gs hs o (is_of o g) refl a other (agree o)) in
    ap (λ (k : MariaGtid). k ∷ gs) first ∙ ap (λ (ks : List MariaGtid). h ∷ ks) rest
