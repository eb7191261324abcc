-- A log of which some changes are undone while the others stay.
use Rattle.std.proofs.Common.{◌≡◌, ◌⊎◌, inl, inr, ⊎_elim, ◌<◌, List, [], ◌∷◌, ◌++◌, Option, None, Some, refl, sym, ap, subst, append_assoc, append-nil, arith}
use Rattle.table_changes.specs.Changes.{State, Change, table_of, removed, added, IsWith, IsThere, Applies, AppliesAll, inverse}
use Rattle.table_changes.specs.Parts.{EqualOrNot, Logged, undone, kept, all_changes, undone_changes, kept_changes, nothing, Lowers, LeavesBehind, IsNotLeft, KeepsApart}
use Rattle.table_changes.proofs.Counts.{same, plus, plus-comm, plus-nothing, with_more, with_more_behind, one_with, one_without, single, single_if, with_single, without, with_again}
use Rattle.table_changes.proofs.Applied.{applied_joined, all_applied_beside, is_there, others_of}
use Rattle.table_changes.proofs.Inverses.{all_applied_back}

-- How far a log has come: the state has the rows that were left behind, and others. With these others, the changes that stay have
-- led to the rows that the undone changes have taken from elsewhere.
record Progress {Table Row : Type 0} (back forth : List (Change Table Row)) (start now left : State Table Row) : Type 0 where
  others : State Table Row
  taken : State Table Row
  is : now ≡ plus others left
  undoes : AppliesAll back taken left
  stays : AppliesAll forth start (plus others taken)

module _ {Table Row : Type 0} where
  lowered_cases : (table : Table) (row : Option Row) (old new : State Table Row) → Lowers table row old new
      → IsWith table row new old ⊎ ((is : Row) × (row ≡ Some is) × (old table is ≡ 0) × (new ≡ old))
  lowered_cases table None old new e = inl (sym e)
  lowered_cases table (Some row) old new (inl h) = inl h
  lowered_cases table (Some row) old new (inr h) = inr (row, refl, h.0, h.1)

  there_in_others : (table : Table) (row : Option Row) (others left : State Table Row) → IsThere (plus others left) table row → IsNotLeft left table row
      → IsThere others table row
  there_in_others table None others left h e = tt
  there_in_others table (Some row) others left h e = omega arith

  -- One more change.
  one_more : (changes : List (Change Table Row)) (change : Change Table Row) (old between new : State Table Row) → AppliesAll changes old between
      → Applies change between new → AppliesAll (changes ++ change ∷ []) old new
  one_more changes change old between new a b = applied_joined changes (change ∷ []) old between new a (new, b, refl)

module _ {Table Row : Type 0} (tables : EqualOrNot Table) (rows : EqualOrNot Row) where
  -- Where the rest of a state is known, so is what a change makes of it.
  moved : (change : Change Table Row) (old new rest other : State Table Row) → Applies change old new
      → IsWith (table_of change) (removed change) rest old → IsWith (table_of change) (added change) rest other → new ≡ other
  moved change old new rest other a was is =
      let e = one_without tables rows (table_of change) (removed change) a.others rest old a.was was in
      one_with tables rows (table_of change) (added change) rest new other (subst (λ s. IsWith (table_of change) (added change) s new) e a.is) is

  module _ (change : Change Table Row) (back forth : List (Change Table Row)) (start old new left behind : State Table Row)
      (p : Progress back forth start old left) (a : Applies change old new) where
    -- A change is undone whose removed row, if there is one, was left behind.
    undone_left : (lowered : State Table Row) → IsWith (table_of change) (removed change) lowered left
        → IsWith (table_of change) (added change) lowered behind → Progress (back ++ change ∷ []) forth start new behind
    undone_left lowered was is = record {
      others = p.others;
      taken = p.taken;
      is = moved change old new (plus p.others lowered) (plus p.others behind) a
          (subst (λ s. IsWith (table_of change) (removed change) (plus p.others lowered) s) (sym p.is) (with_more (table_of change) (removed change) lowered left p.others was))
          (with_more (table_of change) (added change) lowered behind p.others is);
      undoes = one_more back change p.taken left behind p.undoes (record { others = lowered; was = was; is = is });
      stays = p.stays;
    }

    -- A change is undone whose removed row was there already.
    undone_taken : (row : Row) → removed change ≡ Some row → left (table_of change) row ≡ 0
        → IsWith (table_of change) (added change) left behind → Progress (back ++ change ∷ []) forth start new behind
    undone_taken row e none is =
        let table = table_of change in
        let one : State Table Row = single tables rows table row in
        let there = is_there table (Some row) a.others old (subst (λ r. IsWith table r a.others old) e a.was) in
        let among : 0 < p.others table row = let f = ap (λ s. s table row) p.is in omega (arith, f, there) in
        let rest : State Table Row = without tables rows table row p.others in
        let again = with_again tables rows table row p.others among in
        let others_are : p.others ≡ plus rest one = one_with tables rows table (Some row) rest p.others (plus rest one) again (with_single tables rows table (Some row) rest) in
        record {
          others = rest;
          taken = plus one p.taken;
          is = moved change old new (plus rest left) (plus rest behind) a
              (subst (λ r. IsWith table r (plus rest left) old) (sym e)
              (subst (λ s. IsWith table (Some row) (plus rest left) s) (sym p.is) (with_more_behind table (Some row) rest p.others left again)))
              (with_more table (added change) left behind rest is);
          undoes = one_more back change (plus one p.taken) (plus one left) behind (all_applied_beside back p.taken left one p.undoes)
              (record {
                others = left;
                was = subst (λ r. IsWith table r left (plus one left)) (sym e)
                    (subst (λ s. IsWith table (Some row) left s) (plus-comm left one) (with_single tables rows table (Some row) left));
                is = is;
              });
          stays = subst (λ s. AppliesAll forth start s)
              (same (λ other another. let f = ap (λ s. s other another) others_are in omega (arith, f))) p.stays;
        }

    undone_one : LeavesBehind change left behind → Progress (back ++ change ∷ []) forth start new behind
    undone_one h = ⊎_elim
        (λ was. undone_left h.lowered was h.raises)
        (λ w. undone_taken w.0 w.1 w.2 (subst (λ s. IsWith (table_of change) (added change) s behind) w.3 h.raises))
        (lowered_cases (table_of change) (removed change) left h.lowered h.lowers)

    -- A change stays, and removes no row that was left behind.
    kept_one : IsNotLeft left (table_of change) (removed change) → Progress back (forth ++ change ∷ []) start new left
    kept_one apart =
        let table = table_of change in
        let there = there_in_others table (removed change) p.others left
        (subst (λ s. IsThere s table (removed change)) p.is (is_there table (removed change) a.others old a.was)) apart in
        let rest = others_of tables rows table (removed change) p.others there in
        let moved_others : State Table Row = plus rest.0 (single_if tables rows table (added change)) in
        let is = with_single tables rows table (added change) rest.0 in
        record {
          others = moved_others;
          taken = p.taken;
          is = moved change old new (plus rest.0 left) (plus moved_others left) a
              (subst (λ s. IsWith table (removed change) (plus rest.0 left) s) (sym p.is) (with_more_behind table (removed change) rest.0 p.others left rest.1))
              (with_more_behind table (added change) rest.0 moved_others left is);
          undoes = p.undoes;
          stays = one_more forth change start (plus p.others p.taken) (plus moved_others p.taken) p.stays
              (record {
                others = plus rest.0 p.taken;
                was = with_more_behind table (removed change) rest.0 p.others p.taken rest.1;
                is = with_more_behind table (added change) rest.0 moved_others p.taken is;
              });
        }

  -- All changes of a log.
  whole_log : (log : List (Logged Table Row)) (back forth : List (Change Table Row)) (start old new left behind : State Table Row)
      → Progress back forth start old left → AppliesAll (all_changes log) old new → KeepsApart log left behind
      → Progress (back ++ undone_changes log) (forth ++ kept_changes log) start new behind
  whole_log [] back forth start old new left behind p a h =
      subst (λ xs. Progress xs (forth ++ []) start new behind) (sym (append-nil back))
      (subst (λ ys. Progress back ys start new behind) (sym (append-nil forth))
      (subst (λ s. Progress back forth start s behind) (sym a) (subst (λ s. Progress back forth start old s) (sym h) p)))
  whole_log (undone change ∷ log) back forth start old new left behind p a h =
      subst (λ xs. Progress xs (forth ++ kept_changes log) start new behind) (append_assoc back (change ∷ []) (undone_changes log))
      (whole_log log (back ++ change ∷ []) forth start a.0 new h.0 behind (undone_one change back forth start old a.0 left h.0 p a.1 h.1) a.2 h.2)
  whole_log (kept change ∷ log) back forth start old new left behind p a h =
      subst (λ ys. Progress (back ++ undone_changes log) ys start new behind) (append_assoc forth (change ∷ []) (kept_changes log))
      (whole_log log back (forth ++ change ∷ []) start a.0 new left behind (kept_one change back forth start old a.0 left left p a.1 h.0) a.2 h.1)

  pub part_undone : (log : List (Logged Table Row)) (old new counts : State Table Row) → AppliesAll (all_changes log) old new → KeepsApart log nothing counts
      → (other : State Table Row) × AppliesAll (inverse (undone_changes log)) new other × AppliesAll (kept_changes log) old other
  part_undone log old new counts a h =
      let p = whole_log log [] [] old old new nothing counts
      (record { others = old; taken = nothing; is = sym (plus-nothing old); undoes = refl; stays = plus-nothing old }) a h in (
        plus p.others p.taken,
        subst (λ s. AppliesAll (inverse (undone_changes log)) s (plus p.others p.taken)) (sym p.is)
            (all_applied_beside (inverse (undone_changes log)) counts p.taken p.others (all_applied_back (undone_changes log) p.taken counts p.undoes)),
        p.stays,
      )
