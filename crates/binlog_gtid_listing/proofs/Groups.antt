-- The lines of the first groups of a set, and of one more.
use Rattle.std.proofs.Common.{◌≡◌, inl, inr, ℕ, zero, suc, ◌+◌, ◌<◌, ◌≤◌, Bool, true, false, List, [], ◌∷◌, ◌++◌, length, take, get_or, Option, Some, None, Result, Ok, Err, refl, sym, ap, subst, ◌∙◌, arith, append_assoc, append-nil}
use Rattle.std.specs.Io.KnownBytes.{Appends}
use Rattle.std.proofs.KnownBytes.{Appends-nil, Appends-trans}
use Rattle.std.specs.Cmp.{tied_itself}
use Rattle.std.proofs.lemmas.List.{take_all}
use Rattle.std.specs.declared.cmp.Ordering.TheVariants.{Equal}
use Rattle.binlog_wire.specs.declared.error.Error.{Error}
use Rattle.binlog_wire.specs.declared.error.Error.TheVariants.{Memory}
use Rattle.binlog_variable_fields.specs.declared.gno_interval.GnoInterval.{GnoInterval}
use Rattle.binlog_gtids.specs.GnoSets.{AreApart, is_held, is_missing}
use Rattle.binlog_gtid_sets.specs.declared.gtid_group.GtidGroup.{GtidGroup}
use Rattle.binlog_gtid_sets.specs.GtidGroups.{Pair, pair_of, pair_in, compare_pairs, intervals_of, AreGroups}
use Rattle.binlog_gtid_sets.proofs.GtidGroups.{pairs_total, found_at}
use Rattle.binlog_gtid_listing.specs.GroupLines.{HasTag, group_line, IsLineWith, AreLines, Writes, WritesLine, WritesSomeLines}
use Rattle.binlog_gtid_listing.proofs.Writing.{front_later}

-- ---- one group

-- the line of these intervals and gaps is written, or a front of it
pub line_written : (sid : List ℕ) (tag : Option (List ℕ)) (intervals gaps : List GnoInterval) (old new : Option (List ℕ)) (answer : Result (Unit {0}) Error)
    → HasTag tag → AreApart 0 intervals → AreApart 0 gaps → ((n : ℕ) → is_held gaps n ≡ is_missing intervals n)
    → Writes (group_line sid tag intervals (Some gaps)) old answer new → WritesLine true sid tag intervals old answer new
line_written sid tag intervals gaps old new answer tagged apart gaps_apart missing wrote =
    inr (group_line sid tag intervals (Some gaps), record { tagged = tagged; apart = apart; gaps = gaps; gaps_apart = gaps_apart; missing = missing; text = refl }, wrote)

-- the same without gaps
pub numbers_written : (sid : List ℕ) (tag : Option (List ℕ)) (intervals : List GnoInterval) (old new : Option (List ℕ)) (answer : Result (Unit {0}) Error)
    → HasTag tag → AreApart 0 intervals → Writes (group_line sid tag intervals None) old answer new → WritesLine false sid tag intervals old answer new
numbers_written sid tag intervals old new answer tagged apart wrote = inr (group_line sid tag intervals None, record { tagged = tagged; apart = apart; text = refl }, wrote)

not_memory : (x : Unit {0}) (answer : Result (Unit {0}) Error) → answer ≡ Ok x → answer ≡ Err Memory → ⊥
not_memory x answer is memory = cc

same_error : (e : Error) (answer : Result (Unit {0}) Error) → answer ≡ Err e → answer ≡ Err Memory → e ≡ Memory
same_error e answer is memory = cc

-- ---- the first groups

-- the numbers of the group at an index are those that are found by its pair
own_numbers : (groups : List GtidGroup) → AreGroups groups → (i : ℕ) (d : GtidGroup) → i < length groups
    → intervals_of groups (pair_in (get_or groups i d)) ≡ (get_or groups i d).gnos
own_numbers groups are i d within =
    found_at groups are (pair_in (get_or groups i d)) i
    (record { within = within; same = λ e. subst (λ (p : Pair). compare_pairs p (pair_in (get_or groups i d)) ≡ Equal) (ap pair_in (same_default groups i d e within)) (tied_itself pairs_total (pair_in (get_or groups i d))) }) d
  where
    same_default : (groups : List GtidGroup) (i : ℕ) (d e : GtidGroup) → i < length groups → get_or groups i d ≡ get_or groups i e
    same_default [] i d e within = absurd (omega arith)
    same_default (g ∷ groups) zero d e within = refl
    same_default (g ∷ groups) (suc i) d e within = same_default groups i d e (omega arith)

-- the source and the tag of a group
pub record IsPairAt (groups : List GtidGroup) (i : ℕ) (sid : List ℕ) (tag : Option (List ℕ)) : Type 0 where
  pub within : i < length groups
  pub same_sid : (d : GtidGroup) → sid ≡ (get_or groups i d).sid
  pub same_tag : (d : GtidGroup) → tag ≡ (get_or groups i d).tag

module _ (has_gaps : Bool) where
  -- one more line
  lines_more : (groups : List GtidGroup) (i : ℕ) (d : GtidGroup) (lines line : List ℕ) → i < length groups → AreLines has_gaps (take i groups) lines
      → IsLineWith has_gaps (get_or groups i d).sid (get_or groups i d).tag (get_or groups i d).gnos line → AreLines has_gaps (take (suc i) groups) (lines ++ line)
  lines_more [] i d lines line within listed is = absurd (omega arith)
  lines_more (g ∷ groups) zero d lines line within listed is = (line, [], is, refl, ap (λ (s : List ℕ). s ++ line) listed ∙ sym (append-nil line))
  lines_more (g ∷ groups) (suc i) d lines line within (first, rest, head, tail, whole) is =
      (first, rest ++ line, head, lines_more groups i d rest line (omega arith) tail is, ap (λ (s : List ℕ). s ++ line) whole ∙ append_assoc first rest line)

  -- the lines of as many groups are written
  pub record AreListed (groups : List GtidGroup) (count : ℕ) (old new : Option (List ℕ)) : Type 0 where
    pub lines : List ℕ
    pub listed : AreLines has_gaps (take count groups) lines
    pub written : Appends old new lines

  pub none_listed : (groups : List GtidGroup) (old : Option (List ℕ)) → AreListed groups 0 old old
  none_listed groups old = record { lines = []; listed = refl; written = Appends-nil old }

  module _ (groups : List GtidGroup) (are : AreGroups groups) (i : ℕ) (sid : List ℕ) (tag : Option (List ℕ)) (at : IsPairAt groups i sid tag) (old mid new : Option (List ℕ)) where
    own_line : (d : GtidGroup) (line : List ℕ) → IsLineWith has_gaps sid tag (intervals_of groups (pair_of sid tag)) line
        → IsLineWith has_gaps (get_or groups i d).sid (get_or groups i d).tag (get_or groups i d).gnos line
    own_line d line is =
        let g : GtidGroup = get_or groups i d in
        let own : List GnoInterval = intervals_of groups (pair_of sid tag) in
        let pair : pair_of sid tag ≡ pair_in g = ap (λ (s : List ℕ). pair_of s tag) (at.same_sid d) ∙ ap (λ (t : Option (List ℕ)). pair_of g.sid t) (at.same_tag d) in
        let numbers : own ≡ g.gnos = ap (λ (p : Pair). intervals_of groups p) pair ∙ own_numbers groups are i d at.within in
        subst (λ (is : List GnoInterval). IsLineWith has_gaps g.sid g.tag is line) numbers
        (subst (λ (t : Option (List ℕ)). IsLineWith has_gaps g.sid t own line) (at.same_tag d) (subst (λ (s : List ℕ). IsLineWith has_gaps s tag own line) (at.same_sid d) is))

    listed_more : (d : GtidGroup) (line : List ℕ) → AreListed groups i old mid → IsLineWith has_gaps sid tag (intervals_of groups (pair_of sid tag)) line → Appends mid new line
        → AreListed groups (suc i) old new
    listed_more d line so_far is wrote = record {
      lines = so_far.lines ++ line;
      listed = lines_more groups i d so_far.lines line at.within so_far.listed (own_line d line is);
      written = Appends-trans old mid new _ _ so_far.written wrote;
    }

    -- one more group
    pub group_listed : (d : GtidGroup) (x : Unit {0}) → AreListed groups i old mid → WritesLine has_gaps sid tag (intervals_of groups (pair_of sid tag)) mid (Ok x) new → AreListed groups (i + 1) old new
    group_listed d x so_far (inl memory) = absurd (not_memory x (Ok x) refl memory.1)
    group_listed d x so_far (inr (line, is, wrote)) =
        let next : suc i ≡ i + 1 = omega arith in
        subst (λ (n : ℕ). AreListed groups n old new) next (listed_more d line so_far is wrote)

    -- memory ran out for a group, or the writer failed in its line
    pub group_stops : (d : GtidGroup) (e : Error) → AreListed groups i old mid → WritesLine has_gaps sid tag (intervals_of groups (pair_of sid tag)) mid (Err e) new
        → WritesSomeLines has_gaps groups old e new
    group_stops d e so_far (inl memory) = record {
      count = i;
      lines = so_far.lines;
      listed = so_far.listed;
      written = inl (memory.0, same_error e (Err e) refl memory.1, subst (λ (w : Option (List ℕ)). Appends old w so_far.lines) (sym memory.2) so_far.written);
    }
    group_stops d e so_far (inr (line, is, wrote)) = record {
      count = suc i;
      lines = so_far.lines ++ line;
      listed = lines_more groups i d so_far.lines line at.within so_far.listed (own_line d line is);
      written = inr (wrote.0, front_later so_far.lines line old mid new so_far.written wrote.1);
    }

  -- all groups
  pub all_listed : (groups : List GtidGroup) (count : ℕ) (old new : Option (List ℕ)) → AreListed groups count old new → length groups ≤ count
      → (lines : List ℕ) × AreLines has_gaps groups lines × Appends old new lines
  all_listed groups count old new so_far all =
      (so_far.lines, subst (λ (gs : List GtidGroup). AreLines has_gaps gs so_far.lines) (take_all count groups all) so_far.listed, so_far.written)
