-- Transactions of a file that aren't there show in the next file's list.
use Rattle.std.proofs.Common.{◌≡◌, ℕ, suc, ◌<◌, Bool, true, false, ◌||◌, ◌==◌, List, [], ◌∷◌, ◌++◌, Option, Some, None, refl, sym, ap, subst, ◌∙◌, arith}
use Rattle.std.specs.Option.{option_or}
use Rattle.std.specs.Ordering.{is_eq}
use Rattle.std.specs.Cmp.{tied_itself}
use Rattle.std.proofs.lemmas.Bool.Decides.{nat_tests}
use Rattle.binlog_mariadb.specs.declared.maria_gtid.MariaGtid.{MariaGtid}
use Rattle.binlog_gtid_sets.specs.GtidGroups.{Pair, is_same}
use Rattle.binlog_gtid_sets.proofs.GtidGroups.{pairs_total}
use Rattle.binlog_maria_gtids.specs.LastGtids.{Origin, origin_of, is_of, sequence_for, last_of}
use Rattle.binlog_maria_gtids.proofs.LastGtids.{last-append, origin_same}
use Rattle.binlog_commands.specs.Wholes.{Gtid, is_gtid, is_known, AreNew, AreNewer}

-- ---- MySQL's

or_true : (b : Bool) → (b || true) ≡ true
or_true true = refl
or_true false = refl

same_pair : (p : Pair) → is_same p p ≡ true
same_pair p = ap is_eq (tied_itself pairs_total p)

same_number : (n : ℕ) → (n == n) ≡ true
same_number n = grind (arith, nat_tests)

is_itself : (gtid : Gtid) → is_gtid gtid gtid.pair gtid.number ≡ true
is_itself gtid = rw (same_pair gtid.pair) (same_number gtid.number)

known_in : (list : Pair → ℕ → Bool) (front : List Gtid) (gtid : Gtid) (rest : List Gtid) → is_known list (front ++ gtid ∷ rest) gtid.pair gtid.number ≡ true
known_in list [] gtid rest = rw (is_itself gtid) refl
known_in list (first ∷ front) gtid rest = rw (known_in list front gtid rest) (or_true (is_gtid first gtid.pair gtid.number))

pub none_of_mysql : (list : Pair → ℕ → Bool) (front rest : List Gtid) → AreNew list front rest
    → ((pair : Pair) (n : ℕ) → is_known list (front ++ rest) pair n ≡ is_known list front pair n) → rest ≡ []
none_of_mysql list front [] new same = refl
none_of_mysql list front (gtid ∷ rest) new same =
    let both : true ≡ false = sym (known_in list front gtid rest) ∙ same gtid.pair gtid.number ∙ new 0 gtid (omega arith) in absurd cc

-- ---- MariaDB's

newer_first : (before gs : List MariaGtid) (g : MariaGtid) (o : Origin) (n s : ℕ) (b : Bool) → is_of o g ≡ b → ((m : ℕ) → last_of before (origin_of g) ≡ Some m → m < g.sequence)
    → last_of before o ≡ Some n → sequence_for o g ≡ Some s → n < s
newer_first before gs g o n s true of newer known last =
    let number : Some g.sequence ≡ Some s = rw of at last in
    let own : last_of before (origin_of g) ≡ Some n = subst (λ (p : Origin). last_of before p ≡ Some n) (sym (origin_same g o of)) known in
    let less : n < g.sequence = newer n own in
    let same : g.sequence ≡ s = cc in omega arith
newer_first before gs g o n s false of newer known last =
    let none : None ≡ Some s = rw of at last in absurd cc

newer_by : (before gs : List MariaGtid) (g : MariaGtid) (o : Origin) (n s : ℕ) (found : Option ℕ) → last_of gs o ≡ found
    → ((m : ℕ) → last_of before (origin_of g) ≡ Some m → m < g.sequence) → last_of before o ≡ Some n → option_or found (sequence_for o g) ≡ Some s
    → (last_of gs o ≡ Some s → n < s) → n < s
newer_by before gs g o n s (Some t) is newer known last others = others (is ∙ last)
newer_by before gs g o n s None is newer known last others = newer_first before gs g o n s (is_of o g) refl newer known last

newer_last : (before rest : List MariaGtid) (o : Origin) (n s : ℕ) → AreNewer before rest → last_of before o ≡ Some n → last_of rest o ≡ Some s → n < s
newer_last before [] o n s new known last = absurd cc
newer_last before (g ∷ gs) o n s new known last =
    let others : AreNewer before gs = λ k d within. new (suc k) d (omega arith) in
    newer_by before gs g o n s (last_of gs o) refl (new 0 g (omega arith)) known last (λ more. newer_last before gs o n s others known more)

-- The origin of a GTID in a list has a last one.
some_by : (g : MariaGtid) (found : Option ℕ) → sequence_for (origin_of g) g ≡ Some g.sequence → (s : ℕ) × (option_or found (sequence_for (origin_of g) g) ≡ Some s)
some_by g (Some t) own = (t, refl)
some_by g None own = (g.sequence, own)

own_sequence : (g : MariaGtid) → sequence_for (origin_of g) g ≡ Some g.sequence
own_sequence g = rw (same_number g.domain, same_number g.server_id) refl

pub none_of_maria : (before rest : List MariaGtid) → AreNewer before rest → ((o : Origin) → last_of (before ++ rest) o ≡ last_of before o) → rest ≡ []
none_of_maria before [] new same = refl
none_of_maria before (g ∷ gs) new same =
    let some = some_by g (last_of gs (origin_of g)) (own_sequence g) in
    let last : last_of (g ∷ gs) (origin_of g) ≡ Some some.0 = some.1 in
    let all : last_of before (origin_of g) ≡ Some some.0 =
    sym (same (origin_of g)) ∙ last-append before (g ∷ gs) (origin_of g) ∙ ap (λ (r : Option ℕ). option_or r (last_of before (origin_of g))) last in
    let less : some.0 < some.0 = newer_last before (g ∷ gs) (origin_of g) some.0 some.0 new all last in
    absurd (omega arith)
