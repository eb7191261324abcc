use Rattle.std.proofs.Common.{◌≡◌, ◌≢◌, refl, rules}
use Rattle.std.specs.declared.cmp.Ordering.{Ordering}
use Rattle.std.specs.declared.cmp.Ordering.TheVariants.{Less, Equal, Greater}
use Rattle.std.specs.Ordering.{ordering_then, nat_cmp}
use Rattle.std.specs.Cmp.Lexicographic.{slice_cmp}
use Rattle.binlog_gtid_sets.specs.GtidGroups.{compare_pairs}
use Rattle.binlog_gtid_sets.proofs.gtid_group.compare_pairs.Goals as goal

decided : (r s : Ordering) → r ≢ Equal → r ≡ ordering_then r s
decided Less s not = refl
decided Equal s not = absurd (not refl)
decided Greater s not = refl

pub returns-in-Equal : goal.returns-in-Equal
unfolding compare_pairs
returns-in-Equal c =
    let first : slice_cmp nat_cmp c.args.sid.now c.args.other_sid.now ≡ Equal = search rules in
    rw first (search rules)

pub returns-in_default : goal.returns-in_default
unfolding compare_pairs
returns-in_default c =
    let first : slice_cmp nat_cmp c.args.sid.now c.args.other_sid.now ≡ c.cmp.result = search rules in
    rw first (decided c.cmp.result _ c.in_default.not-Equal)
