use Rattle.std.proofs.Common.{◌≡◌, ◌-◌, suc, ap, arith}
use Rattle.std.proofs.lemmas.Grind.{common_steps}
use Rattle.binlog_gtids.specs.GnoSets.{starting_up_to}
use Rattle.binlog_gtids.proofs.GnoSets.{to_most}
use Rattle.binlog_gtids.proofs.GnoDifferences.{covers, covered, none_covered}
use Rattle.binlog_gtids.proofs.gno_set.GnoSet.contains_all.Goals as goal

pub index-requires : goal.index-requires
index-requires c =
    let is = c.self.inside.intervals.items in
    let at_is : c.count_starting_up_to-at.result ≡ starting_up_to c.args.start is = cc in
    grind (arith, common_steps, to_most is c.args.start)

pub returns-then-at-gt0 : goal.returns-then-at-gt0
returns-then-at-gt0 c =
    let is = c.self.inside.intervals.items in
    let at = c.count_starting_up_to-at.result in
    let at_is : starting_up_to c.args.start is ≡ suc (at - 1) = omega (arith, c.count_starting_up_to-at.ensures, ap (starting_up_to c.args.start) c.deref.ensures.value) in
    let d = c.index.result.now in
    rw (← c.self.view_is, c.end.ensures, c.index.ensures) (covers is c.args.start c.args.end (at - 1) d c.self.invariant c.requires at_is, covered is c.args.start c.args.end (at - 1) d c.self.invariant c.requires at_is)

pub returns-else-at-gt0 : goal.returns-else-at-gt0
returns-else-at-gt0 c =
    let is = c.self.inside.intervals.items in
    let at_is : starting_up_to c.args.start is ≡ 0 = omega (arith, c.count_starting_up_to-at.ensures, ap (starting_up_to c.args.start) c.deref.ensures.value) in
    let none : c.count_starting_up_to-at.result ≡ 0 = omega arith in
    rw (← c.self.view_is, none) (λ h. absurd cc, λ all. absurd (none_covered is c.args.start c.args.end c.self.invariant c.requires at_is all))
