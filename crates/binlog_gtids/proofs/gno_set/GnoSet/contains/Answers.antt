use Rattle.std.proofs.Common.{◌≡◌, ◌-◌, suc, ap, refl, arith}
use Rattle.std.proofs.lemmas.Grind.{common_steps}
use Rattle.binlog_gtids.specs.GnoSets.{starting_up_to}
use Rattle.binlog_gtids.proofs.GnoSets.{to_most, held_nowhere, held_in_last}
use Rattle.binlog_gtids.proofs.gno_set.GnoSet.contains.Goals as goal

pub index-requires : goal.index-requires
index-requires c =
    let is = c.self.inside.intervals.items in
    let at_is : c.count_starting_up_to-at.result ≡ starting_up_to c.args.gno is = cc in
    grind (arith, common_steps, to_most is c.args.gno)

pub returns-then-at-gt0 : goal.returns-then-at-gt0
returns-then-at-gt0 c =
    let is = c.self.inside.intervals.items in
    let at = c.count_starting_up_to-at.result in
    let at_is : starting_up_to c.args.gno is ≡ suc (at - 1) = omega (arith, c.count_starting_up_to-at.ensures, ap (starting_up_to c.args.gno) c.deref.ensures.value) in
    rw (← c.self.view_is, held_in_last is 0 c.args.gno (at - 1) c.index.result.now c.self.invariant at_is, ← c.index.ensures, c.end.ensures) refl

pub returns-else-at-gt0 : goal.returns-else-at-gt0
returns-else-at-gt0 c =
    let is = c.self.inside.intervals.items in
    let at_is : starting_up_to c.args.gno is ≡ 0 = omega (arith, c.count_starting_up_to-at.ensures, ap (starting_up_to c.args.gno) c.deref.ensures.value) in
    let none : c.count_starting_up_to-at.result ≡ 0 = omega arith in
    rw (← c.self.view_is, held_nowhere is 0 c.args.gno c.self.invariant at_is, none) refl
