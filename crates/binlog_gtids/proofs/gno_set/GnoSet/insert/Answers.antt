use Rattle.std.proofs.Common.{◌≡◌, arith, rules}
use Rattle.std.proofs.lemmas.Grind.{common_steps}
use Rattle.binlog_gtids.specs.GnoSets.{ending_below, starting_up_to}
use Rattle.binlog_gtids.proofs.GnoSets.{in_order, from_up_to, to_within, held_alone, apart_alone, held_joined, apart_joined}
use Rattle.binlog_gtids.proofs.gno_set.GnoSet.insert.Goals as goal

pub count_starting_behind-to-requires-clause-least : goal.count_starting_behind-to-requires-clause-least
count_starting_behind-to-requires-clause-least c =
    let is = c.self.inside.intervals.items in
    let from_is : c.count_ending_below-from.result ≡ ending_below c.args.start is = cc in
    let to_is : starting_up_to c.args.end c.deref-2.result.now ≡ starting_up_to c.args.end is = cc in
    omega (arith, from_is, to_is, in_order is 0 c.args.start c.args.end c.self.invariant c.requires.some)

pub add-requires : goal.add-requires
add-requires c =
    let is = c.self.inside.intervals.items in
    let from_is : c.count_ending_below-from.result ≡ ending_below c.args.start is = cc in
    let to_is : c.count_starting_behind-to.result ≡ starting_up_to c.args.end is = cc in
    omega (arith, c.if-from-to.true, to_within is c.args.start c.args.end _ _ c.self.invariant c.requires.some from_is to_is)

pub invariant_of-self : goal.invariant_of-self
invariant_of-self c =
    let is = c.self.inside.intervals.items in
    let from_is : c.count_ending_below-from.result ≡ ending_below c.args.start is = cc in
    let to_is : c.count_starting_behind-to.result ≡ starting_up_to c.args.end is = cc in
    apart_alone c.add.result is c.add.new.intervals.items c.args.start c.args.end _ _ c.self.invariant c.requires.some from_is to_is c.if-from-to.true
    c.requires.positive c.requires.small (search rules) (search rules)

pub returns-then-from-to-clause-ok : goal.returns-then-from-to-clause-ok
returns-then-from-to-clause-ok c =
    let is = c.self.inside.intervals.items in
    let from_is : c.count_ending_below-from.result ≡ ending_below c.args.start is = cc in
    let to_is : c.count_starting_behind-to.result ≡ starting_up_to c.args.end is = cc in
    rw (← c.self.view_is)
    (held_alone c.add.result is c.add.new.intervals.items c.args.start c.args.end _ _ c.self.invariant c.requires.some from_is to_is c.if-from-to.true (search rules))

pub index-requires : goal.index-requires
index-requires c =
    let is = c.self.inside.intervals.items in
    let from_is : c.count_ending_below-from.result ≡ ending_below c.args.start is = cc in
    let to_is : c.count_starting_behind-to.result ≡ starting_up_to c.args.end is = cc in
    let within = to_within is c.args.start c.args.end _ _ c.self.invariant c.requires.some from_is to_is in
    let ordered = from_up_to is c.args.start c.args.end _ _ c.self.invariant c.requires.some from_is to_is in
    grind (arith, common_steps, within, ordered, c.if-from-to.false)

pub overflow_sub-to : goal.overflow_sub-to
overflow_sub-to c =
    let is = c.self.inside.intervals.items in
    let from_is : c.count_ending_below-from.result ≡ ending_below c.args.start is = cc in
    let to_is : c.count_starting_behind-to.result ≡ starting_up_to c.args.end is = cc in
    let within = to_within is c.args.start c.args.end _ _ c.self.invariant c.requires.some from_is to_is in
    let ordered = from_up_to is c.args.start c.args.end _ _ c.self.invariant c.requires.some from_is to_is in
    grind (arith, common_steps, within, ordered, c.if-from-to.false)

pub index-requires-2 : goal.index-requires-2
index-requires-2 c =
    let is = c.self.inside.intervals.items in
    let from_is : c.count_ending_below-from.result ≡ ending_below c.args.start is = cc in
    let to_is : c.count_starting_behind-to.result ≡ starting_up_to c.args.end is = cc in
    let within = to_within is c.args.start c.args.end _ _ c.self.invariant c.requires.some from_is to_is in
    let ordered = from_up_to is c.args.start c.args.end _ _ c.self.invariant c.requires.some from_is to_is in
    grind (arith, common_steps, within, ordered, c.if-from-to.false)

pub replace-requires-clause-some : goal.replace-requires-clause-some
replace-requires-clause-some c =
    let is = c.self.inside.intervals.items in
    let from_is : c.count_ending_below-from.result ≡ ending_below c.args.start is = cc in
    let to_is : c.count_starting_behind-to.result ≡ starting_up_to c.args.end is = cc in
    let within = to_within is c.args.start c.args.end _ _ c.self.invariant c.requires.some from_is to_is in
    let ordered = from_up_to is c.args.start c.args.end _ _ c.self.invariant c.requires.some from_is to_is in
    grind (arith, common_steps, within, ordered, c.if-from-to.false)

pub replace-requires-clause-within : goal.replace-requires-clause-within
replace-requires-clause-within c =
    let is = c.self.inside.intervals.items in
    let from_is : c.count_ending_below-from.result ≡ ending_below c.args.start is = cc in
    let to_is : c.count_starting_behind-to.result ≡ starting_up_to c.args.end is = cc in
    let within = to_within is c.args.start c.args.end _ _ c.self.invariant c.requires.some from_is to_is in
    let ordered = from_up_to is c.args.start c.args.end _ _ c.self.invariant c.requires.some from_is to_is in
    grind (arith, common_steps, within, ordered, c.if-from-to.false)

pub invariant_of-self-2 : goal.invariant_of-self-2
invariant_of-self-2 c =
    let is = c.self.inside.intervals.items in
    let from_is : c.count_ending_below-from.result ≡ ending_below c.args.start is = cc in
    let to_is : c.count_starting_behind-to.result ≡ starting_up_to c.args.end is = cc in
    let ordered = from_up_to is c.args.start c.args.end _ _ c.self.invariant c.requires.some from_is to_is in
    apart_joined is c.args.start c.args.end _ _ c.self.invariant c.requires.some from_is to_is c.requires.positive c.requires.small (omega (arith, ordered, c.if-from-to.false))
    c.index.result.now c.index-2.result.now c.index.ensures c.index-2.ensures c.replace.new.intervals.items (search rules)

pub returns-clause-ok : goal.returns-clause-ok
returns-clause-ok c =
    let is = c.self.inside.intervals.items in
    let from_is : c.count_ending_below-from.result ≡ ending_below c.args.start is = cc in
    let to_is : c.count_starting_behind-to.result ≡ starting_up_to c.args.end is = cc in
    let ordered = from_up_to is c.args.start c.args.end _ _ c.self.invariant c.requires.some from_is to_is in
    rw (← c.self.view_is)
    (held_joined is c.args.start c.args.end _ _ c.self.invariant c.requires.some from_is to_is c.requires.positive c.requires.small (omega (arith, ordered, c.if-from-to.false))
    c.index.result.now c.index-2.result.now c.index.ensures c.index-2.ensures c.replace.new.intervals.items (search rules))
