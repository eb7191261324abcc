use Rattle.std.proofs.Common.{◌≡◌, ℕ, ◌+◌, ◌*◌, [], ◌∷◌, ◌++◌, List, take, sym, ap, ◌∙◌, arith}
use Rattle.std.proofs.lemmas.List.{length-set, take_more_set}
use Rattle.binlog_values.specs.Contents.{magnitude}
use Rattle.binlog_values.specs.DecimalGroups.{group_at, nines_at}
use Rattle.binlog_values.proofs.GroupLists.{nines_at_more}
use Rattle.binlog_values.proofs.decimal_groups.read_nines.Goals as goal

pub groups-preserved : goal.groups-preserved
groups-preserved c =
    let m = magnitude c.args.bytes.now in
    let i = c.groups.index in
    let group : c.group_number-group.result ≡ group_at (c.args.at + 4 * i) 9 m = c.group_number-group.ensures ∙ ap (λ (p : ℕ). group_at p 9 m) c.groups.invariant.1 in (
      length-set c.groups.groups i c.group_number-group.result ∙ c.groups.invariant.0,
      omega (arith, c.groups.invariant.1),
      take_more_set c.groups.groups i c.group_number-group.result (omega (arith, c.groups.invariant.0))
          ∙ (λ j. c.groups.invariant.2 j ++ group j ∷ []) ∙ sym (nines_at_more i c.args.at m),
    )

pub returns : goal.returns
returns c =
    let all : c.groups.index ≡ c.args.count = omega arith in
    rw all at c.groups.invariant.2
