use Rattle.std.proofs.Common.{◌≡◌, ℕ, ◌+◌, ◌-◌, inr, sym, ap, ◌∙◌, arith}
use Rattle.binlog_values.specs.Contents.{magnitude}
use Rattle.binlog_values.specs.DecimalGroups.{group_at}
use Rattle.binlog_values.proofs.GroupLists.{front_step, front_found, front_end}
use Rattle.binlog_values.proofs.decimal_groups.front_of.Goals as goal

before : (place : ℕ) → place ≡ place + 4 - 4
before place = omega arith

pub zeros-preserved : goal.zeros-preserved
zeros-preserved c = (
  omega arith,
  sym (front_step c.args.count c.zeros.index c.zeros.place c.zeros.first c.group_number-first.result (magnitude c.args.bytes.now) (omega arith) c.if-first-ne0.false c.group_number-first.ensures)
      ∙ c.zeros.invariant.1,
  inr (omega arith, c.group_number-first.ensures ∙ ap (λ (p : ℕ). group_at p 9 (magnitude c.args.bytes.now)) (before c.zeros.place)),
)

pub returns-then-first-ne0-clause-text : goal.returns-then-first-ne0-clause-text
returns-then-first-ne0-clause-text c =
    sym (front_found (c.args.count - c.zeros.index) c.zeros.place c.zeros.first (magnitude c.args.bytes.now) c.if-first-ne0.true) ∙ c.zeros.invariant.1

pub returns-clause-text : goal.returns-clause-text
returns-clause-text c =
    let none : c.args.count - c.zeros.index ≡ 0 = omega arith in
    sym (front_end c.zeros.place c.zeros.first (magnitude c.args.bytes.now)) ∙ rw none at c.zeros.invariant.1
