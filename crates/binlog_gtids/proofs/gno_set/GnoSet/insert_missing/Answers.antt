use Rattle.std.proofs.Common.{◌≡◌, ◌≤◌, ◌∙◌, ◌||◌, ℕ, get_or, add-one, arith}
use Rattle.binlog_gtids.specs.GnoSets.{AreApart, is_held, is_within}
use Rattle.binlog_gtids.proofs.GnoSets.{interval, some_at}
use Rattle.binlog_gtids.proofs.GnoDifferences.{start_held, step_held, step_ends, ends_at, none_within, touching_ends, touching_apart, touching_starts}
use Rattle.binlog_gtids.proofs.gno_set.GnoSet.insert_missing.Goals as goal
use Rattle.binlog_gtids.proofs.gno_set.GnoSet.insert_missing.Goals.{then-next-start+in_ok-insert, else-next-start}

pub loop-other-init : goal.loop-other-init
loop-other-init c =
    let i = c.args.interval.now in
    let is = c.args.others.now in
    record {
      from_start = omega (arith, c.start-next.ensures);
      ends = rw (c.start-next.ensures, c.touching-other-items.ensures) (touching_ends is 0 i.start i.end c.requires.apart c.requires.some);
      held = λ n. rw (c.start-next.ensures, c.touching-other-items.ensures) (start_held is i.start i.end n (is_held c.args.self.now n) c.requires.apart c.requires.some);
    }

pub insert-requires-clause-small : goal.insert-requires-clause-small
insert-requires-clause-small c =
    let i = c.args.interval.now in
    let items = c.touching-other-items in
    let apart : AreApart 0 items.result.now = rw items.ensures (touching_apart c.args.others.now i.start i.end c.requires.apart) in
    let each = some_at items.result.now 0 c.loop-other.other-index (interval 0 0) apart c.loop-other-test.true in
    omega (arith, each.1, each.2, c.start-then-next-start.ensures)

pub loop-other-preserved : goal.loop-other-preserved
loop-other-preserved c =
    let i = c.args.interval.now in
    let items = c.touching-other-items in
    let k = c.loop-other.other-index in
    let apart : AreApart 0 items.result.now = rw items.ensures (touching_apart c.args.others.now i.start i.end c.requires.apart) in
    let each = some_at items.result.now 0 k (interval 0 0) apart c.loop-other-test.true in
    let starts : (get_or items.result.now k (interval 0 0)).start ≤ i.end = rw items.ensures (touching_starts c.args.others.now i.start i.end k (interval 0 0) (rw items.ensures at c.loop-other-test.true)) in
    let put : (n : ℕ) → is_held c.if-next-start.self n ≡ (is_within (interval c.loop-other.next (get_or items.result.now k (interval 0 0)).start) n || is_held c.loop-other.self n) =
    elim c.if-next-start.branch [
      | then-next-start+in_ok-insert w ↦ (λ n. rw (w.self-is, ← w.start-then-next-start.ensures) (w.in_ok-insert.ensures.ok n))
      | else-next-start w ↦ (λ n. rw w.self-is (none_within _ _ n (is_held c.loop-other.self n) (omega (arith, w.if-next-start.false, c.start.ensures))))
    ] in
    record {
      from_start = omega (arith, c.end-next.ensures, c.loop-other.invariant.from_start, ends_at items.result.now k c.loop-other.next (interval 0 0) c.loop-other-test.true c.loop-other.invariant.ends);
      ends = rw (c.end-next.ensures, add-one) (step_ends items.result.now 0 k (interval 0 0) apart c.loop-other-test.true);
      held = λ n. rw (c.end-next.ensures, add-one)
          (step_held items.result.now 0 k c.loop-other.next i.end n (interval 0 0) (is_held c.loop-other.self n) _ apart c.loop-other-test.true c.loop-other.invariant.ends starts (put n)
          ∙ c.loop-other.invariant.held n);
    }
